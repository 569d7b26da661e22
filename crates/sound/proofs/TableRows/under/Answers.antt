-- `sound::TableRows::under` meets its contract: what reaches h among all lower rows is what reaches it among those below p.
use native.Mathlib.Omega.{arith}
use mathlib.Core.Path.{◌≡◌, ap, ◌∙◌}
use mathlib.Core.List.{List}
use Prim.Native.Nat.{ℕ, suc, ◌≤◌, ◌-◌}
use Rattle.rules.specs.declared.Node.{Node}
use Rattle.rules.specs.Sound.{reaching, last_at, parent_at}
use Rattle.rules.proofs.Sound.{reaching_le, climb_step}
use Rattle.sound.proofs.Rows.{under_none, under_top, under_other, under_parent}
use Rattle.sound.proofs.TableRows.under.Goals as goal
use Rattle.sound.proofs.TableRows.under.Goals.{After-struct_known-in-loop-p-2-1}

pub loop-p-init : goal.loop-p-init
loop-p-init c = let start = c.requires.h_in_bounds.1 in (start.low, start.same)

pub returns-then-p-eq0 : goal.returns-then-p-eq0
returns-then-p-eq0 c = let a = c.args in under_none a.self.now.table.now a.h c.loop-p.p c.loop-p.invariant.1 a.n c.if-p-eq0.true c.loop-p-test.true

-- the row p - 1 reaches h
pub returns-then-h-last : goal.returns-then-h-last
returns-then-h-last c = let a = c.args in
    let l = c.loop-p in
    let r : c.row-m.result.last ≡ last_at a.self.now.table.now (l.p - 1) = ap (λ (n : Node). n.last) c.row-m.ensures in
    under_other a.self.now.table.now a.h l.p l.invariant.1 a.n (l.p - 1) (omega arith) (omega arith) c.loop-p-test.true

-- it does not: its parent is right, and lower
module _ (c : After-struct_known-in-loop-p-2-1) where
  abbrev words : List ℕ
  words = c.args.self.now.table.now

  abbrev row : ℕ
  row = c.loop-p.p - 1

  parent_right : c.row-m.result.parent ≡ parent_at words row
  parent_right =
      ap (λ (n : Node). n.parent) c.row-m.ensures
      ∙ c.requires.by_index row (omega arith)

  lower : parent_at words row ≤ row
  lower = reaching_le (last_at words) row row

pub loop-p-smaller : goal.loop-p-smaller
loop-p-smaller c =
    omega (arith, parent_right (goal.at.loop-p-smaller c).After-struct_known-in-loop-p-2-1, lower (goal.at.loop-p-smaller c).After-struct_known-in-loop-p-2-1)

pub loop-p-preserved : goal.loop-p-preserved
loop-p-preserved c = let h : ℕ = c.args.h in
    let l = c.loop-p in
    let last = last_at (words (goal.at.loop-p-preserved c).After-struct_known-in-loop-p-2-1) in
    let e : suc (row (goal.at.loop-p-preserved c).After-struct_known-in-loop-p-2-1) ≡ l.p = omega arith in
    let n = c.row-m in
    let r : n.result.last ≡ last (row (goal.at.loop-p-preserved c).After-struct_known-in-loop-p-2-1) = ap (λ (n : Node). n.last) n.ensures in
    let step = climb_step last h (row (goal.at.loop-p-preserved c).After-struct_known-in-loop-p-2-1) n.result.parent (omega arith) (omega arith)
    (parent_right (goal.at.loop-p-preserved c).After-struct_known-in-loop-p-2-1) in (
      omega (
        arith,
        parent_right (goal.at.loop-p-preserved c).After-struct_known-in-loop-p-2-1,
        lower (goal.at.loop-p-preserved c).After-struct_known-in-loop-p-2-1,
      ),
      step ∙ ap (reaching last h) e ∙ l.invariant.1,
    )

pub returns-then-p-eq0-2 : goal.returns-then-p-eq0-2
returns-then-p-eq0-2 c = let a = c.args in under_top a.self.now.table.now a.h c.loop-p.p c.loop-p.invariant.1 a.n c.if-p-eq0-2.true c.loop-p-test.false

-- p is the row's own parent
pub returns : goal.returns
returns c = let a = c.args in
    let l = c.loop-p in
    rw c.row-m-2.ensures (under_parent a.self.now.table.now a.h l.p l.invariant.1 a.n (l.p - 1) (omega arith) c.loop-p-test.false c.requires.h_in_bounds.2)
