-- `tree::close_tag` meets its contract: by the innermost open tag and its name.
use Rattle.std.proofs.Common.{Some}
use mathlib.Core.Path.{refl, ap}
use Prim.Native.Nat.{◌<◌}
use native.Mathlib.Omega.{arith}
use Rattle.tree.proofs.Steps.{step_done, held_none, held_other, held_close}
use Rattle.tree.proofs.close_tag.Goals as goal
use Rattle.tree.proofs.close_tag.Goals.{Else-inner-eq0}

pub returns-then-inner-eq0 : goal.returns-then-inner-eq0
returns-then-inner-eq0 c = let a = c.args in λ void.
    step_done (ap Some c.moved.ensures) (λ t hd R H. held_none H void a.page.now a.a a.e a.next c.if-inner-eq0.true)

-- a tag is open
some : (c : Else-inner-eq0) → 0 < c.args.s.inner
some c = omega (arith, c.if-inner-eq0.false)

pub returns-then-has_name : goal.returns-then-has_name
returns-then-has_name c = let a = c.args in λ void.
    step_done refl
    (λ t hd R H. held_close H void a.page.now a.a a.e a.next (some (goal.at.returns-then-has_name c).Else-inner-eq0) c.row_at-n.ensures c.has_name.ensures
    c.if-has_name.true (rw c.ended_by-ended.ensures at c.close_row.ensures))

pub returns : goal.returns
returns c = let a = c.args in λ void.
    step_done (ap Some c.moved-2.ensures)
    (λ t hd R H. held_other H void a.page.now a.a a.e a.next (some (goal.at.returns c).Else-inner-eq0) c.row_at-n.ensures c.has_name.ensures
    c.if-has_name.false)
