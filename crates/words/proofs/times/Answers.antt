-- `words::times` meets its contract: n words before `start` are k, and from there to i stands the word so far.
use mathlib.Core.Path.{◌≡◌, ◌∙◌}
use Prim.Native.Nat.{◌-◌, ◌≤◌, ◌<◌}
use native.Mathlib.Omega.{arith}
use lib.ListN.{length}
use Rattle.words.specs.Separators.{separators}
use Rattle.words.proofs.Gaps.{gap_in}
use Rattle.words.proofs.Walk.{one_at_most, walk_on, walk_cut, walk_end}
use Rattle.words.proofs.times.Goals as goal

pub overflow_add-i : goal.overflow_add-i
overflow_add-i c =
    let n : (0 < c.in-Some.g) × (c.in-Some.g ≤ length c.args.v.now - c.loop-i.i) = gap_in (separators c.args.white) _ _ _ _ c.gap.ensures c.in-Some.is in
    omega arith

pub loop-i-preserved-in-Some : goal.loop-i-preserved-in-Some
loop-i-preserved-in-Some c =
    let m : c.from-n.result ≤ 1 = rw c.from-n.ensures (one_at_most c.is_word.result) in
    let n : (0 < c.in-Some.g) × (c.in-Some.g ≤ length c.args.v.now - c.loop-i.i) = gap_in (separators c.args.white) _ _ _ _ c.gap.ensures c.in-Some.is in
    let w = walk_cut _ _ _ _ _ _ c.loop-i.invariant.3 c.loop-i-test.true _ c.gap.ensures _ c.in-Some.is _ (c.from-n.ensures ∙ c.is_word.ensures) in
    (omega arith, omega arith, omega arith, w)

pub loop-i-preserved : goal.loop-i-preserved
loop-i-preserved c =
    let w = walk_on _ _ _ _ _ _ c.loop-i.invariant.3 c.loop-i-test.true _ c.gap.ensures c.loop-i.invariant.0 c.in_default.is in
    (omega arith, omega arith, omega arith, w)

pub returns : goal.returns
returns c =
    let z : c.loop-i.i ≡ length c.args.v.now = omega arith in
    walk_end _ _ _ _ _ _ c.loop-i.invariant.3 z _ (c.from.ensures ∙ c.is_word-2.ensures)
