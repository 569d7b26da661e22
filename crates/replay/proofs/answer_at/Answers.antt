-- `replay::answer_at` meets its contract: a record lies in the input, and what it is lent in the buffers.
use native.Mathlib.Omega.{arith}
use mathlib.Core.Path.{sym}
use Prim.Native.Nat.{ℕ}
use lib.ListN.{length-append, length-drop, length-take}
use Rattle.records.proofs.Within.{record_within}
use Rattle.replay.proofs.Within.{lent_within}
use Rattle.replay.proofs.answer_at.Goals as goal

pub overflow_add-end : goal.overflow_add-end
overflow_add-end c = let r = record_within c.args.input.now c.args.at c.in_ok-head.field-0 (sym c.in_ok-head.ensures) in omega arith

pub slice_bounds-body-end : goal.slice_bounds-body-end
slice_bounds-body-end c = let r = record_within c.args.input.now c.args.at c.in_ok-head.field-0 (sym c.in_ok-head.ensures) in omega arith

pub overflow_add-result : goal.overflow_add-result
overflow_add-result c = let r = record_within c.args.input.now c.args.at c.in_ok-head.field-0 (sym c.in_ok-head.ensures) in omega arith

pub returns : goal.returns
returns c =
    let r = record_within c.args.input.now c.args.at c.in_ok-head.field-0 (sym c.in_ok-head.ensures) in
    let l = lent_within _ _ _ _ c.args.before c.in_ok-lent.lent c.requires c.in_ok-lent.ensures.value in
    record {
      later = omega arith;
      inside = omega arith;
      lent = record {
        bytes = simp length-append (omega (arith, l.bytes, c.lend.auto, length-take {A = ℕ}, length-drop {A = ℕ}));
        words = simp length-append (omega (arith, c.answer.auto, length-take {A = ℕ}, length-drop {A = ℕ}));
      };
    }
