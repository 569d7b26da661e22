-- `replay::replay` is safe and ends: at most as many records as bytes were passed, and what is lent lies in the buffers.
use Prim.Native.Nat.{◌≤◌, ◌-◌}
use lib.ListN.{length}
use Rattle.replay.specs.Lending.{IsWithin}
use Rattle.replay.proofs.replay.Given as goal

abbrev pub invariant-loop-at : goal.invariant-loop-at
invariant-loop-at l = record {
  counted : l.count ≤ l.at;
  inside : l.at ≤ length l.input;
  lent : IsWithin l.lent (length l.buffers.page.now) (length l.buffers.table.now);
}

abbrev pub decreases-loop-at : goal.decreases-loop-at
decreases-loop-at l = length l.input - l.at
