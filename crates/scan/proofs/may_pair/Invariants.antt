-- No pair stands at the places up to i.
use Prim.Native.Nat.{◌-◌}
use Rattle.scan.specs.Pairs.{Nowhere, pair_at}
use Rattle.scan.proofs.may_pair.Given as goal

abbrev pub invariant-loop-i : goal.invariant-loop-i
invariant-loop-i l = Nowhere (pair_at l.s l.d l.a l.b) l.from l.i

abbrev pub decreases-loop-i : goal.decreases-loop-i
decreases-loop-i l = l.to - l.i
