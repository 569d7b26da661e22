-- `profile::names::VoidNames::is_listed` meets its contract: if the name is void, the way from i leads to it.
use Prim.Native.Nat.{◌≤◌}
use Rattle.rules.specs.Scan.{part}
use Rattle.profile.proofs.Slots.{Ahead}
use Rattle.profile.proofs.names.VoidNames.is_listed.Given as goal

abbrev pub invariant-loop-i : goal.invariant-loop-i
invariant-loop-i l = (l.i ≤ 24) × Ahead l.self.profile.bytes.now l.self.heads (part l.page l.a l.e) l.i

abbrev pub decreases-loop-i : goal.decreases-loop-i
decreases-loop-i l = l.i
