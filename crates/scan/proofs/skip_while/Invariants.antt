-- The run from `at` is the run from i, by each test that the code's decides.
use Rattle.std.proofs.Common.{◌≡◌, ℕ, Bool, length, ◌-◌}
use Rattle.rules.specs.Scan.{skip}
use Rattle.scan.specs.Skips.{Decides}
use Rattle.scan.proofs.skip_while.Given as goal

abbrev pub invariant-loop-i : goal.invariant-loop-i
invariant-loop-i g l = (P : ℕ → Bool) → Decides (goal.F-post g l.test) P → skip P l.s l.at ≡ skip P l.s l.i

abbrev pub decreases-loop-i : goal.decreases-loop-i
decreases-loop-i g l = length l.s - l.i
