-- `lexer::skip_attributes` meets its contract: the attributes from `from` on end where those do from a place on after which, past
-- white, the loop stands.
use mathlib.Core.Path.{◌≡◌}
use Prim.Native.Nat.{ℕ, ◌-◌, ◌≤◌}
use lib.ListN.{length}
use Rattle.rules.specs.Attributes.{attributes_end}
use Rattle.rules.specs.Scan.{skip}
use Rattle.scan.specs.Marks.{white_in}
use Rattle.lexer.proofs.skip_attributes.Given as goal

abbrev pub invariant-loop-a : goal.invariant-loop-a
invariant-loop-a l = (i : ℕ) × (i ≤ length l.s) × (l.at ≡ skip (white_in l.t) l.s i)
    × (attributes_end (white_in l.t) (length l.s) l.s l.from ≡ attributes_end (white_in l.t) (length l.s) l.s i)

abbrev pub decreases-loop-a : goal.decreases-loop-a
decreases-loop-a l = length l.s - l.at
