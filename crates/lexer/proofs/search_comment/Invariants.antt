-- `lexer::search_comment` meets its contract: the search from `at` is the search from i.
use mathlib.Core.Path.{◌≡◌}
use Prim.Native.Nat.{◌-◌}
use lib.ListN.{length}
use Rattle.lexer.proofs.Comment.{searched}
use Rattle.lexer.proofs.search_comment.Given as goal

abbrev pub invariant-loop-i : goal.invariant-loop-i
invariant-loop-i l = searched l.s l.at ≡ searched l.s l.i

abbrev pub decreases-loop-i : goal.decreases-loop-i
decreases-loop-i l = length l.s - l.i
