-- The table passes the test of its rule at each entry.
use mathlib.Core.Path.{refl}
use Rattle.scan.proofs.Tests.{base}
use Rattle.scan.proofs.Marks.new.Goals as goal

pub invariant_of-result : goal.invariant_of-result
invariant_of-result c = (base _ tt refl).marked

pub returns : goal.returns
returns c = base _ tt refl
