-- `profile::valid::all_fine` meets its contract: the numbers and the names before i are fine.
use mathlib.Core.Path.{◌≡◌}
use mathlib.Core.Bool.{◌&&◌}
use Rattle.rules.specs.Sound.{all}
use Rattle.rules.specs.Profile.{name_fine, numbers_fine}
use Rattle.profile.proofs.valid.all_fine.Given as goal

abbrev pub invariant-loop-i : goal.invariant-loop-i
invariant-loop-i l = l.ok ≡ (numbers_fine l.bytes && all (name_fine l.bytes) l.i)
