-- `profile::valid::name_fine` meets its contract: the bytes before j are fine.
use mathlib.Core.Path.{◌≡◌}
use Rattle.rules.specs.Sound.{all}
use Rattle.rules.specs.Profile.{name_byte_fine}
use Rattle.profile.proofs.valid.name_fine.Given as goal

abbrev pub invariant-loop-j : goal.invariant-loop-j
invariant-loop-j l = l.ok ≡ all (name_byte_fine l.bytes l.i) l.j
