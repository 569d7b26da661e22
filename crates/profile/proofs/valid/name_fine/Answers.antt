-- `profile::valid::name_fine` meets its contract: the bytes before j are fine.
use mathlib.Core.Path.{◌≡◌, refl}
use native.Mathlib.Omega.{arith}
use native.Mathlib.Numerals.{add-one}
use Rattle.rules.specs.Sound.{all}
use Rattle.rules.specs.Profile.{name_byte_fine, name_fine}
use Rattle.profile.proofs.valid.name_fine.Goals as goal

pub loop-j-init : goal.loop-j-init
unfolding all
loop-j-init c = refl

pub loop-j-preserved : goal.loop-j-preserved
unfolding all name_byte_fine
loop-j-preserved c = rw (add-one, c.is_ident.ensures, c.loop-j.invariant)

pub returns : goal.returns
unfolding name_fine
returns c = let l = c.loop-j in
    let e : l.j ≡ 16 = omega (arith, c.loop-j-test.false) in
    rw e at l.invariant
