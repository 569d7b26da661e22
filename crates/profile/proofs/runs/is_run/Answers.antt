-- `profile::runs::is_run` meets its contract: of the bytes before j.
use mathlib.Core.Path.{◌≡◌, refl}
use native.Mathlib.Numerals.{add-one}
use native.Mathlib.Omega.{arith}
use Rattle.rules.specs.Sound.{all}
use Rattle.profile.proofs.runs.is_run.Goals as goal

pub loop-j-init : goal.loop-j-init
unfolding all
loop-j-init c = refl

pub loop-j-preserved : goal.loop-j-preserved
unfolding all
loop-j-preserved c = rw (add-one, c.loop-j.invariant)

pub returns : goal.returns
returns c = let l = c.loop-j in let e : l.j ≡ c.args.k = omega (arith, c.loop-j-test.false) in rw e at l.invariant
