-- `profile::valid::all_fine` meets its contract: the numbers and the names before i are fine.
use mathlib.Core.Path.{◌≡◌, sym, ◌∙◌}
use mathlib.Core.Bool.{and-true, and_assoc}
use native.Mathlib.Omega.{arith}
use native.Mathlib.Numerals.{add-one}
use Rattle.rules.specs.Sound.{all}
use Rattle.rules.specs.Profile.{name_fine, numbers_fine, profile_fine}
use Rattle.profile.proofs.valid.all_fine.Goals as goal

pub loop-i-init : goal.loop-i-init
unfolding all
loop-i-init c = c.numbers_fine-ok.ensures ∙ sym (and-true (numbers_fine c.args.bytes.now))

pub loop-i-preserved : goal.loop-i-preserved
unfolding all
loop-i-preserved c = let q = c.args.bytes.now in
    rw (add-one, c.name_fine-ok.ensures, c.loop-i.invariant) (and_assoc (numbers_fine q) (all (name_fine q) c.loop-i.i) (name_fine q c.loop-i.i))

pub returns : goal.returns
unfolding profile_fine
returns c = let l = c.loop-i in let e : l.i ≡ 24 = omega (arith, c.loop-i-test.false) in rw e at l.invariant
