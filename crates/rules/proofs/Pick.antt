-- A proof that goes by the cases of a pick.
use mathlib.Core.Path.{◌≡◌, refl}
use mathlib.Core.Bool.{Bool, true, false}
use Rattle.rules.specs.Scan.{pick}

pub cases {ℓ} : {A : Type 0} (C : A → Type ℓ) (b : Bool) {x y : A} → (b ≡ true → C x) → (b ≡ false → C y) → C (pick b x y)
cases C true f g = f refl
cases C false f g = g refl
