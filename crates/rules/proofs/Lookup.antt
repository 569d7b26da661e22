-- What holds of the value of each attribute holds of what a lookup answers; so that lies within the page.
use Rattle.std.proofs.Common.{Option, Some, None}
use mathlib.Core.Bool.{Bool, true, false}
use mathlib.Core.List.{List, [], ◌∷◌}
use Prim.Native.Nat.{ℕ, zero, suc, ◌≤◌}
use native.Mathlib.Omega.{arith}
use lib.ListN.{length, get_or}
use Rattle.rules.specs.Bytes.{is_ident, is_quote, other, is}
use Rattle.rules.specs.Scan.{pick, skip, here, pass}
use Rattle.rules.specs.Attributes.{in_value, value_at, value_of, attribute_at, attribute_next, not_closing}
use Rattle.rules.specs.Lookup.{Inside, InsideAssigned, held_as, attributes, named, first_of, last_of, is_last, lookup_from}
use Rattle.rules.specs.declared.Attribute.{Attribute}
use Rattle.rules.specs.declared.Held.{Held}
use Rattle.rules.specs.declared.Held.TheVariants.{Absent, Bare, Value}
use Rattle.rules.proofs.Pick.{cases}
use Rattle.rules.proofs.Runs.{skip_ge, skip_le}

pub inside_more : (m n : ℕ) (v : Held) → m ≤ n → Inside m v → Inside n v
inside_more m n Absent l i = tt
inside_more m n Bare l i = tt
inside_more m n (Value a e) l i = (i.0, omega (arith, i.1))

pub held_inside : (n : ℕ) (r : Held) (v : Option (ℕ × ℕ)) → Inside n r → InsideAssigned n v → Inside n (held_as r v)
held_inside n r None i j = i
held_inside n r (Some (a, e)) i j = j

-- Q holds of each attribute
abbrev pub Each : (Attribute → Type 0) → List Attribute → Type 0
Each Q [] = Unit {0}
Each Q (a ∷ rest) = Q a × Each Q rest

module _ (white : ℕ → Bool) (p : List ℕ) where
  -- a run from within the page
  run : (P : ℕ → Bool) (a : ℕ) → a ≤ length p → (a ≤ skip P p a) × (skip P p a ≤ length p)
  run P a l = (skip_ge P p a, skip_le P p a l)

  -- b says whether a quote stands at v
  given_inside : (b : Bool) (v q : ℕ) → v ≤ length p
      → InsideAssigned (length p) (Some (pick b (pass p v) v, pick b (skip (other q) p (pass p v)) (skip (in_value white) p v)))
  given_inside true v q l = run (other q) (pass p v) (omega arith)
  given_inside false v q l = run (in_value white) v l

  value_inside : (w : ℕ) → InsideAssigned (length p) (value_of white p w)
  value_inside w =
      let v : ℕ = value_at white p w in
      cases (InsideAssigned (length p)) (here (is 61) p w)
      (λ t. given_inside (here is_quote p v) v (get_or p v 0) (run white (pass p w) (omega arith)).1) (λ t. tt)

  -- what holds of each value given holds of what is held, whichever name is asked for
  module _ (G : Option (ℕ × ℕ) → Type 0) (H : Held → Type 0) (absent : H Absent) (bare : H Bare)
      (held : (r : Held) (v : Option (ℕ × ℕ)) → H r → G v → H (held_as r v))
    where
      abbrev All : List Attribute → Type 0
      All = Each (λ a. G a.value)

      first_each : (k : List ℕ) (xs : List Attribute) → All xs → H (first_of white p k xs)
      unfolding first_of
      first_each k [] i = absent
      first_each k (a ∷ rest) i =
          cases H (named white p k a) (λ t. held Bare a.value bare i.0) (λ t. first_each k rest i.1)

      last_each : (k : List ℕ) (r : Held) (xs : List Attribute) → H r → All xs → H (last_of white p k r xs)
      unfolding last_of
      last_each k r [] i j = i
      last_each k r (a ∷ rest) i j =
          last_each k (pick (named white p k a) (held_as Absent a.value) r) rest
          (cases H (named white p k a) (λ t. held Absent a.value absent j.0) (λ t. i)) j.1

      pub lookup_each : (at : ℕ) (k : List ℕ) → All (attributes white p (length p) at) → H (lookup_from white p at k)
      unfolding lookup_from
      lookup_each at k all =
          cases H (is_last k) (λ t. last_each k Absent (attributes white p (length p) at) absent all) (λ t. first_each k (attributes white p (length p) at) all)

  abbrev pub AllInside : List Attribute → Type 0
  AllInside = Each (λ a. InsideAssigned (length p) a.value)

  pub attributes_inside : (k at : ℕ) → AllInside (attributes white p k at)
  unfolding attributes attribute_at
  attributes_inside zero at = tt
  attributes_inside (suc k) at =
      let s : ℕ = skip white p at in
      cases AllInside (here not_closing p s) (λ t. (value_inside (skip white p (skip is_ident p s)), attributes_inside k (attribute_next white p s))) (λ t. tt)

  pub lookup_inside : (at : ℕ) (k : List ℕ) → Inside (length p) (lookup_from white p at k)
  lookup_inside at k =
      lookup_each (InsideAssigned (length p)) (Inside (length p)) tt tt (held_inside (length p)) at k (attributes_inside (length p) at)
