-- One attribute after the other: what counts for a name in the end is what the lookup answers.
use Rattle.std.proofs.Common.{Option, Some, None}
use mathlib.Core.Path.{◌≡◌, refl, ap, sym, ◌∙◌}
use mathlib.Core.Bool.{Bool, true, false}
use mathlib.Core.List.{List, [], ◌∷◌}
use Prim.Native.Nat.{ℕ}
use Rattle.rules.specs.Scan.{pick, part, same}
use Rattle.rules.specs.Lookup.{is_last, held_as, first_of, last_of}
use Rattle.rules.specs.declared.Attribute.{Attribute}
use Rattle.rules.specs.declared.Held.{Held}
use Rattle.rules.specs.declared.Held.TheVariants.{Absent, Bare, Value}
use Rattle.attributes.specs.Noting.{first_held, noted}

-- v was held before the attributes were read
abbrev pub all_noted : List ℕ → List ℕ → Held → List Attribute → Held
all_noted p k v [] = v
all_noted p k v (a ∷ rest) = all_noted p k (noted p a k v) rest

first_absent : (v : Held) → first_held v Absent ≡ v
first_absent Absent = refl
first_absent Bare = refl
first_absent (Value a e) = refl

-- what has a name is held
first_value : (v : Held) (value : Option (ℕ × ℕ)) (w : Held) → first_held (first_held v (held_as Bare value)) w ≡ first_held v (held_as Bare value)
first_value Absent None w = refl
first_value Absent (Some (a, e)) w = refl
first_value Bare value w = refl
first_value (Value a e) value w = refl

module _ (white : ℕ → Bool) (p k : List ℕ) where
  last_noted : is_last k ≡ true → (v : Held) (xs : List Attribute) → all_noted p k v xs ≡ last_of white p k v xs
  unfolding last_of
  last_noted y v [] = refl
  last_noted y v (a ∷ rest) =
      last_noted y (noted p a k v) rest
      ∙ ap (λ (b : Bool). last_of white p k
      (pick (same (part p a.name a.stop) k) (pick b (held_as Absent a.value) (first_held v (held_as Bare a.value))) v) rest) y

  first_noted : is_last k ≡ false → (v : Held) (xs : List Attribute) → all_noted p k v xs ≡ first_held v (first_of white p k xs)
  unfolding first_of
  first_noted n v [] = sym (first_absent v)
  first_noted n v (a ∷ rest) = first_noted n (noted p a k v) rest ∙ go (same (part p a.name a.stop) k)
    where
      more : Held
      more = first_of white p k rest

      go : (b : Bool)
          → first_held (pick b (pick (is_last k) (held_as Absent a.value) (first_held v (held_as Bare a.value))) v) more
          ≡ first_held v (pick b (held_as Bare a.value) more)
      go true = rw n (first_value v a.value more)
      go false = refl

  pub all_noted_lem : (xs : List Attribute) → all_noted p k Absent xs ≡ pick (is_last k) (last_of white p k Absent xs) (first_of white p k xs)
  all_noted_lem xs = go (is_last k) refl
    where
      go : (b : Bool) → is_last k ≡ b → all_noted p k Absent xs ≡ pick b (last_of white p k Absent xs) (first_of white p k xs)
      go true y = last_noted y Absent xs
      go false n = first_noted n Absent xs
