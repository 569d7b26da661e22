-- What a tag's opening holds: the attributes from a place on stand at that place or after it, with their names and values. So a
-- name that does not lie within what follows a place is no attribute's from there on.
use Rattle.std.proofs.Common.{Option, Some, None}
use mathlib.Core.Path.{◌≡◌, refl}
use mathlib.Core.Bool.{Bool, true, false}
use mathlib.Core.List.{List, [], ◌∷◌}
use Prim.Native.Nat.{ℕ, zero, suc, ◌≤◌}
use native.Mathlib.Omega.{arith}
use lib.ListN.{length}
use Rattle.rules.specs.Bytes.{is_ident, is_quote, is}
use Rattle.rules.specs.Scan.{pick, skip, here, pass, part}
use Rattle.rules.specs.Attributes.{value_at, attribute_at, attribute_next, not_closing}
use Rattle.rules.specs.Lookup.{is_last, held_as, attributes, named, first_of, last_of, lookup_from}
use Rattle.rules.specs.Words.{Within}
use Rattle.rules.specs.declared.Attribute.{Attribute}
use Rattle.rules.specs.declared.Held.{Held}
use Rattle.rules.specs.declared.Held.TheVariants.{Absent, Bare, Value}
use Rattle.rules.proofs.Pick.{cases}
use Rattle.rules.proofs.Runs.{skip_ge, skip_le}
use Rattle.rules.proofs.Lookup.{Each, lookup_each}
use Rattle.rules.proofs.Within.{same_within, within_part}
use Rattle.laws.proofs.Cut.{next_scans}

-- a value starts at the place lo or after it: one that is given, and one that is held
abbrev FromAssigned : ℕ → Option (ℕ × ℕ) → Type 0
FromAssigned lo None = Unit {0}
FromAssigned lo (Some (a, e)) = lo ≤ a

abbrev pub From : ℕ → Held → Type 0
From lo Absent = Unit {0}
From lo Bare = Unit {0}
From lo (Value a e) = lo ≤ a

held_from : (lo : ℕ) (r : Held) (v : Option (ℕ × ℕ)) → From lo r → FromAssigned lo v → From lo (held_as r v)
held_from lo r None i j = i
held_from lo r (Some (a, e)) i j = j

module _ (white : ℕ → Bool) (p : List ℕ) (lo : ℕ) where
  -- what holds of an attribute wherever it stands from lo on
  each_from : (Q : Attribute → Type 0) → ((s : ℕ) → lo ≤ s → s ≤ length p → Q (attribute_at white p s))
      → (k at : ℕ) → lo ≤ at → at ≤ length p → Each Q (attributes white p k at)
  unfolding attributes
  each_from Q f zero at l h = tt
  each_from Q f (suc k) at l h =
      let s : ℕ = skip white p at in
      let low : lo ≤ s = omega (arith, skip_ge white p at) in
      let high : s ≤ length p = skip_le white p at h in
      let next = attribute_next white p s in
      cases (Each Q) (here not_closing p s)
      (λ t. (f s low high, each_from Q f k next (omega (arith, (next_scans white).grows p s high)) ((next_scans white).within p s high)))
      (λ t. tt)

  value_from_lem : (s : ℕ) → lo ≤ s → s ≤ length p → FromAssigned lo (attribute_at white p s).value
  unfolding attribute_at
  value_from_lem s l h =
      let w : ℕ = skip white p (skip is_ident p s) in
      let v : ℕ = value_at white p w in
      let at : w ≤ length p = skip_le white p (skip is_ident p s) (skip_le is_ident p s h) in
      let high : v ≤ length p = skip_le white p (pass p w) (omega arith) in
      cases (FromAssigned lo) (here (is 61) p w)
      (λ t. cases (λ (a : ℕ). lo ≤ a) (here is_quote p v) (λ q. omega arith) (λ q. omega arith)) (λ t. tt)

  pub lookup_from_lem : lo ≤ length p → (k : List ℕ) → From lo (lookup_from white p lo k)
  lookup_from_lem h k =
      lookup_each white p (FromAssigned lo) (From lo) tt tt (held_from lo) lo k
      (each_from (λ a. FromAssigned lo a.value) value_from_lem (length p) lo (omega arith) h)

  module _ (k : List ℕ) (out : Within k (part p lo (length p)) → ⊥) where
    not_named : (s : ℕ) → lo ≤ s → s ≤ length p → named white p k (attribute_at white p s) ≡ true → ⊥
    unfolding attribute_at
    not_named s l h y =
        let e : ℕ = skip is_ident p s in
        out (within_part p lo s e (length p) l (skip_ge is_ident p s) (skip_le is_ident p s h) (same_within k (part p s e) y))

    all_unnamed : lo ≤ length p → Each (λ a. named white p k a ≡ true → ⊥) (attributes white p (length p) lo)
    all_unnamed h = each_from (λ a. named white p k a ≡ true → ⊥) not_named (length p) lo (omega arith) h

    last_same : (r : Held) (xs : List Attribute) → Each (λ a. named white p k a ≡ true → ⊥) xs → last_of white p k r xs ≡ r
    unfolding last_of
    last_same r [] all = refl
    last_same r (a ∷ rest) all = go (named white p k a) all.0 (last_same r rest all.1)
      where
        go : (b : Bool) → (b ≡ true → ⊥) → last_of white p k r rest ≡ r → last_of white p k (pick b (held_as Absent a.value) r) rest ≡ r
        go true n e = absurd (n refl)
        go false n e = e

    -- the name stands nowhere from lo on: what was found before stays
    pub last_out : lo ≤ length p → (r : Held) → last_of white p k r (attributes white p (length p) lo) ≡ r
    last_out h r = last_same r (attributes white p (length p) lo) (all_unnamed h)

    first_none : (xs : List Attribute) → Each (λ a. named white p k a ≡ true → ⊥) xs → first_of white p k xs ≡ Absent
    unfolding first_of
    first_none [] all = refl
    first_none (a ∷ rest) all = go (named white p k a) all.0 (first_none rest all.1)
      where
        go : (b : Bool) → (b ≡ true → ⊥) → first_of white p k rest ≡ Absent → pick b (held_as Bare a.value) (first_of white p k rest) ≡ Absent
        go true n e = absurd (n refl)
        go false n e = e

    -- so nothing is held for it
    pub lookup_out : lo ≤ length p → lookup_from white p lo k ≡ Absent
    unfolding lookup_from
    lookup_out h =
        cases (λ r. r ≡ Absent) (is_last k) (λ t. last_out h Absent)
        (λ t. first_none (attributes white p (length p) lo) (all_unnamed h))
