-- The attributes of a tag without fuel. Each takes a byte or more, so as much fuel as the page has bytes left is enough.
use mathlib.Core.Path.{◌≡◌, refl, ap}
use mathlib.Core.Bool.{Bool, true, false}
use mathlib.Core.List.{List, [], ◌∷◌}
use Prim.Native.Nat.{ℕ, zero, suc, ◌+◌, ◌≤◌, ◌<◌}
use native.Mathlib.Omega.{arith}
use lib.ListN.{length}
use Rattle.rules.specs.Scan.{pick, skip, here}
use Rattle.rules.specs.Attributes.{not_closing, attribute_at, attribute_next}
use Rattle.rules.specs.Lookup.{attributes}
use Rattle.rules.specs.declared.Attribute.{Attribute}
use Rattle.rules.proofs.Runs.{skip_le, skip_end}
use Rattle.rules.proofs.Places.{here_false, here_below}
use Rattle.laws.proofs.Cut.{next_scans, next_strict}

module _ (white : ℕ → Bool) (p : List ℕ) where
  -- the attribute from i on, and what follows it
  abbrev one : ℕ → Attribute
  one i = attribute_at white p (skip white p i)

  abbrev after : ℕ → ℕ
  after i = attribute_next white p (skip white p i)

  enough : (k i : ℕ) → i ≤ length p → length p ≤ i + k → attributes white p k i ≡ attributes white p (suc k) i
  unfolding attributes
  enough zero i h l = let e : length p ≤ i = omega arith in rw (skip_end white p i e, here_false not_closing p i e)
  enough (suc k) i h l = go (here not_closing p (skip white p i)) refl (enough k (after i))
    where
      go : (b : Bool) → here not_closing p (skip white p i) ≡ b
          → (after i ≤ length p → length p ≤ after i + k → attributes white p k (after i) ≡ attributes white p (suc k) (after i))
          → pick b (one i ∷ attributes white p k (after i)) [] ≡ pick b (one i ∷ attributes white p (suc k) (after i)) []
      go true q ih =
          let later = next_strict white p (skip white p i) q in
          ap (λ (r : List Attribute). one i ∷ r) (ih ((next_scans white).within p (skip white p i) (skip_le white p i h)) (omega arith))
      go false q ih = refl

  -- the attributes from i on; the next one is looked for at s
  abbrev pub from : ℕ → List Attribute
  from i = attributes white p (length p) i

  module _ (i s : ℕ) (e : s ≡ skip white p i) where
    pub from_none : here not_closing p s ≡ false → from i ≡ []
    unfolding attributes
    from_none n = go (length p)
      where
        go : (k : ℕ) → attributes white p k i ≡ []
        go zero = refl
        go (suc k) = rw (← e, n)

    pub from_more : here not_closing p s ≡ true → from i ≡ attribute_at white p s ∷ from (attribute_next white p s)
    unfolding attributes
    from_more y = go (length p) refl
      where
        go : (k : ℕ) → length p ≡ k → attributes white p k i ≡ attribute_at white p s ∷ attributes white p k (attribute_next white p s)
        go zero q = absurd (omega (arith, here_below not_closing p s _ refl y))
        go (suc k) q =
            let b : s < length p = here_below not_closing p s _ refl y in
            rw (← e, y)
            (ap (λ (r : List Attribute). attribute_at white p s ∷ r)
            (enough k (attribute_next white p s) ((next_scans white).within p s (omega arith)) (omega (arith, next_strict white p s y))))

    -- the next attribute starts later, and in the page
    pub from_on : here not_closing p s ≡ true → (i < attribute_next white p s) × (attribute_next white p s ≤ length p)
    from_on y =
        let b : s < length p = here_below not_closing p s _ refl y in
        (omega (arith, next_strict white p s y), (next_scans white).within p s (omega arith))
