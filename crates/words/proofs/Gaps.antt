-- The separator at the front of a list: what an answer says of it, and that it lies within the list.
use Rattle.std.proofs.Common.{Option, Some, None}
use mathlib.Core.Path.{◌≡◌}
use mathlib.Core.List.{List, [], ◌∷◌}
use Prim.Native.Nat.{ℕ, ◌-◌, ◌≤◌, ◌<◌}
use native.Mathlib.Decide.{ℕ_discrete}
use native.Mathlib.Omega.{arith}
use borrow.Author.Tests.{ne_eqb}
use lib.ListN.{length, drop, length-drop}
use Rattle.rules.specs.Words.{begins, gap}
use Rattle.rules.proofs.Pick.{cases}
use Rattle.words.specs.Separators.{separator_of}
use Rattle.words.proofs.Fits.{fits}

module _ (seps : List (List ℕ)) (xs : List ℕ) (o : Option ℕ) (e : o ≡ separator_of seps xs) where
  -- one of g bytes
  pub there : (g : ℕ) → o ≡ Some g → (g ≡ gap seps xs) × (g ≡ 0 → ⊥)
  there g a = go (ℕ_discrete (gap seps xs) 0)
    where
      go : Dec (gap seps xs ≡ 0) → (g ≡ gap seps xs) × (g ≡ 0 → ⊥)
      go (yes z) = let none : o ≡ None = rw z at e in cc
      go (no n) = let some : o ≡ Some (gap seps xs) = rw (ne_eqb (gap seps xs) 0 n) at e in
          let same : g ≡ gap seps xs = cc in (same, λ z. n (omega arith))

  pub not_there : o ≡ None → gap seps xs ≡ 0
  not_there a = go (ℕ_discrete (gap seps xs) 0)
    where
      go : Dec (gap seps xs ≡ 0) → gap seps xs ≡ 0
      go (yes z) = z
      go (no n) = let some : o ≡ Some (gap seps xs) = rw (ne_eqb (gap seps xs) 0 n) at e in cc

gap_le : (seps : List (List ℕ)) (xs : List ℕ) → gap seps xs ≤ length xs
unfolding gap
gap_le [] xs = omega arith
gap_le (s ∷ ss) xs = cases (λ (n : ℕ). n ≤ length xs) (begins s xs) (fits s xs) (λ _. gap_le ss xs)

pub gap_in : (seps : List (List ℕ)) (v : List ℕ) (i : ℕ) (o : Option ℕ) (g : ℕ) → o ≡ separator_of seps (drop i v) → o ≡ Some g
    → (0 < g) × (g ≤ length v - i)
gap_in seps v i o g e a =
    let S = there seps (drop i v) o e g a in
    let l : g ≤ length v - i = rw (S.0, ← length-drop i v) (gap_le seps (drop i v)) in
    (omega (arith, S.1), l)

-- and past the end there is none
pub past_end : (seps : List (List ℕ)) (v : List ℕ) (i : ℕ) → length v ≤ i → None ≡ separator_of seps (drop i v)
past_end seps v i h = let z : gap seps (drop i v) ≡ 0 = omega (arith, gap_le seps (drop i v), length-drop i v) in rw z
