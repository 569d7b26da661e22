-- Laws of `from`, `only` and `each`.
use mathlib.Core.Path.{◌≡◌, refl, ap, sym, ◌∙◌}
use mathlib.Core.Bool.{Bool, true, false}
use mathlib.Core.List.{List, [], ◌∷◌, ◌++◌, append_assoc, reverse, reverse-append, reverse-cons}
use Prim.Native.Nat.{ℕ, zero, suc, ◌+◌, ◌≤◌, ◌<◌}
use native.Mathlib.Omega.{arith}
use native.Mathlib.Nat.{le_refl}
use lib.ListN.{length, length-append}
use lib.Seq.{append_snoc}
use Rattle.rules.specs.Scan.{pick}
use Rattle.rules.specs.Lists.{from, only, each}

-- m numbers, and then n
pub from_append : (lo m n : ℕ) → from lo (m + n) ≡ from lo m ++ from (lo + m) n
unfolding from
from_append lo zero n =
    let e : lo + 0 ≡ lo = omega arith in let z : 0 + n ≡ n = omega arith in rw (e, z)
from_append lo (suc m) n =
    let e : suc lo + m ≡ lo + suc m = omega arith in
    let z : suc m + n ≡ suc (m + n) = omega arith in
    rw (z, ← e) (ap (λ (xs : List ℕ). lo ∷ xs) (from_append (suc lo) m n))

pub each_append : (f : ℕ → List ℕ) (xs ys : List ℕ) → each f (xs ++ ys) ≡ each f xs ++ each f ys
unfolding each
each_append f [] ys = refl
each_append f (x ∷ xs) ys = rw (each_append f xs ys) (sym (append_assoc (f x) (each f xs) (each f ys)))

-- what f gives for those that pass the test, and for what g gives
pub each_only : (f : ℕ → List ℕ) (g : ℕ → Bool) (xs : List ℕ) → each f (only g xs) ≡ each (λ x. pick (g x) (f x) []) xs
unfolding each only
each_only f g [] = refl
each_only f g (x ∷ xs) = go (g x) (each_only f g xs)
  where
    go : (b : Bool) → each f (only g xs) ≡ each (λ y. pick (g y) (f y) []) xs
        → each f (pick b (x ∷ only g xs) (only g xs)) ≡ pick b (f x) [] ++ each (λ y. pick (g y) (f y) []) xs
    go true e = ap (λ (r : List ℕ). f x ++ r) e
    go false e = e

pub each_each : (f g : ℕ → List ℕ) (xs : List ℕ) → each f (each g xs) ≡ each (λ x. each f (g x)) xs
unfolding each
each_each f g [] = refl
each_each f g (x ∷ xs) = each_append f (g x) (each g xs) ∙ ap (λ (r : List ℕ). each f (g x) ++ r) (each_each f g xs)

pub only_append : (f : ℕ → Bool) (xs ys : List ℕ) → only f (xs ++ ys) ≡ only f xs ++ only f ys
unfolding only
only_append f [] ys = refl
only_append f (x ∷ xs) ys = go (f x) (only_append f xs ys)
  where
    go : (b : Bool) → only f (xs ++ ys) ≡ only f xs ++ only f ys
        → pick b (x ∷ only f (xs ++ ys)) (only f (xs ++ ys)) ≡ pick b (x ∷ only f xs) (only f xs) ++ only f ys
    go true e = rw e
    go false e = e

-- where none passes
pub only_none : (f : ℕ → Bool) (lo k : ℕ) → ((h : ℕ) → lo ≤ h → h < lo + k → f h ≡ false) → only f (from lo k) ≡ []
unfolding from only
only_none f lo zero n = refl
only_none f lo (suc k) n = rw (n lo (omega arith) (omega arith)) (only_none f (suc lo) k (λ h l b. n h (omega arith) (omega arith)))

-- the numbers below h, h, and those above it
pub from_cut : (h m : ℕ) → from 0 (h + suc m) ≡ from 0 h ++ (h ∷ from (suc h) m)
unfolding from
from_cut h m = let z : 0 + h ≡ h = omega arith in rw (from_append 0 h (suc m), z)

pub reverse_from : (h m : ℕ) → reverse (from 0 (h + suc m)) ≡ reverse (from (suc h) m) ++ (h ∷ reverse (from 0 h))
reverse_from h m = rw (from_cut, reverse-append, reverse-cons, append_snoc)

-- an entry that fails the test, and one that passes it
pub only_out : (f : ℕ → Bool) (xs : List ℕ) (x : ℕ) (ys : List ℕ) → f x ≡ false → only f (xs ++ (x ∷ ys)) ≡ only f xs ++ only f ys
unfolding only
only_out f xs x ys e = rw (only_append f xs (x ∷ ys), e)

pub only_in : (f : ℕ → Bool) (xs : List ℕ) (x : ℕ) (ys : List ℕ) → f x ≡ true → only f (xs ++ (x ∷ ys)) ≡ only f xs ++ (x ∷ only f ys)
unfolding only
only_in f xs x ys e = rw (only_append f xs (x ∷ ys), e)

-- where each number gives R, fewer numbers give no more
module _ (R : ℕ → List ℕ) where
  pub only_fewer : (f g : ℕ → Bool) → ((x : ℕ) → f x ≡ true → g x ≡ true) → (xs : List ℕ)
      → length (each R (only f xs)) ≤ length (each R (only g xs))
  unfolding only each
  only_fewer f g i [] = le_refl 0
  only_fewer f g i (x ∷ xs) = go (f x) (g x) (i x) (only_fewer f g i xs)
    where
      go : (b c : Bool) → (b ≡ true → c ≡ true) → length (each R (only f xs)) ≤ length (each R (only g xs))
          → length (each R (pick b (x ∷ only f xs) (only f xs))) ≤ length (each R (pick c (x ∷ only g xs) (only g xs)))
      go true true j l = simp length-append (omega arith)
      go true false j l = let z : false ≡ true = j refl in let y : ◌≡◌ {A = ℕ} 0 1 = cc in absurd (omega arith)
      go false true j l = simp length-append (omega arith)
      go false false j l = l

  pub each_fewer : (F G : ℕ → List ℕ) → ((x : ℕ) → length (each R (F x)) ≤ length (each R (G x))) → (xs : List ℕ)
      → length (each R (each F xs)) ≤ length (each R (each G xs))
  unfolding each
  each_fewer F G i [] = le_refl 0
  each_fewer F G i (x ∷ xs) =
      rw (each_append R (F x) (each F xs), each_append R (G x) (each G xs))
      (simp length-append (omega (arith, i x, each_fewer F G i xs)))
