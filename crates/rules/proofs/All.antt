-- What holds of every entry of a list, and of the lists made by `from`, `only` and `each`.
use mathlib.Core.Path.{◌≡◌, refl}
use mathlib.Core.Bool.{Bool, true, false}
use mathlib.Core.List.{List, [], ◌∷◌, ◌++◌, reverse, reverse-cons}
use Prim.Native.Nat.{ℕ, zero, suc, ◌+◌, ◌≤◌, ◌<◌}
use native.Mathlib.Omega.{arith}
use lib.ListN.{length, get_or, replicate}
use Rattle.rules.specs.Lists.{from, only, each, All}
use Rattle.rules.proofs.Pick.{cases}

module _ (P : ℕ → Type 0) where
  pub all_append : (xs ys : List ℕ) → All P xs → All P ys → All P (xs ++ ys)
  all_append [] ys a b = b
  all_append (x ∷ xs) ys a b = (a.0, all_append xs ys a.1 b)

  pub all_reverse : (xs : List ℕ) → All P xs → All P (reverse xs)
  all_reverse [] a = tt
  all_reverse (x ∷ xs) a = rw reverse-cons (all_append (reverse xs) (x ∷ []) (all_reverse xs a.1) (a.0, tt))

  pub all_from : (lo k : ℕ) → ((h : ℕ) → lo ≤ h → h < lo + k → P h) → All P (from lo k)
  unfolding from
  all_from lo zero f = tt
  all_from lo (suc k) f =
      (f lo (omega arith) (omega arith), all_from (suc lo) k (λ h l b. f h (omega arith) (omega arith)))

  pub all_replicate : (n x : ℕ) → P x → All P (replicate n x)
  all_replicate zero x a = tt
  all_replicate (suc n) x a = (a, all_replicate n x a)

  -- the entry at a place
  pub all_at : (xs : List ℕ) (j : ℕ) → All P xs → j < length xs → P (get_or xs j 0)
  all_at [] j a l = absurd (omega arith)
  all_at (x ∷ xs) zero a l = a.0
  all_at (x ∷ xs) (suc j) a l = all_at xs j a.1 (omega arith)

module _ (P Q : ℕ → Type 0) where
  pub all_only : (f : ℕ → Bool) → ((h : ℕ) → f h ≡ true → P h → Q h) → (xs : List ℕ) → All P xs → All Q (only f xs)
  unfolding only
  all_only f g [] a = tt
  all_only f g (x ∷ xs) a =
      let more : All Q (only f xs) = all_only f g xs a.1 in
      cases (All Q) (f x) (λ t. (g x t a.0, more)) (λ t. more)

  pub all_each : (F : ℕ → List ℕ) → ((x : ℕ) → P x → All Q (F x)) → (xs : List ℕ) → All P xs → All Q (each F xs)
  unfolding each
  all_each F g [] a = tt
  all_each F g (x ∷ xs) a = all_append Q (F x) (each F xs) (g x a.0) (all_each F g xs a.1)

-- tests, and lists, that agree on every entry
pub only_same : (f g : ℕ → Bool) (xs : List ℕ) → All (λ x. f x ≡ g x) xs → only f xs ≡ only g xs
unfolding only
only_same f g [] a = refl
only_same f g (x ∷ xs) a = rw (a.0, only_same f g xs a.1)

pub each_same : (F G : ℕ → List ℕ) (xs : List ℕ) → All (λ x. F x ≡ G x) xs → each F xs ≡ each G xs
unfolding each
each_same F G [] a = refl
each_same F G (x ∷ xs) a = rw (a.0, each_same F G xs a.1)

-- where none passes, and where none gives anything
pub only_no : (f : ℕ → Bool) (xs : List ℕ) → All (λ x. f x ≡ false) xs → only f xs ≡ []
unfolding only
only_no f [] a = refl
only_no f (x ∷ xs) a = rw (a.0, only_no f xs a.1)

pub each_no : (F : ℕ → List ℕ) (xs : List ℕ) → All (λ x. F x ≡ []) xs → each F xs ≡ []
unfolding each
each_no F [] a = refl
each_no F (x ∷ xs) a = rw (a.0, each_no F xs a.1)
