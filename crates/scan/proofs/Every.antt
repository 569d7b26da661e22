-- A rule of a table, proved at all of its entries by one test that antt computes, one entry after the other.
use mathlib.Core.Bool.{Bool, true, ◌&&◌}
use mathlib.Core.List.{List, [], ◌∷◌}
use Prim.Native.Nat.{ℕ, zero, suc, ◌<◌}
use native.Mathlib.Nat.{le_of_suc-le-suc, not-suc-le-zero}
use lib.Dec.{T}
use lib.ListN.{length, get_or}
use mir.Facts.{and_yes}

-- the test f of a place and its entry passes throughout the list
abbrev pub every : (ℕ → ℕ → Bool) → List ℕ → Bool
every f [] = true
every f (x ∷ xs) = f 0 x && every (λ (k : ℕ). f (suc k)) xs

-- so it passes at each place
pub at : (f : ℕ → ℕ → Bool) (xs : List ℕ) → T (every f xs) → (k : ℕ) → k < length xs → T (f k (get_or xs k 0))
at f [] t k h = absurd (not-suc-le-zero h)
at f (x ∷ xs) t zero h = (and_yes (f 0 x) (every (λ (k : ℕ). f (suc k)) xs) t).0
at f (x ∷ xs) t (suc k) h = at (λ (k : ℕ). f (suc k)) xs (and_yes (f 0 x) (every (λ (k : ℕ). f (suc k)) xs) t).1 k (le_of_suc-le-suc h)
