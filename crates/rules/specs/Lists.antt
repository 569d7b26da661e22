-- Lists that several rules speak of.
use Rattle.std.specs.Prelude.{ℕ, zero, suc, Bool, List, [], ◌∷◌, ◌++◌}
use Rattle.rules.specs.Scan.{pick}

-- k numbers from lo on
unfoldable pub from : ℕ → ℕ → List ℕ
from lo zero = []
from lo (suc k) = lo ∷ from (suc lo) k

-- the numbers that pass the test, in order
unfoldable pub only : (ℕ → Bool) → List ℕ → List ℕ
only f [] = []
only f (x ∷ xs) = let more = only f xs in pick (f x) (x ∷ more) more

-- what f gives for each number, one after the other
unfoldable pub each : (ℕ → List ℕ) → List ℕ → List ℕ
each f [] = []
each f (x ∷ xs) = f x ++ each f xs

-- P holds of every entry
abbrev pub All : (ℕ → Type 0) → List ℕ → Type 0
All P [] = Unit {0}
All P (x ∷ xs) = P x × All P xs
