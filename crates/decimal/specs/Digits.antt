-- A number in decimal digits.
use Rattle.std.specs.Prelude.{ℕ, ◌+◌, ◌-◌, ◌*◌, Bool, ◌&&◌, List, [], ◌∷◌, leb, ltb, Option, Some, None, length}
use Rattle.std.specs.Option.{option_map}
use Rattle.rules.specs.Bytes.{between}
use Rattle.rules.specs.Scan.{pick, skip, part}

abbrev pub is_digit : ℕ → Bool
is_digit b = between 48 57 b

-- the number that digits say, after the number n
unfoldable pub value_from : ℕ → List ℕ → ℕ
value_from n [] = n
value_from n (d ∷ ds) = value_from (n * 10 + (d - 48)) ds

-- numbers are below 2^32
abbrev pub limit : ℕ
limit = 4294967296

-- the number that digits say: there are 1 to 10 of them
unfoldable pub number_of : List ℕ → Option ℕ
number_of ds =
    let n = value_from 0 ds in
    pick (leb 1 (length ds) && leb (length ds) 10 && ltb n limit) (Some n) None

-- the number that stands at a place, with all the digits there, and the place after it
unfoldable pub number_at : List ℕ → ℕ → Option (ℕ × ℕ)
number_at s at = let end = skip is_digit s at in option_map (λ n. (n, end)) (number_of (part s at end))
