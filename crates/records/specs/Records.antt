-- A list of recorded questions: a record is five numbers on a line, some bytes, and a line feed.
use Rattle.std.specs.Prelude.{ℕ, zero, suc, ◌+◌, List, [], ◌∷◌, get_or, Option, Some, None}
use Rattle.std.specs.Option.{option_map, option_and_then}
use Rattle.rules.specs.Bytes.{is}
use Rattle.rules.specs.Scan.{pick, here}
use Rattle.decimal.specs.Digits.{number_at}
use Rattle.records.specs.declared.Head.{Head}
use Rattle.records.specs.declared.Record.{Record}

-- ---- a number

-- a number and the place after it, if the byte q stands there: the place after both
abbrev pub followed : ℕ → List ℕ → ℕ × ℕ → Option (ℕ × ℕ)
followed q s x = pick (here (is q) s x.1) (Some (x.0, x.1 + 1)) None

-- the number at the place, with the byte q after it
unfoldable pub number_before : ℕ → List ℕ → ℕ → Option (ℕ × ℕ)
number_before q s at = option_and_then (followed q s) (number_at s at)

-- so many numbers, each with a space after it, and the place after them
unfoldable pub numbers_at : ℕ → List ℕ → ℕ → Option (List ℕ × ℕ)
numbers_at zero s at = Some ([], at)
numbers_at (suc k) s at =
    option_and_then
    (λ x. option_map (λ y. (x.0 ∷ y.0, y.1)) (numbers_at k s x.1))
    (number_before 32 s at)

-- ---- a record

-- a record's numbers, the first four and the last
abbrev pub record_head : List ℕ → ℕ → Head
record_head ns n = record { op = get_or ns 0 0; a = get_or ns 1 0; b = get_or ns 2 0; c = get_or ns 3 0; n = n }

-- the record of these numbers whose bytes start at the place, if a line feed stands after them
abbrev pub ending : List ℕ → List ℕ → ℕ × ℕ → Option Record
ending s ns x = pick (here (is 10) s (x.1 + x.0)) (Some (record { head = record_head ns x.0; start = x.1 })) None

-- four numbers with a space after each, one with a line feed, and as many bytes as that one says, with a line feed
unfoldable pub record_at : List ℕ → ℕ → Option Record
record_at s at = option_and_then (λ x. option_and_then (ending s x.0) (number_before 10 s x.1)) (numbers_at 4 s at)
