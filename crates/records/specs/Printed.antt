-- The line of an answer, as bytes.
use Rattle.std.specs.Prelude.{ℕ, List, ◌++◌, decimal, flat_map}
use Rattle.lines.specs.Lines.{field, line_feed}

-- each number after a space
abbrev pub fields : List ℕ → List ℕ
fields numbers = flat_map (λ n. field (decimal n)) numbers

-- a word, the numbers, and a line feed
unfoldable pub line : List ℕ → List ℕ → List ℕ
line word numbers = word ++ (fields numbers ++ line_feed)
