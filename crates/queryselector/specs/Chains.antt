-- What the functions that read a chain ask for and promise.
use Rattle.std.specs.Prelude.{ℕ, ◌+◌, ◌-◌, ◌*◌, ◌≤◌, ◌≡◌, List, ◌++◌, ltb, length, drop, Option, Some, None, Result, Ok, Err}
use Rattle.rules.specs.Scan.{pick}
use Rattle.rules.specs.Selector.{spaces_end}
use Rattle.rules.specs.Chain.{join_at, written, read_selector}
use Rattle.rules.specs.Refusals.{selector_limit, selector_too_long}
use Rattle.rules.specs.declared.Joiner.{Joiner}
use Rattle.rules.specs.declared.Piece.{Piece}
use Rattle.piece.specs.Words.{piece_words}
use Rattle.rules.specs.declared.Refusal.{Refusal}
use Rattle.rules.specs.declared.Refusal.TheVariants.{SelectorTooLong, SelectorNotRead}

-- the joiner at i, and where the rest starts; at the end there is none
abbrev pub joiner_at : List ℕ → ℕ → Option (Joiner × ℕ)
joiner_at s i =
    let m = spaces_end s i in
    pick (ltb m (length s)) (Some (join_at s i m)) None

-- a selector that is not too long, and words enough for n pieces and one for each byte that is left from `at` on
pub record WordsRoom (n : ℕ) (s : List ℕ) (at : ℕ) (out : List ℕ) : Type 0 where
  pub short : length s ≤ selector_limit
  pub words : piece_words * (n + (length s - at)) ≤ length out

-- how many pieces a chain has, that was read or not
abbrev pub piece_count : Option (List Piece) → Option ℕ
piece_count None = None
piece_count (Some ps) = Some (length ps)

-- the chain in the first words of `out`, and the rest as it was
abbrev pub written_in : List ℕ → Option (List Piece) → List ℕ
written_in out None = out
written_in out (Some ps) = written ps ++ drop (length (written ps)) out

-- the answer r for a chain, and the lent words at entry and at exit
pub record Chained (chain : Option (List Piece)) (out out₁ : List ℕ) (r : Option ℕ) : Type 0 where
  pub answer : r ≡ piece_count chain
  pub words : out₁ ≡ written_in out chain

-- refusals 5 and 6, or how many pieces the selector has
abbrev pub read_count : Option (List Piece) → Result ℕ Refusal
read_count None = Err SelectorNotRead
read_count (Some ps) = Ok (length ps)

abbrev pub read_answer : List ℕ → Result ℕ Refusal
read_answer s = pick (selector_too_long s) (Err SelectorTooLong) (read_count (read_selector s))
