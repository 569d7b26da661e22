-- Questions about the bytes of a page or a selector, and what the rules answer, as numbers. For tables of examples.
use Rattle.std.specs.Prelude.{ℕ, List, [], ◌∷◌, map, length, replicate}
use Rattle.rules.specs.Profile.{Settings, settings_of, tl_profile}
use Rattle.rules.specs.Table.{words_of, row_at}
use Rattle.rules.specs.Refusals.{counted_numbers, ranged_numbers, found_numbers, asked_numbers}
use Rattle.rules.specs.Answers.{reading, parse_answer, parse_table, range_answer, text_answer, text_buffer, attribute_answer, attribute_part, id_answer}
use Rattle.rules.specs.Answers.{class_answer, class_buffer, selector_answer, selector_buffer, query_answer, query_buffer, query_below_answer}
use Rattle.rules.specs.Answers.{query_below_buffer}
use Rattle.rules.specs.declared.Manner.{Manner}
use Rattle.rules.specs.declared.View.{View}

-- A question to a page's table. Each buffer lent is zeros, of as many entries as the last number says.
pub data Question : Type 0 where
  range : ℕ → Question
  text : ℕ → ℕ → Question
  attribute : ℕ → List ℕ → List ℕ → Question
  id : Manner → List ℕ → Question
  class : Manner → List ℕ → ℕ → Question
  query : View → List ℕ → ℕ → Question
  query_below : ℕ → View → List ℕ → ℕ → Question

-- A question about bytes.
pub data Asking : Type 0 where
  -- a page: the rows of its nodes, its version, its reading into so many words
  rows : Asking
  version : Asking
  parse : ℕ → Asking
  -- a page with the table as its own reading left it, and with another
  own : Question → Asking
  foreign : List ℕ → Question → Asking
  -- a selector, into so many words
  selector : ℕ → Asking

abbrev zeros : ℕ → List ℕ
zeros n = replicate n 0

module _ (f : Settings) (p : List ℕ) where
  abbrev answer_of : List ℕ → Question → List (List ℕ)
  answer_of ws (range h) = ranged_numbers (range_answer f p ws h) ∷ []
  answer_of ws (text h n) = counted_numbers (text_answer f p ws h n) ∷ text_buffer f p ws h (zeros n) ∷ []
  answer_of ws (attribute h k b) = asked_numbers (attribute_answer f p ws h k) ∷ attribute_part f p ws h k b ∷ []
  answer_of ws (id m k) = found_numbers (id_answer f p ws m k) ∷ []
  answer_of ws (class m k n) = counted_numbers (class_answer f p ws m k n) ∷ class_buffer f p ws m k (zeros n) ∷ []
  answer_of ws (query v s n) = counted_numbers (query_answer f p ws v s n) ∷ query_buffer f p ws v s (zeros n) ∷ []
  answer_of ws (query_below h v s n) =
      counted_numbers (query_below_answer f p ws h v s n) ∷ query_below_buffer f p ws h v s (zeros n) ∷ []

  -- the table of the page's own reading
  abbrev table_of : List ℕ
  table_of = parse_table f p (zeros (row_at (length (reading f p).nodes)))

  abbrev pub replies : Asking → List (List ℕ)
  replies rows = map words_of (reading f p).nodes
  replies version = ((reading f p).version ∷ []) ∷ []
  replies (parse n) = counted_numbers (parse_answer f p n) ∷ parse_table f p (zeros n) ∷ []
  replies (own q) = answer_of table_of q
  replies (foreign ws q) = answer_of ws q
  replies (selector n) = counted_numbers (selector_answer p n) ∷ selector_buffer p (zeros n) ∷ []

-- a row's words, as a table of examples writes them: a tag's; and a text's or a comment's, of which the last number is the own handle
abbrev pub tag_row : ℕ → ℕ → ℕ → ℕ → ℕ → ℕ → ℕ → ℕ → List ℕ
tag_row start end name stop opened parent last ended = 1 ∷ start ∷ end ∷ name ∷ stop ∷ opened ∷ parent ∷ last ∷ ended ∷ []

abbrev other_row : ℕ → ℕ → ℕ → ℕ → ℕ → List ℕ
other_row kind start end parent handle = kind ∷ start ∷ end ∷ 0 ∷ 0 ∷ 0 ∷ parent ∷ handle ∷ 0 ∷ []

abbrev pub text_row : ℕ → ℕ → ℕ → ℕ → List ℕ
text_row = other_row 2

abbrev pub comment_row : ℕ → ℕ → ℕ → ℕ → List ℕ
comment_row = other_row 3

-- an example: a profile, the bytes, a question, and what is to be answered
pub record Example : Type 0 where
  pub profile : List ℕ
  pub given : List ℕ
  pub asking : Asking
  pub says : List (List ℕ)

abbrev pub example_under : List ℕ → List ℕ → Asking → List (List ℕ) → Example
example_under profile p q s = record { profile = profile; given = p; asking = q; says = s }

-- under tl's profile
abbrev pub example : List ℕ → Asking → List (List ℕ) → Example
example = example_under tl_profile

-- what the rules answer, for each example of a table
abbrev pub answers : List Example → List (List (List ℕ))
answers es = map (λ (e : Example). replies (settings_of e.profile) e.given e.asking) es

abbrev pub said : List Example → List (List (List ℕ))
said es = map (λ (e : Example). e.says) es
