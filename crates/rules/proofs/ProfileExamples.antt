-- Examples of profiles, as the rules compute them: what is white, which names are void, how long a page may be, and what is no profile.
use Rattle.std.specs.Prelude.{ℕ, ◌≡◌, ◌+◌, refl, List, [], ◌∷◌, ◌++◌, take, drop, replicate}
use Rattle.rules.specs.Ascii.{bytes}
use Rattle.rules.specs.Profile.{limit_of, white_of, void_name, void_of, name_byte_fine, name_fine, numbers_fine, profile_fine, in_places, tl_profile}
use Rattle.rules.specs.Questions.{Example, example_under, answers, said, tag_row, text_row, range, attribute, class, query, rows, parse, own, foreign}
use Rattle.rules.specs.declared.Manner.TheVariants.{Scan}
use Rattle.rules.specs.declared.View.TheVariants.{All}
use Rattle.rules.specs.Scan.{span, agree}
use Rattle.rules.specs.Lists.{from, only, each}
use Rattle.rules.specs.Names.{one_of}
use Rattle.rules.specs.Attributes.{attribute_at, attribute_next, attributes_end}
use Rattle.rules.specs.Lexer.{comment_end, bang, tag, closing, markup, item_at}
use Rattle.rules.specs.Reader.{close_into, put, step, steps, with_last}
use Rattle.rules.specs.Table.{node_at, filled}
use Rattle.rules.specs.Sound.{all, reaching}
use Rattle.rules.specs.Lookup.{attributes, first_of, last_of, lookup_from, answer}
use Rattle.rules.specs.Words.{gap, words_from, times, contains}
use Rattle.rules.specs.Selector.{operand_at, attribute_from, simple_at}
use Rattle.rules.specs.Chain.{selector_at, chain_at, written}
use Rattle.rules.specs.Query.{meaning}
use Rattle.rules.specs.Answers.{parse_answer, parse_table, range_answer, attribute_answer, attribute_part, class_answer, class_buffer}
use Rattle.rules.specs.Answers.{query_answer, query_buffer}

-- a profile of 392 bytes: the limit, below 256, the four white bytes, and the names
abbrev of : ℕ → List ℕ → List (List ℕ) → List ℕ
of limit white names = take 392 ((limit ∷ 0 ∷ 0 ∷ 0 ∷ []) ++ white ++ in_places names ++ replicate 384 0)

-- tabs are white; `x` is void, and a name of 16 bytes
abbrev tabs : List ℕ
tabs = of 99 (9 ∷ 0 ∷ 0 ∷ 0 ∷ []) (bytes "x" ∷ bytes "abcdefghijklmnop" ∷ [])

-- nothing is white, and no name is void
abbrev bare : ℕ → List ℕ
bare limit = of limit (replicate 4 0) []

-- tl's but for the byte at i
abbrev altered : ℕ → ℕ → List ℕ
altered i b = take i tl_profile ++ (b ∷ []) ++ drop (i + 1) tl_profile

-- a page with a tab after the tag's name
abbrev tabbed : List ℕ → List ℕ
tabbed rest = bytes "<p" ++ (9 ∷ rest)

abbrev refused : List (List ℕ)
refused = (14 ∷ 0 ∷ []) ∷ (0 ∷ 0 ∷ []) ∷ []

abbrev examples : List Example
examples =
    -- a tab stands before an attribute and ends an unquoted value, and a space does neither
    example_under tabs (tabbed (bytes "k=a b" ++ (9 ∷ bytes "c>"))) (own (attribute 0 (bytes "k") [])) ((0 ∷ 2 ∷ 5 ∷ 8 ∷ []) ∷ bytes "a b" ∷ [])
    ∷ example_under tabs (tabbed (bytes "k=a b" ++ (9 ∷ bytes "c>"))) (own (attribute 0 (bytes "c") [])) ((0 ∷ 1 ∷ 0 ∷ 0 ∷ []) ∷ [] ∷ [])
    ∷ example_under tl_profile (bytes "<p k=a b>") (own (attribute 0 (bytes "k") [])) ((0 ∷ 2 ∷ 5 ∷ 6 ∷ []) ∷ bytes "a" ∷ [])
    -- an unused white place does not make byte 0 white
    ∷ example_under tabs (tabbed (bytes "k=a" ++ (0 ∷ bytes "b>"))) (own (attribute 0 (bytes "k") []))
    ((0 ∷ 2 ∷ 5 ∷ 8 ∷ []) ∷ (97 ∷ 0 ∷ 98 ∷ []) ∷ [])
    -- class values are cut at a space still
    ∷ example_under tabs (tabbed (bytes "class='a b'>")) (own (class (Scan All) (bytes "b") 1)) ((0 ∷ 1 ∷ []) ∷ (0 ∷ []) ∷ [])
    -- `x` is void, and `br` is not; nor is the empty name, for an unused place
    ∷ example_under tabs (bytes "<x>a") rows (tag_row 0 3 1 2 3 0 0 3 ∷ text_row 3 4 0 1 ∷ [])
    ∷ example_under tabs (bytes "<br>a") rows (tag_row 0 4 1 3 4 0 1 0 ∷ text_row 4 5 1 1 ∷ [])
    ∷ example_under tabs (bytes "<>a") rows (tag_row 0 2 1 1 2 0 1 0 ∷ text_row 2 3 1 1 ∷ [])
    ∷ example_under tabs (bytes "<abcdefghijklmnop>a") rows (tag_row 0 18 1 17 18 0 0 3 ∷ text_row 18 19 0 1 ∷ [])
    -- a page of one byte more than the limit, and of the limit's length
    ∷ example_under (bare 1) (bytes "ab") (parse 17) ((1 ∷ 0 ∷ []) ∷ replicate 17 0 ∷ [])
    ∷ example_under (bare 1) (bytes "a") (parse 17)
    ((0 ∷ 1 ∷ []) ∷ (1 ∷ 0 ∷ 1 ∷ 8 ∷ 9 ∷ 0 ∷ 0 ∷ 0 ∷ 2 ∷ 0 ∷ 1 ∷ 0 ∷ 0 ∷ 0 ∷ 0 ∷ 0 ∷ 0 ∷ []) ∷ [])
    -- 14 before 1 and 3: limits of 0 and 65,537; a white byte of 33; a name's byte that is none; one after its zero
    ∷ example_under (bare 0) (bytes "a") (parse 2) refused
    ∷ example_under (altered 0 1) (bytes "a") (parse 2) refused
    ∷ example_under (altered 4 33) (bytes "a") (parse 2) refused
    ∷ example_under (altered 8 33) (bytes "a") (parse 2) refused
    ∷ example_under (altered 13 97) (bytes "a") (parse 2) refused
    ∷ example_under (bare 0) (bytes "a") (foreign [] (range 0)) ((14 ∷ 0 ∷ 0 ∷ 0 ∷ []) ∷ [])
    ∷ example_under (bare 0) (bytes "a") (foreign [] (query All (bytes "a") 2)) refused
    ∷ []

computed : answers examples ≡ said examples
unfolding span agree from only each one_of attribute_at attribute_next attributes_end comment_end bang tag closing markup item_at close_into put step
    steps with_last node_at filled all reaching attributes first_of last_of lookup_from answer gap words_from times contains operand_at
    attribute_from simple_at selector_at chain_at written meaning parse_answer parse_table range_answer attribute_answer attribute_part
    class_answer class_buffer query_answer query_buffer limit_of white_of void_name void_of name_byte_fine name_fine numbers_fine profile_fine
computed = refl
