-- Examples, one or more for each rule that the checked pages leave out, as the rules compute them. They are theorems, and no recorded
-- questions alone, since they check within seconds and a wrong definition fails here first, before any code is proved against it.
use Prim.Native.Nat.{ℕ}
use mathlib.Core.Path.{◌≡◌, refl}
use mathlib.Core.List.{List, [], ◌∷◌, ◌++◌}
use lib.ListN.{replicate}
use Rattle.rules.specs.Ascii.{bytes}
use Rattle.rules.specs.Questions.{Example, example, answers, said, tag_row, text_row, range, text, attribute, id, class, query, query_below, rows}
use Rattle.rules.specs.Questions.{version, parse, own, foreign, selector}
use Rattle.rules.specs.declared.Manner.TheVariants.{Scan, Closed}
use Rattle.rules.specs.declared.View.TheVariants.{All, Finished}
use Rattle.rules.specs.Scan.{span, agree}
use Rattle.rules.specs.Lists.{from, only, each}
use Rattle.rules.specs.Names.{one_of}
use Rattle.rules.specs.Profile.{limit_of, white_of, void_name, void_of, name_byte_fine, name_fine, numbers_fine, profile_fine}
use Rattle.rules.specs.Attributes.{attribute_at, attribute_next, attributes_end}
use Rattle.rules.specs.Lexer.{comment_end, bang, tag, closing, markup, item_at}
use Rattle.rules.specs.Reader.{close_into, put, step, steps, with_last}
use Rattle.rules.specs.Table.{node_at, filled}
use Rattle.rules.specs.Sound.{all, reaching}
use Rattle.rules.specs.Lookup.{attributes, first_of, last_of, lookup_from, answer}
use Rattle.rules.specs.Words.{gap, words_from, times, contains}
use Rattle.rules.specs.Selector.{operand_at, attribute_from, simple_at}
use Rattle.rules.specs.Chain.{selector_at, chain_at, written}
use Rattle.rules.specs.Query.{meaning}
use Rattle.rules.specs.Answers.{parse_answer, parse_table, range_answer, text_answer, text_buffer, attribute_answer, attribute_part, id_answer}
use Rattle.rules.specs.Answers.{class_answer, class_buffer, selector_answer, selector_buffer, query_answer, query_buffer, query_below_answer}
use Rattle.rules.specs.Answers.{query_below_buffer}

-- two tags with equal ends above word 5, the second below the first, in a table that no reading makes
abbrev twins : List ℕ
twins =
    (2 ∷ 0 ∷ 10 ∷ 8 ∷ 9 ∷ 0 ∷ 0 ∷ 0 ∷ [])
    ++ tag_row 0 10 1 2 9 0 1 1 ++ tag_row 0 10 1 2 9 1 1 2

-- a page that broke off in a closing tag: a row that is open, a text, one that is never opened, one that is closed, one that was cut short
abbrev broken_off : List ℕ
broken_off = bytes "<b class=f id=a>x<br class=f><i class=f id=a></i><u class=f></u"

abbrev examples : List Example
examples =
    -- the listing's page: br and p at the root, the text in p
    example (bytes "<br><p>Hello</p>") rows
    (tag_row 0 4 1 3 4 0 0 3 ∷ tag_row 4 16 5 6 7 0 2 1 ∷ text_row 7 12 2 2 ∷ [])
    ∷ example (bytes "<br><p>Hello</p>") (own (range 0)) ((0 ∷ 0 ∷ 0 ∷ 0 ∷ []) ∷ [])
    ∷ example (bytes "<br><p>Hello</p>") (own (range 1)) ((0 ∷ 1 ∷ 2 ∷ 2 ∷ []) ∷ [])
    ∷ example (bytes "<br><p>Hello</p>") (own (range 3)) ((4 ∷ 0 ∷ 0 ∷ 0 ∷ []) ∷ [])
    -- `a` stays open; cut after 6 bytes it closes
    ∷ example (bytes "<a></ab>") rows (tag_row 0 3 1 2 3 0 0 0 ∷ [])
    ∷ example (bytes "<a></a") rows (tag_row 0 6 1 2 3 0 0 2 ∷ [])
    -- a line feed is white, a tab is not
    ∷ example (bytes "<\np>") rows (tag_row 0 4 2 3 4 0 0 0 ∷ [])
    ∷ example (bytes "<\tp>") rows (tag_row 0 4 1 1 4 0 0 0 ∷ [])
    -- version 5, and a text 16 to 23
    ∷ example (bytes "<!doctype html public>y") version ((5 ∷ []) ∷ [])
    ∷ example (bytes "<!doctype html public>y") rows (text_row 16 23 0 0 ∷ [])
    -- an accepted reading leaves the words after its rows as they were
    ∷ example (bytes "a") (parse 18)
    ((0 ∷ 1 ∷ []) ∷ ((1 ∷ 0 ∷ 1 ∷ 8 ∷ 9 ∷ 0 ∷ 0 ∷ 0 ∷ []) ++ text_row 0 1 0 0 ++ (0 ∷ [])) ∷ [])
    ∷ example (bytes "") (parse 7) ((2 ∷ 0 ∷ []) ∷ (0 ∷ 0 ∷ 0 ∷ 0 ∷ 0 ∷ 0 ∷ 0 ∷ []) ∷ [])
    -- a page of 65,536 bytes is read, one of 65,537 refused as 1
    ∷ example (replicate 65536 97) (parse 17)
    ((0 ∷ 1 ∷ []) ∷ ((1 ∷ 0 ∷ 65536 ∷ 8 ∷ 9 ∷ 0 ∷ 0 ∷ 0 ∷ []) ++ text_row 0 65536 0 0) ∷ [])
    ∷ example (replicate 65537 97) (parse 1) ((1 ∷ 0 ∷ []) ∷ (0 ∷ []) ∷ [])
    -- scan 0, closed 1; at equal ends the higher handle closes first
    ∷ example (bytes "<p id=a></p><q id=a></q>") (own (id (Scan All) (bytes "a"))) ((0 ∷ 1 ∷ 0 ∷ []) ∷ [])
    ∷ example (bytes "<p id=a></p><q id=a></q>") (own (id Closed (bytes "a"))) ((0 ∷ 1 ∷ 1 ∷ []) ∷ [])
    ∷ example (bytes "<p id=a>xx") (foreign twins (id Closed (bytes "a"))) ((0 ∷ 1 ∷ 0 ∷ []) ∷ [])
    -- the last id counts, and without a value it counts as absent; of another name the first counts
    ∷ example (bytes "<p id=a id=b>") (own (id (Scan All) (bytes "b"))) ((0 ∷ 1 ∷ 0 ∷ []) ∷ [])
    ∷ example (bytes "<p id=a id>") (own (id (Scan All) (bytes "a"))) ((0 ∷ 0 ∷ 0 ∷ []) ∷ [])
    ∷ example (bytes "<p k='1>' k=2>") (own (attribute 0 (bytes "k") [])) ((0 ∷ 2 ∷ 6 ∷ 8 ∷ []) ∷ bytes "1>" ∷ [])
    -- a fallback: where the name is absent or has no value, and not where the value is empty; a refusal hands back nothing
    ∷ example (bytes "<i venue=XLON>") (own (attribute 0 (bytes "venue") (bytes "XNYS"))) ((0 ∷ 2 ∷ 9 ∷ 13 ∷ []) ∷ bytes "XLON" ∷ [])
    ∷ example (bytes "<i venue=XLON>") (own (attribute 0 (bytes "venue") (bytes "XLON"))) ((0 ∷ 2 ∷ 9 ∷ 13 ∷ []) ∷ bytes "XLON" ∷ [])
    ∷ example (bytes "<i>") (own (attribute 0 (bytes "venue") (bytes "XNYS"))) ((0 ∷ 0 ∷ 0 ∷ 0 ∷ []) ∷ bytes "XNYS" ∷ [])
    ∷ example (bytes "<i venue>") (own (attribute 0 (bytes "venue") (bytes "XNYS"))) ((0 ∷ 1 ∷ 0 ∷ 0 ∷ []) ∷ bytes "XNYS" ∷ [])
    ∷ example (bytes "<i venue=''>") (own (attribute 0 (bytes "venue") (bytes "XNYS"))) ((0 ∷ 2 ∷ 10 ∷ 10 ∷ []) ∷ [] ∷ [])
    ∷ example (bytes "<i id>") (own (attribute 0 (bytes "id") (bytes "none"))) ((0 ∷ 0 ∷ 0 ∷ 0 ∷ []) ∷ bytes "none" ∷ [])
    ∷ example (bytes "x<i>") (own (attribute 0 (bytes "venue") (bytes "XNYS"))) ((4 ∷ 0 ∷ 0 ∷ 0 ∷ []) ∷ [] ∷ [])
    -- a class in a scan once, closed once for each time, and not before its tag is closed
    ∷ example (bytes "<p class='a\tb a'></p><p class=a>") (own (class (Scan All) (bytes "a") 3)) ((0 ∷ 2 ∷ []) ∷ (0 ∷ 1 ∷ 0 ∷ []) ∷ [])
    ∷ example (bytes "<p class='a\tb a'></p><p class=a>") (own (class Closed (bytes "a") 2)) ((0 ∷ 2 ∷ []) ∷ (0 ∷ 0 ∷ []) ∷ [])
    ∷ example (bytes "<p class='a\tb a'></p><p class=a>") (own (class Closed (bytes "a") 1)) ((7 ∷ 0 ∷ []) ∷ (0 ∷ []) ∷ [])
    ∷ example (bytes "<p class=a><q class=a></q></p>") (own (class Closed (bytes "a") 2)) ((0 ∷ 2 ∷ []) ∷ (1 ∷ 0 ∷ []) ∷ [])
    -- the texts below a tag, and none of its comments
    ∷ example (bytes "x<p>a<b>c</b><!--n-->d</p>y") (own (text 1 4)) ((0 ∷ 3 ∷ []) ∷ (97 ∷ 99 ∷ 100 ∷ 0 ∷ []) ∷ [])
    ∷ example (bytes "x<p>a<b>c</b><!--n-->d</p>y") (own (text 1 2)) ((7 ∷ 0 ∷ []) ∷ (0 ∷ 0 ∷ []) ∷ [])
    -- selectors: refused as 6 and 5; 128 letters; `a,b c` with trailing spaces
    ∷ example (bytes "a,") (selector 1) ((6 ∷ 0 ∷ []) ∷ (0 ∷ []) ∷ [])
    ∷ example (replicate 129 97) (selector 1) ((5 ∷ 0 ∷ []) ∷ (0 ∷ []) ∷ [])
    ∷ example (replicate 128 97) (selector 6) ((0 ∷ 1 ∷ []) ∷ (1 ∷ 0 ∷ 128 ∷ 0 ∷ 0 ∷ 0 ∷ []) ∷ [])
    ∷ example (bytes "a,b c ") (selector 18)
    ((0 ∷ 3 ∷ []) ∷ ((1 ∷ 0 ∷ 1 ∷ 0 ∷ 0 ∷ 2 ∷ []) ++ (1 ∷ 2 ∷ 3 ∷ 0 ∷ 0 ∷ 3 ∷ []) ++ (1 ∷ 4 ∷ 5 ∷ 0 ∷ 0 ∷ 0 ∷ [])) ∷ [])
    ∷ example (bytes "#.a*[k]> [k~='v']") (selector 30)
    ((0 ∷ 5 ∷ [])
    ∷ ((2 ∷ 1 ∷ 1 ∷ 0 ∷ 0 ∷ 1 ∷ []) ++ (3 ∷ 2 ∷ 3 ∷ 0 ∷ 0 ∷ 1 ∷ []) ++ (4 ∷ 0 ∷ 0 ∷ 0 ∷ 0 ∷ 1 ∷ []) ++ (5 ∷ 5 ∷ 6 ∷ 0 ∷ 0 ∷ 4 ∷ [])
    ++ (7 ∷ 10 ∷ 11 ∷ 14 ∷ 15 ∷ 0 ∷ []))
    ∷ [])
    ∷ example (bytes "[k='v\"]") (selector 1) ((6 ∷ 0 ∷ []) ∷ (0 ∷ []) ∷ [])
    ∷ example (bytes "a b") (selector 11) ((7 ∷ 0 ∷ []) ∷ replicate 11 0 ∷ [])
    -- queries: `*` finds texts too; descendants never match; meaning from the right; below a tag without the tag itself
    ∷ example (bytes "<p>x</p>") (own (query All (bytes "*") 2)) ((0 ∷ 2 ∷ []) ∷ (0 ∷ 1 ∷ []) ∷ [])
    ∷ example (bytes "<a></a><b><c></c></b>") (own (query All (bytes "a,b c") 2)) ((0 ∷ 1 ∷ []) ∷ (0 ∷ 0 ∷ []) ∷ [])
    ∷ example (bytes "<a></a><b><c></c></b>") (own (query All (bytes "b>c") 2)) ((0 ∷ 0 ∷ []) ∷ (0 ∷ 0 ∷ []) ∷ [])
    ∷ example (bytes "<p><p></p></p>") (own (query_below 0 All (bytes "p") 1)) ((0 ∷ 1 ∷ []) ∷ (1 ∷ []) ∷ [])
    ∷ example (bytes "<p>") (own (query All (bytes ",") 1)) ((6 ∷ 0 ∷ []) ∷ (0 ∷ []) ∷ [])
    -- all, and the finished tags alone: what room they need, and of two with an id the lower one
    ∷ example broken_off (own (class (Scan All) (bytes "f") 4)) ((0 ∷ 4 ∷ []) ∷ (0 ∷ 2 ∷ 3 ∷ 4 ∷ []) ∷ [])
    ∷ example broken_off (own (class (Scan Finished) (bytes "f") 2)) ((0 ∷ 2 ∷ []) ∷ (2 ∷ 3 ∷ []) ∷ [])
    ∷ example broken_off (own (class (Scan Finished) (bytes "f") 1)) ((7 ∷ 0 ∷ []) ∷ (0 ∷ []) ∷ [])
    ∷ example broken_off (own (query All (bytes "*") 5)) ((0 ∷ 5 ∷ []) ∷ (0 ∷ 1 ∷ 2 ∷ 3 ∷ 4 ∷ []) ∷ [])
    ∷ example broken_off (own (query Finished (bytes "*") 2)) ((0 ∷ 2 ∷ []) ∷ (2 ∷ 3 ∷ []) ∷ [])
    ∷ example broken_off (own (id (Scan All) (bytes "a"))) ((0 ∷ 1 ∷ 0 ∷ []) ∷ [])
    ∷ example broken_off (own (id (Scan Finished) (bytes "a"))) ((0 ∷ 1 ∷ 3 ∷ []) ∷ [])
    -- the finished ones below a tag that is open itself; and below a text
    ∷ example broken_off (own (query_below 0 Finished (bytes ".f") 2)) ((0 ∷ 2 ∷ []) ∷ (2 ∷ 3 ∷ []) ∷ [])
    ∷ example broken_off (own (query_below 1 Finished (bytes ".f") 1)) ((4 ∷ 0 ∷ []) ∷ (0 ∷ []) ∷ [])
    -- the kinds of piece with a value: word, beginning, end, part; an empty value
    ∷ example (bytes "<p k='ab cd'>") (own (query All (bytes "p[k=ab]") 1)) ((0 ∷ 0 ∷ []) ∷ (0 ∷ []) ∷ [])
    ∷ example (bytes "<p k='ab cd'>") (own (query All (bytes "[k~=ab][k^=ab][k$=cd][k*=d]") 1)) ((0 ∷ 1 ∷ []) ∷ (0 ∷ []) ∷ [])
    ∷ example (bytes "<p k='ab cd'>") (own (query All (bytes "[k~=b],[k^=b],[k$=c],[k*=bc]") 1)) ((0 ∷ 0 ∷ []) ∷ (0 ∷ []) ∷ [])
    ∷ example (bytes "<p k='ab cd'>") (own (query All (bytes "[k^=][k$=][k*=]") 1)) ((0 ∷ 1 ∷ []) ∷ (0 ∷ []) ∷ [])
    ∷ example (bytes "<p k='ab cd'>") (own (query All (bytes "[k~=]") 1)) ((0 ∷ 0 ∷ []) ∷ (0 ∷ []) ∷ [])
    -- `~=` cuts at U+2003 and U+00A0, and not at other bytes of two or three
    ∷ example (bytes "<p k=a" ++ (226 ∷ 128 ∷ 131 ∷ []) ++ bytes "b" ++ (194 ∷ 160 ∷ []) ++ bytes "c>")
    (own (query All (bytes "[k~=a][k~=b][k~=c]") 1))
    ((0 ∷ 1 ∷ []) ∷ (0 ∷ []) ∷ [])
    ∷ example (bytes "<p k=a" ++ (226 ∷ 128 ∷ 147 ∷ []) ++ bytes "b" ++ (194 ∷ 161 ∷ []) ++ bytes "c>")
    (own (query All (bytes "[k~=a],[k~=b],[k~=c]") 1))
    ((0 ∷ 0 ∷ []) ∷ (0 ∷ []) ∷ [])
    ∷ []

computed : answers examples ≡ said examples
unfolding span agree from only each one_of attribute_at attribute_next attributes_end comment_end bang tag closing markup item_at close_into put step
    steps with_last node_at filled all reaching attributes first_of last_of lookup_from answer gap words_from times contains operand_at
    attribute_from simple_at selector_at chain_at written meaning parse_answer parse_table range_answer text_answer text_buffer attribute_answer
    attribute_part id_answer class_answer class_buffer selector_answer selector_buffer query_answer query_buffer query_below_answer query_below_buffer
    limit_of white_of void_name void_of name_byte_fine name_fine numbers_fine profile_fine
computed = refl
