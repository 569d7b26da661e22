-- The checked pages: the refusals' examples on the pages `a` and `<p>`, and pages whose tags end in
-- each of the four ways: one table, and one theorem of it, in proofs/Pages.antt.
use Rattle.std.specs.Prelude.{List, [], ◌∷◌}
use Rattle.rules.specs.Ascii.{bytes}
use Rattle.rules.specs.Questions.{Example, example, tag_row, text_row, comment_row, range, attribute, id, query, rows, parse, own, foreign, selector}
use Rattle.rules.specs.declared.Manner.TheVariants.{Scan, Closed}
use Rattle.rules.specs.declared.View.TheVariants.{All}

abbrev pub pages : List Example
pages =
    -- no nodes; one text; only the text `a `
    example (bytes "") rows []
    ∷ example (bytes "a") rows (text_row 0 1 0 0 ∷ [])
    ∷ example (bytes "a < b") rows (text_row 0 2 0 0 ∷ [])
    -- the tag `br/`, open, holding `x`; the same nesting
    ∷ example (bytes "<br/>x") rows (tag_row 0 5 1 4 5 0 1 0 ∷ text_row 5 6 1 1 ∷ [])
    ∷ example (bytes "<BR>x") rows (tag_row 0 4 1 3 4 0 1 0 ∷ text_row 4 5 1 1 ∷ [])
    -- an empty comment; a comment 0 to 8
    ∷ example (bytes "<!---->") rows (comment_row 0 0 0 0 ∷ [])
    ∷ example (bytes "<!--a-->") rows (comment_row 0 8 0 0 ∷ [])
    -- attributes `b` and `d`, without a value
    ∷ example (bytes "<i b cd>") (own (attribute 0 (bytes "b") [])) ((0 ∷ 1 ∷ 0 ∷ 0 ∷ []) ∷ [] ∷ [])
    ∷ example (bytes "<i b cd>") (own (attribute 0 (bytes "d") [])) ((0 ∷ 1 ∷ 0 ∷ 0 ∷ []) ∷ [] ∷ [])
    ∷ example (bytes "<i b cd>") (own (attribute 0 (bytes "cd") [])) ((0 ∷ 0 ∷ 0 ∷ 0 ∷ []) ∷ [] ∷ [])
    -- scan 0, closed none
    ∷ example (bytes "<p id=a>") (own (id (Scan All) (bytes "a"))) ((0 ∷ 1 ∷ 0 ∷ []) ∷ [])
    ∷ example (bytes "<p id=a>") (own (id Closed (bytes "a"))) ((0 ∷ 0 ∷ 0 ∷ []) ∷ [])
    -- `x` lies in `b`
    ∷ example (bytes "<a><b></a>x") rows
    (tag_row 0 3 1 2 3 0 2 0 ∷ tag_row 3 6 4 5 6 1 2 0 ∷ text_row 10 11 2 2 ∷ [])
    -- how a tag ended: open at the end of the page; closed; closed by a closing tag that is cut short; never opened, as void and by `/`
    ∷ example (bytes "<p>") rows (tag_row 0 3 1 2 3 0 0 0 ∷ [])
    ∷ example (bytes "<p></p>") rows (tag_row 0 7 1 2 3 0 0 1 ∷ [])
    ∷ example (bytes "<p></p") rows (tag_row 0 6 1 2 3 0 0 2 ∷ [])
    ∷ example (bytes "<br>") rows (tag_row 0 4 1 3 4 0 0 3 ∷ [])
    ∷ example (bytes "<p />") rows (tag_row 0 5 1 2 5 0 0 3 ∷ [])
    -- one tag name; refused as 6
    ∷ example (bytes "a+b") (selector 7) ((0 ∷ 1 ∷ []) ∷ (1 ∷ 0 ∷ 3 ∷ 0 ∷ 0 ∷ 0 ∷ 0 ∷ []) ∷ [])
    ∷ example (bytes "[k=\"x y\"]") (selector 2) ((6 ∷ 0 ∷ []) ∷ (0 ∷ 0 ∷ []) ∷ [])
    ∷ example (bytes "") (selector 2) ((6 ∷ 0 ∷ []) ∷ (0 ∷ 0 ∷ []) ∷ [])
    -- refusals 2, 3, 4 and 7: 8 words; 16 words, of which the first is 1; handle 0; 0 entries
    ∷ example (bytes "a") (parse 8) ((2 ∷ 0 ∷ []) ∷ (0 ∷ 0 ∷ 0 ∷ 0 ∷ 0 ∷ 0 ∷ 0 ∷ 0 ∷ []) ∷ [])
    ∷ example (bytes "a") (foreign (1 ∷ 0 ∷ 0 ∷ 0 ∷ 0 ∷ 0 ∷ 0 ∷ 0 ∷ 0 ∷ 0 ∷ 0 ∷ 0 ∷ 0 ∷ 0 ∷ 0 ∷ 0 ∷ []) (range 0)) ((3 ∷ 0 ∷ 0 ∷ 0 ∷ []) ∷ [])
    ∷ example (bytes "a") (own (range 0)) ((4 ∷ 0 ∷ 0 ∷ 0 ∷ []) ∷ [])
    ∷ example (bytes "<p>") (own (query All (bytes "p") 0)) ((7 ∷ 0 ∷ []) ∷ [] ∷ [])
    ∷ []
