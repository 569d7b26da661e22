-- Texts of broken-off tags, how a tag ended, and the finished tags, as the public calls' definitions compute them, without a profile: pages cut at
-- some of their bytes.
use Prim.Native.Nat.{ℕ}
use mathlib.Core.Path.{◌≡◌, refl}
use mathlib.Core.List.{List, [], ◌∷◌, map}
use lib.ListN.{take, replicate}
use Rattle.rules.specs.Ascii.{bytes}
use Rattle.rules.specs.Names.{one_of}
use Rattle.rules.specs.Profile.{base}
use Rattle.rules.specs.Scan.{span, agree}
use Rattle.rules.specs.Lists.{from, only, each}
use Rattle.rules.specs.Attributes.{attributes_end}
use Rattle.rules.specs.Lexer.{comment_end, bang, tag, closing, markup, item_at}
use Rattle.rules.specs.Reader.{close_into, put, step, steps, with_last}
use Rattle.rules.specs.Table.{row_at, node_at, filled}
use Rattle.rules.specs.Sound.{last_at, all, reaching}
use Rattle.rules.specs.Finds.{handles}
use Rattle.rules.specs.Answers.{parse_answer, parse_table, text_answer, text_buffer}
use Rattle.cut.specs.Text.{given}
use Rattle.cut.specs.View.{is_finished}

-- five rows are enough
abbrev table : List ℕ → List ℕ
table p = parse_table base p (replicate (row_at 5) 0)

-- the text of the page's first tag in its first n bytes
abbrev text_to : List ℕ → ℕ → List ℕ
text_to p n = given base (take n p) (table (take n p)) 0 (replicate 4 0)

-- the end of its last descendant in the whole page, and its own
abbrev ends : List ℕ → List ℕ
ends p = (node_at (table p) (last_at (table p) 0)).end ∷ (node_at (table p) 0).end ∷ []

-- `b` and then an unfinished comment, which ends where it starts: from that place on the text is whole, and no sooner
abbrev commented : List ℕ
commented = bytes "<a>xy<b>z<!--c"

-- `a` is never closed, and its own end says nothing of its text
abbrev unclosed : List ℕ
unclosed = bytes "<a>x<b>y</b>z"

texts : (map (text_to commented) (3 ∷ 4 ∷ 5 ∷ 8 ∷ 9 ∷ 14 ∷ [])
    ≡ [] ∷ bytes "x" ∷ bytes "xy" ∷ bytes "xy" ∷ bytes "xyz" ∷ bytes "xyz" ∷ [])
    × (map (text_to unclosed) (12 ∷ 13 ∷ []) ≡ bytes "xy" ∷ bytes "xyz" ∷ [])
    × (map ends (commented ∷ unclosed ∷ []) ≡ (9 ∷ 3 ∷ []) ∷ (13 ∷ 3 ∷ []) ∷ [])
unfolding span agree from each one_of attributes_end comment_end bang tag closing markup item_at close_into put step steps with_last
    node_at filled all reaching parse_answer parse_table text_answer text_buffer
texts = (refl, refl, refl)

-- how the page's first tag ended in its first n bytes
abbrev ended_to : List ℕ → ℕ → ℕ
ended_to p n = (node_at (table (take n p)) 0).ended

-- so no clause of `CutOff` can speak of it: 1 in the whole page is 0 and 2 in beginnings, 0 is 2, and 2 is 0
endings : (map (ended_to (bytes "<p></p>")) (7 ∷ 6 ∷ 3 ∷ []) ≡ 1 ∷ 2 ∷ 0 ∷ [])
    × (map (ended_to (bytes "<a></ab>")) (8 ∷ 6 ∷ []) ≡ 0 ∷ 2 ∷ [])
    × (map (ended_to (bytes "<p></p")) (6 ∷ 3 ∷ []) ≡ 2 ∷ 0 ∷ [])
unfolding span agree from each one_of attributes_end comment_end bang tag closing markup item_at close_into put step steps with_last
    node_at filled all reaching parse_answer parse_table text_answer text_buffer
endings = (refl, refl, refl)

-- the finished tags of a page's first n bytes, by their handles: a tag that is never opened is one once its `>` was read, another once
-- the closing tag's was; so they come one by one, and none of them goes
abbrev finished_to : List ℕ → ℕ → List ℕ
finished_to p n = let ws = table (take n p) in only (is_finished ws) (handles ws)

finished_tags : map (finished_to (bytes "<a><b></b><br></a>")) (9 ∷ 10 ∷ 13 ∷ 14 ∷ 17 ∷ 18 ∷ [])
    ≡ [] ∷ (1 ∷ []) ∷ (1 ∷ []) ∷ (1 ∷ 2 ∷ []) ∷ (1 ∷ 2 ∷ []) ∷ (0 ∷ 1 ∷ 2 ∷ []) ∷ []
unfolding span agree from only each one_of attributes_end comment_end bang tag closing markup item_at close_into put step steps with_last
    node_at filled all reaching parse_answer parse_table
finished_tags = refl
