-- The listing of the page `<br><p>Hello</p>`, computed.
use mathlib.Core.Path.{◌≡◌, refl}
use mathlib.Core.List.{List, [], ◌∷◌, ◌++◌}
use Prim.Native.Nat.{ℕ}
use Rattle.rules.specs.Lists.{from, each}
use Rattle.rules.specs.Questions.{tag_row, text_row}
use Rattle.rules.specs.Table.{node_at}
use Rattle.std.specs.Fmt.{digits}
use Rattle.lines.specs.Lines.{node_line, head_line, listing_text}

abbrev page : List ℕ
page = 60 ∷ 98 ∷ 114 ∷ 62 ∷ 60 ∷ 112 ∷ 62 ∷ 72 ∷ 101 ∷ 108 ∷ 108 ∷ 111 ∷ 60 ∷ 47 ∷ 112 ∷ 62 ∷ []

-- the header, and three rows
abbrev table : List ℕ
table =
    (3 ∷ 0 ∷ 16 ∷ 8 ∷ 9 ∷ 0 ∷ 0 ∷ 0 ∷ []) ++ (tag_row 0 4 1 3 4 0 0 3 ++ (tag_row 4 16 5 6 7 0 2 1 ++ text_row 7 12 2 2))

pub listed : listing_text page table ≡
    (110 ∷ 111 ∷ 100 ∷ 101 ∷ 115 ∷ 32 ∷ 51 ∷ 32 ∷ 118 ∷ 101 ∷ 114 ∷ 115 ∷ 105 ∷ 111 ∷ 110 ∷ 32 ∷ 48 ∷ 10 ∷ [])
    ++ ((48 ∷ 32 ∷ 116 ∷ 97 ∷ 103 ∷ 32 ∷ 45 ∷ 32 ∷ 48 ∷ 32 ∷ 52 ∷ 32 ∷ 48 ∷ 32 ∷ 98 ∷ 114 ∷ 10 ∷ [])
    ++ ((49 ∷ 32 ∷ 116 ∷ 97 ∷ 103 ∷ 32 ∷ 45 ∷ 32 ∷ 52 ∷ 32 ∷ 49 ∷ 54 ∷ 32 ∷ 50 ∷ 32 ∷ 112 ∷ 10 ∷ [])
    ++ (50 ∷ 32 ∷ 116 ∷ 101 ∷ 120 ∷ 116 ∷ 32 ∷ 49 ∷ 32 ∷ 55 ∷ 32 ∷ 49 ∷ 50 ∷ 32 ∷ 50 ∷ 10 ∷ [])))
unfolding listing_text head_line node_line digits each from node_at
listed = refl
