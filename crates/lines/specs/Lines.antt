-- What the listing program prints, as bytes.
use Rattle.std.specs.Prelude.{◌≡◌, ℕ, ◌-◌, ◌≤◌, List, [], ◌∷◌, ◌++◌, eqb, length, get_or, decimal, Result, Ok, Err}
use Rattle.rules.specs.Ascii.{bytes}
use Rattle.rules.specs.Scan.{pick}
use Rattle.rules.specs.Lists.{each}
use Rattle.rules.specs.Table.{node_at}
use Rattle.rules.specs.Sound.{count_of, tagged}
use Rattle.rules.specs.Finds.{handles}
use Rattle.rules.specs.Query.{name_of}
use Rattle.rules.specs.Refusals.{number_of}
use Rattle.rules.specs.declared.Node.{Node}
use Rattle.rules.specs.declared.Refusal.{Refusal}

-- a space and a text
abbrev pub field : List ℕ → List ℕ
field text = 32 ∷ text

abbrev pub line_feed : List ℕ
line_feed = 10 ∷ []

-- `tag`, `text` or `comment`
abbrev pub kind_name : ℕ → List ℕ
kind_name k =
    pick (eqb k 1) (bytes "tag")
    (pick (eqb k 2) (bytes "text") (bytes "comment"))

-- the parent's handle, of a word 6, or `-`
abbrev pub parent_name : ℕ → List ℕ
parent_name q = pick (eqb q 0) (45 ∷ []) (decimal (q - 1))

-- an empty name adds neither space nor name
abbrev pub name_field : List ℕ → List ℕ
name_field [] = []
name_field (b ∷ bs) = field (b ∷ bs)

-- a tag's name; another node has none
abbrev pub tag_name : List ℕ → Node → List ℕ
tag_name p n = pick (tagged n) (name_field (name_of p n)) []

-- a tag's name lies within the page
abbrev pub NameWithin : List ℕ → Node → Type 0
NameWithin p n = n.kind ≡ 1 → (n.name ≤ n.stop) × (n.stop ≤ length p)

-- the line of the node n of handle h
unfoldable pub node_line : List ℕ → ℕ → Node → List ℕ
node_line p h n =
    decimal h
    ++ (field (kind_name n.kind)
    ++ (field (parent_name n.parent)
    ++ (field (decimal n.start)
    ++ (field (decimal n.end)
    ++ (field (decimal n.last)
    ++ (tag_name p n
    ++ line_feed))))))

-- `nodes COUNT version VERSION`
unfoldable pub head_line : ℕ → ℕ → List ℕ
head_line count version =
    bytes "nodes"
    ++ (field (decimal count)
    ++ (field (bytes "version")
    ++ (field (decimal version)
    ++ line_feed)))

-- the page p with the table ws: the head line, then a line for each row
unfoldable pub listing_text : List ℕ → List ℕ → List ℕ
listing_text p ws = head_line (count_of ws) (get_or ws 1 0) ++ each (λ h. node_line p h (node_at ws h)) (handles ws)

-- `refused NUMBER`
unfoldable pub refused_text : ℕ → List ℕ
refused_text number = bytes "refused" ++ (field (decimal number) ++ line_feed)

-- what is printed, by what reading the page into the table answered
abbrev pub answer_text : List ℕ → List ℕ → Result ℕ Refusal → List ℕ
answer_text p ws (Ok n) = listing_text p ws
answer_text p ws (Err x) = refused_text (number_of x)
