-- Inner text: the text nodes below a tag, joined.
use Rattle.std.specs.Prelude.{ℕ, zero, suc, ◌-◌, Bool, List, [], eqb}
use Rattle.rules.specs.Scan.{pick, part}
use Rattle.rules.specs.Lists.{from, only, each}
use Rattle.rules.specs.Table.{node_at}
use Rattle.rules.specs.Sound.{count_of, last_at, tagged}

-- the handles below h: own handle + 1 to its last
abbrev pub below : List ℕ → ℕ → List ℕ
below ws h = from (suc h) (last_at ws h - h)

-- the bytes of a text node; another node has none
abbrev pub text_at : List ℕ → List ℕ → ℕ → List ℕ
text_at p ws h = pick (eqb (node_at ws h).kind 2) (part p (node_at ws h).start (node_at ws h).end) []

-- the flat walk
abbrev pub inner_text : List ℕ → List ℕ → ℕ → List ℕ
inner_text p ws h = each (text_at p ws) (below ws h)

-- word 6 of row k names h
abbrev pub is_child : List ℕ → ℕ → ℕ → Bool
is_child ws h k = eqb (node_at ws k).parent (suc h)

abbrev pub children : List ℕ → ℕ → List ℕ
children ws h = only (is_child ws h) (from 0 (count_of ws))

-- the descent child by child, to the depth n: a text gives its bytes, a tag what its children give
unfoldable pub descent : List ℕ → List ℕ → ℕ → ℕ → List ℕ
descent p ws zero h = []
descent p ws (suc n) h = each (λ k. pick (tagged (node_at ws k)) (descent p ws n k) (text_at p ws k)) (children ws h)

-- no descent is deeper than the table has rows
abbrev pub by_child : List ℕ → List ℕ → ℕ → List ℕ
by_child p ws h = descent p ws (count_of ws) h
