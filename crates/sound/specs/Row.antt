-- The parts of a row's test, and what a row leaves for the next one.
use Rattle.std.specs.Prelude.{◌≡◌, Bool, ◌&&◌, ◌||◌, List, ℕ, ◌+◌, ◌-◌, ◌≤◌, leb, ltb, eqb, Option, Some, None}
use Rattle.rules.specs.Scan.{pick}
use Rattle.rules.specs.Table.{node_at}
use Rattle.rules.specs.Sound.{tagged, places_sound, ended_sound, last_at, reaching, parent_at, row_sound}
use Rattle.rules.specs.declared.Node.{Node}

-- what the node n at row h of count says of itself: its kind and places; how it ended; own handle ≤ last < count, and another node than
-- a tag is its own last
abbrev pub own_sound : ℕ → ℕ → ℕ → Node → Bool
own_sound len count h n = places_sound len n && ended_sound h n && (leb h n.last && ltb n.last count && (tagged n || eqb n.last h))

-- what it says of its parent, where p is that one's handle plus 1, or 0
abbrev pub under_sound : List ℕ → ℕ → Node → Bool
under_sound ws p n = eqb n.parent p && (eqb p 0 || leb n.last (last_at ws (p - 1)))

-- the climb for row h may start at `from`: what reaches h among the rows below `from` is what reaches it among all rows below h
pub record ClimbStart (ws : List ℕ) (h from : ℕ) : Type 0 where
  pub low : from ≤ h
  pub same : reaching (last_at ws) h from ≡ parent_at ws h

-- after row h: the next climb starts at a tag itself, which may hold the next row, or at another node's parent
abbrev pub next_climb : ℕ → List ℕ → ℕ → ℕ → Option ℕ
next_climb len ws count h =
    pick (row_sound len ws count h) (Some (pick (tagged (node_at ws h)) (h + 1) (parent_at ws h))) None
