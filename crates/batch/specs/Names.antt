-- What a quick test tells of the tags before they are read for several names.
use Rattle.std.specs.Prelude.{List, ℕ, ◌<◌, length, get_or}
use Rattle.rules.specs.Scan.{part}
use Rattle.rules.specs.Words.{Within}
use Rattle.rules.specs.Table.{node_at}

-- k stands in no handle's opening
abbrev pub Unnamed : List ℕ → List ℕ → List ℕ → List ℕ → Type 0
Unnamed p ws k hs =
    (i : ℕ) → i < length hs → let n = node_at ws (get_or hs i 0) in Within k (part p n.stop n.opened) → ⊥
