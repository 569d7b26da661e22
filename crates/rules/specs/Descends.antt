-- From parent to parent. A parent is given as word 6 gives it: its handle plus 1, or 0 where there is none.
use Rattle.std.specs.Prelude.{ℕ, suc, ◌≡◌, List, ltb}
use Rattle.rules.specs.Scan.{pick}
use Rattle.rules.specs.Table.{node_at}
use Rattle.rules.specs.Sound.{count_of}

-- by these parents one comes up from d to h
pub data Reaches (parent : ℕ → ℕ) (h : ℕ) : ℕ → Type 0 where
  child : {d : ℕ} → parent d ≡ suc h → Reaches parent h d
  deeper : {d m : ℕ} → parent d ≡ suc m → Reaches parent h m → Reaches parent h d

-- the parents of a table's rows; what is no row has none
abbrev pub parents_in : List ℕ → ℕ → ℕ
parents_in ws d = pick (ltb d (count_of ws)) (node_at ws d).parent 0

-- d lies below row h of the table
abbrev pub Descends : List ℕ → ℕ → ℕ → Type 0
Descends ws h d = Reaches (parents_in ws) h d
