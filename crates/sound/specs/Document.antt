-- Where the places of a node stand.
use Rattle.std.specs.Prelude.{◌≡◌, List, ℕ, ◌≤◌, ◌<◌, length}
use Rattle.rules.specs.declared.Node.{Node}

-- of a node of the page p: they lie in it; and a tag's name ends before its opening does
pub record Places (p : List ℕ) (n : Node) : Type 0 where
  pub start : n.start ≤ n.end
  pub end : n.end ≤ length p
  pub opening : n.kind ≡ 1 → (n.stop < n.opened) × (n.opened ≤ length p)
