-- Row h's part of a table, as the code lends it, is what the definitions call row h: what it says, and what replacing it makes.
use mathlib.Core.Path.{◌≡◌, ap}
use mathlib.Core.List.{List}
use Prim.Native.Nat.{ℕ, ◌+◌, ◌-◌}
use native.Mathlib.Omega.{arith}
use lib.ListN.{take, drop}
use borrow.Rule.Slice.PartMut.{put_mid, Post-is}
use Rattle.rules.specs.Scan.{part}
use Rattle.rules.specs.Table.{words_of, node_of, node_at, row_at, put_row, row_words}
use Rattle.rules.specs.declared.Node.{Node}

-- where row h ends; the code has a row by its start and its end, the definitions by its start and its width
abbrev row_end : ℕ → ℕ
row_end h = row_at h + row_words

module _ (t : List ℕ) (h : ℕ) where
  -- the part's words say the node of row h
  pub row_node : node_of (part t (row_at h) (row_end h)) ≡ node_at t h
  unfolding node_at
  row_node =
      let width : row_end h - row_at h ≡ row_words = omega arith in
      ap (λ (k : ℕ). node_of (take k (drop (row_at h) t))) width

  -- words w that say f of the node that was there, put back as the part: row h holds f of its node
  pub row_put : (f : Node → Node) (w : List ℕ) → w ≡ words_of (f (node_of (part t (row_at h) (row_end h))))
      → put_mid (row_at h) (row_end h - row_at h) t w ≡ put_row t h (f (node_at t h))
  unfolding put_row
  row_put f w e = rw (Post-is (row_at h) (row_end h) t (omega arith), e, row_node)
