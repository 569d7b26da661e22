-- The end of the page: the open tags get their last descendant one after the other, from the innermost to its parents.
use mathlib.Core.Path.{◌≡◌, ap, ◌∙◌}
use mathlib.Core.List.{List}
use Prim.Native.Nat.{ℕ, ◌+◌, ◌-◌, ◌≤◌, ◌<◌}
use native.Mathlib.Omega.{arith}
use lib.ListN.{length, set}
use Rattle.rules.specs.Reader.{node, with_last, closed, settled}
use Rattle.rules.specs.Table.{row_at, row_words, node_at, put_row, Filled}
use Rattle.rules.proofs.Table.{filled_size}
use Rattle.rules.specs.declared.Node.{Node}
use Rattle.tree.specs.Held.{Rows}
use Rattle.tree.proofs.Rows.{Innermost, none_open, innermost, rows_close}

-- of the open tags hs in ns some are settled: the open tags ks in ms are left
pub record Left (last : ℕ) (t₁ t hd : List ℕ) (inner : ℕ) (ns : List Node) (hs : List ℕ) : Type 0 where
  pub ms : List Node
  pub ks : List ℕ
  pub rows : Rows t₁ t hd ms ks inner
  pub rest : with_last last hs ns ≡ with_last last ks ms

module _ {last inner : ℕ} {t₁ t hd : List ℕ} {ns : List Node} {hs : List ℕ} (L : Left last t₁ t hd inner ns hs) where
  pub left_none : inner ≡ 0 → Filled t₁ t hd (with_last last hs ns)
  unfolding with_last
  left_none z = rw (L.rest, none_open L.rows z) L.rows.filled

  module _ (some : 0 < inner) where
    tag : Innermost t₁ L.ms L.ks (inner - 1)
    tag = innermost L.rows some

    pub left_row : row_at (inner - 1) + row_words ≤ length t₁
    left_row = omega (arith, tag.below, L.rows.filled.fits, filled_size L.rows.filled)

    pub left_lower : (node_at t₁ (inner - 1)).parent < inner
    left_lower = rw (tag.row, tag.parent) (omega (arith, tag.lower))

    -- one more of them is settled
    pub left_more : {m : Node} {t₂ : List ℕ} → m ≡ node_at t₁ (inner - 1)
        → t₂ ≡ put_row t₁ (inner - 1) (closed (node_at t₁ (inner - 1)) m.end last m.ended)
        → Left last t₂ t hd m.parent ns hs
    unfolding with_last
    left_more em w =
        let k : ℕ = inner - 1 in
        let n : Node = node L.ms k in
        record {
          ms = set L.ms k (settled n last);
          ks = tag.around;
          rows = rows_close L.rows n.end last n.ended tag em (rw (em ∙ tag.row) at w);
          rest = L.rest ∙ ap (λ (hs : List ℕ). with_last last hs L.ms) tag.opens;
        }
