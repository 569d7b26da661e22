-- The rows of a table and its open tags: what a row more, and the innermost open tag closed, make of them.
use mathlib.Core.Path.{◌≡◌, refl, ap, ◌∙◌}
use mathlib.Core.List.{List, [], ◌∷◌, ◌++◌}
use Prim.Native.Nat.{ℕ, ◌-◌, ◌≤◌, ◌<◌}
use native.Mathlib.Omega.{arith}
use native.Mathlib.Decide.{ℕ_discrete}
use lib.ListN.{length, set, length-append, length-set, get_or-append}
use lib.Seq.{get_or-set_same, get_or-set_other}
use Rattle.rules.specs.Reader.{no_node, node, parent_of, closed}
use Rattle.rules.specs.Table.{node_at, put_row}
use Rattle.rules.proofs.Table.{filled_size, filled_node, filled_next, filled_same}
use Rattle.rules.specs.declared.Node.{Node}
use Rattle.tree.specs.Held.{OpenChain, Rows, Written}

-- ---- the chain of open tags

pub inner_below : (ns : List Node) (hs : List ℕ) → OpenChain ns hs → parent_of hs ≤ length ns
inner_below ns [] c = omega arith
inner_below ns (h ∷ hs) c = c.0

-- it stays a chain with a row more, and with another end and last in a row
pub chain_snoc : (ns : List Node) (x : Node) (hs : List ℕ) → OpenChain ns hs → OpenChain (ns ++ (x ∷ [])) hs
chain_snoc ns x [] c = tt
chain_snoc ns x (h ∷ hs) c = (
  omega (arith, c.0, length-append ns (x ∷ [])),
  ap (λ (n : Node). n.parent) (get_or-append ns (x ∷ []) no_node h c.0) ∙ c.1,
  c.2,
  chain_snoc ns x hs c.3,
)

chain_set : (ns : List Node) (k e l x : ℕ) (hs : List ℕ) → OpenChain ns hs → OpenChain (set ns k (closed (node ns k) e l x)) hs
chain_set ns k e l x [] c = tt
chain_set ns k e l x (h ∷ hs) c =
    (omega (arith, c.0, length-set ns k (closed (node ns k) e l x)), go (ℕ_discrete h k) ∙ c.1, c.2, chain_set ns k e l x hs c.3)
  where
    go : Dec (h ≡ k) → (node (set ns k (closed (node ns k) e l x)) h).parent ≡ (node ns h).parent
    go (yes q) = rw (q, get_or-set_same ns k (closed (node ns k) e l x) no_node (rw (← q) c.0))
    go (no n) = rw (get_or-set_other ns k h (closed (node ns k) e l x) no_node n)

-- ---- the innermost open tag, k: its row, and the open tags around it
pub record Innermost (t₁ : List ℕ) (ns : List Node) (hs : List ℕ) (k : ℕ) : Type 0 where
  pub around : List ℕ
  pub opens : hs ≡ k ∷ around
  pub below : k < length ns
  pub row : node_at t₁ k ≡ node ns k
  pub parent : (node ns k).parent ≡ parent_of around
  pub lower : parent_of around ≤ k
  pub chained : OpenChain ns around

module _ {t₁ t hd : List ℕ} {ns : List Node} {hs : List ℕ} {inner : ℕ} (S : Rows t₁ t hd ns hs inner) where
  pub none_open : inner ≡ 0 → hs ≡ []
  none_open z = go hs S.innermost
    where
      go : (ks : List ℕ) → inner ≡ parent_of ks → ks ≡ []
      go [] i = refl
      go (k ∷ ks) i = absurd (omega arith)

  pub innermost : 0 < inner → Innermost t₁ ns hs (inner - 1)
  innermost some = go hs S.innermost S.chained
    where
      go : (ks : List ℕ) → inner ≡ parent_of ks → OpenChain ns ks → Innermost t₁ ns ks (inner - 1)
      go [] i c = absurd (omega arith)
      go (k ∷ ks) i c =
          let q : inner - 1 ≡ k = omega arith in
          rw q
          (record {
            around = ks;
            opens = refl;
            below = c.0;
            row = filled_node S.filled k no_node c.0;
            parent = c.1;
            lower = c.2;
            chained = c.3;
          })

  -- the node x in a row more, with the open tags ks
  pub rows_next : (x : Node) {ks : List ℕ} {count inner' : ℕ} {t₂ : List ℕ} → Written t₁ count x t₂ → count ≡ length ns
      → OpenChain (ns ++ (x ∷ [])) ks → inner' ≡ parent_of ks → Rows t₂ t hd (ns ++ (x ∷ [])) ks inner'
  rows_next x {ks} {count} W n c i =
      record {
        filled = filled_next S.filled count x W.words n (omega (arith, W.room, filled_size S.filled));
        chained = c;
        innermost = i;
      }

  -- the innermost open tag closed; m is its row
  pub rows_close : {k : ℕ} (end last x : ℕ) {m : Node} {t₂ : List ℕ} (I : Innermost t₁ ns hs k) → m ≡ node_at t₁ k
      → t₂ ≡ put_row t₁ k (closed (node_at t₁ k) end last x) → Rows t₂ t hd (set ns k (closed (node ns k) end last x)) I.around m.parent
  rows_close {k} end last x I e w =
      record {
        filled = filled_same S.filled k (closed (node ns k) end last x) (w ∙ rw I.row) I.below;
        chained = chain_set ns k end last x I.around I.chained;
        innermost = ap (λ (n : Node). n.parent) (e ∙ I.row) ∙ I.parent;
      }
