-- What each call does to the reading that a table and a state hold.
use Rattle.std.proofs.Common.{Option, Some, None}
use mathlib.Core.Path.{◌≡◌, refl, ap, sym}
use mathlib.Core.Bool.{Bool, true, false, ◌||◌}
use mathlib.Core.List.{List, [], ◌∷◌, ◌++◌}
use Prim.Native.Nat.{ℕ, ◌+◌, ◌-◌, ◌<◌, pred}
use native.Mathlib.Omega.{arith}
use lib.ListN.{length, length-append, length-set}
use lib.Seq.{get_or-append_seam}
use Rattle.rules.specs.Scan.{pick, part, same}
use Rattle.rules.specs.Reader.{Reading, no_node, parent_of, moved, pushed, leaf, tag_node, closed, ended_by, close_into, put}
use Rattle.rules.specs.Table.{row_at, row_words, node_at, put_row}
use Rattle.rules.specs.declared.Item.TheVariants.{Close, Doctype, Tag}
use Rattle.rules.specs.declared.Node.{Node}
use Rattle.rules.specs.declared.State.{State}
use Rattle.tree.specs.Held.{OpenChain, Represents, Step, Written, moved_to, added_to, version_to}
use Rattle.tree.proofs.Rows.{inner_below, chain_snoc, none_open, innermost, rows_next, rows_close}

-- ---- a step, from what it does to each reading

-- there was room, and the state is q now
pub step_done : {F : Reading → Reading} {t₁ t₂ : List ℕ} {s q : State} {r : Option State} → r ≡ Some q
    → ((t hd : List ℕ) (R : Reading) → Represents t₁ t hd R s → Represents t₂ t hd (F R) q) → Step F t₁ s t₂ r
step_done {q = q} e f =
    rw e (record {
      held = λ t hd R s₂ H i. let same : q ≡ s₂ = cc in rw (← same) (f t hd R H);
      full = λ t hd R H i. let z : ◌≡◌ {A = ℕ} 0 1 = cc in absurd (omega arith);
    })

-- there was none
pub step_full : {F : Reading → Reading} {t₁ t₂ : List ℕ} {s : State}
    → ((t hd : List ℕ) (R : Reading) → Represents t₁ t hd R s → length t₁ < row_at (length (F R).nodes)) → Step F t₁ s t₂ None
step_full f =
    record {
      held = λ t hd R s₂ H i. let z : ◌≡◌ {A = ℕ} 0 1 = cc in absurd (omega arith);
      full = λ t hd R H i. f t hd R H;
    }

-- a step that does the same to what is held
pub step_as : {F G : Reading → Reading} {t₁ t₂ : List ℕ} {s : State} {r : Option State}
    → ((t hd : List ℕ) (R : Reading) → Represents t₁ t hd R s → F R ≡ G R) → Step F t₁ s t₂ r → Step G t₁ s t₂ r
step_as f S =
    record {
      held = λ t hd R s₂ H e. rw (← f t hd R H) (S.held t hd R s₂ H e);
      full = λ t hd R H e. rw (← f t hd R H) (S.full t hd R H e);
    }

-- ---- the row that a state makes of a text or a comment, and of a tag

abbrev pub leaf_row : State → ℕ → ℕ → ℕ → Node
leaf_row s kind start end =
    record { kind = kind; start = start; end = end; name = 0; stop = 0; opened = 0; parent = s.inner; last = s.count; ended = 0 }

abbrev pub tag_row : State → ℕ → ℕ → ℕ → Bool → Node
tag_row s a e n shut =
    record { kind = 1; start = s.at; end = n; name = a; stop = e; opened = n; parent = s.inner; last = s.count; ended = pick shut 3 0 }

-- a reading with the node x more, and the open tags hs
abbrev grown : Reading → Node → List ℕ → ℕ → Reading
grown R x hs at = record { at = at; nodes = R.nodes ++ (x ∷ []); opens = hs; version = R.version }

module _ {t₁ t hd : List ℕ} {R : Reading} {s : State} (H : Represents t₁ t hd R s) where
  -- ---- a row more

  pub full_next : (x : Node) → length t₁ < row_at s.count + row_words → length t₁ < row_at (length (R.nodes ++ (x ∷ [])))
  full_next x l = simp length-append (omega (arith, H.count))

  held_next : (x : Node) (hs : List ℕ) {at inner : ℕ} {t₂ : List ℕ} → Written t₁ s.count x t₂ → OpenChain (R.nodes ++ (x ∷ [])) hs
      → inner ≡ parent_of hs → Represents t₂ t hd (grown R x hs at) (added_to s at inner)
  held_next x hs W c i =
      record {
        rows = rows_next H.rows x W H.count c i;
        at = refl;
        count = simp length-append (omega (arith, H.count));
        version = H.version;
      }

  still : (x : Node) → OpenChain (R.nodes ++ (x ∷ [])) R.opens
  still x = chain_snoc R.nodes x R.opens H.rows.chained

  pub held_leaf : {kind start end at : ℕ} {t₂ : List ℕ} → Written t₁ s.count (leaf_row s kind start end) t₂
      → Represents t₂ t hd (pushed R (leaf R kind start end) at) (added_to s at s.inner)
  held_leaf {kind} {start} {end} W =
      let x : Node = leaf R kind start end in
      held_next x R.opens (rw (← H.rows.innermost, ← H.count) W) (still x) H.rows.innermost

  -- shut says that the tag is never opened
  pub held_tag : (void : List ℕ → Bool) (p : List ℕ) {a e n : ℕ} (slash : Bool) {shut : Bool} {t₂ : List ℕ}
      → (slash || void (part p a e)) ≡ shut
      → Written t₁ s.count (tag_row s a e n shut) t₂
      → Represents t₂ t hd (put void p R (Tag a e n slash)) (added_to s n (pick shut s.inner (s.count + 1)))
  unfolding put
  held_tag void p {a} {e} {n} slash {shut = shut} {t₂ = t₂} b W = rw b (go shut)
    where
      new : Node
      new = tag_node R a e n shut

      row : Written t₁ s.count new t₂
      row = rw (← H.at, ← H.rows.innermost, ← H.count) W

      go : (d : Bool)
          → Represents t₂ t hd (grown R new (pick d R.opens (length R.nodes ∷ R.opens)) n) (added_to s n (pick d s.inner (s.count + 1)))
      go true = held_next new R.opens row (still new) H.rows.innermost
      go false =
          held_next new (length R.nodes ∷ R.opens) row (
            simp length-append (omega arith),
            ap (λ (m : Node). m.parent) (get_or-append_seam R.nodes new [] no_node),
            inner_below R.nodes R.opens H.rows.chained,
            still new,
          )
          (omega (arith, H.count))

  -- ---- no row more

  pub held_moved : (at : ℕ) → Represents t₁ t hd (moved R at) (moved_to s at)
  held_moved at = record { rows = H.rows; at = refl; count = H.count; version = H.version }

  pub held_version : (void : List ℕ → Bool) (p : List ℕ) (html : Bool) (at : ℕ)
      → Represents t₁ t hd (put void p R (Doctype html at)) (version_to s html at)
  unfolding put
  held_version void p html at = record { rows = H.rows; at = refl; count = H.count; version = ap (pick html 5) H.version }

  -- ---- a closing name

  module _ (void : List ℕ → Bool) (p : List ℕ) (a e n : ℕ) where
    pub held_none : s.inner ≡ 0 → Represents t₁ t hd (put void p R (Close a e n)) (moved_to s n)
    unfolding put close_into
    held_none z = let o = none_open H.rows z in rw o (rw o at (held_moved n))

    -- m is the row of the innermost open tag, and x says whether it has the name
    module _ (some : 0 < s.inner) {m : Node} (em : m ≡ node_at t₁ (s.inner - 1)) {x : Bool}
        (ex : x ≡ same (part p m.name m.stop) (part p a e)) where
      pub held_other : x ≡ false → Represents t₁ t hd (put void p R (Close a e n)) (moved_to s n)
      unfolding put close_into
      held_other y = let tag = innermost H.rows some in rw (tag.opens, ← tag.row, ← em, ← ex, y) (rw tag.opens at (held_moved n))

      pub held_close : {t₂ : List ℕ} → x ≡ true
          → t₂ ≡ put_row t₁ (s.inner - 1) (closed (node_at t₁ (s.inner - 1)) n (s.count - 1) (ended_by e n))
          → Represents t₂ t hd (put void p R (Close a e n)) (record { at = n; count = s.count; inner = m.parent; version = s.version })
      unfolding put close_into
      held_close y w =
          let tag = innermost H.rows some in
          let l : s.count - 1 ≡ pred (length R.nodes) = omega (arith, H.count) in
          rw (tag.opens, ← tag.row, ← em, ← ex, y, em, tag.row, ← l)
          (record {
            rows = rows_close H.rows n (s.count - 1) (ended_by e n) tag (sym tag.row) w;
            at = refl;
            count = simp length-set H.count;
            version = H.version;
          })
