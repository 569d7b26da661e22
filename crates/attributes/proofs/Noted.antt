-- The attribute a of the page p is noted for the names of the text s: for one name, for one after the other, and for all.
use mathlib.Core.Path.{◌≡◌, refl, ap, ◌∙◌}
use mathlib.Core.Bool.{false}
use mathlib.Core.List.{List}
use Prim.Native.Nat.{ℕ, ◌+◌, ◌*◌, ◌-◌, ◌≤◌, ◌<◌}
use native.Mathlib.Decide.{ℕ_discrete}
use native.Mathlib.Omega.{arith}
use lib.ListN.{length}
use borrow.Rule.Slice.PartMut.{put_mid}
use Rattle.rules.specs.Scan.{part, same}
use Rattle.rules.specs.Refusals.{held_numbers}
use Rattle.rules.specs.declared.Attribute.{Attribute}
use Rattle.attributes.specs.Slots.{name_at}
use Rattle.attributes.specs.Noting.{noted, Notes, NotesOne, NotesAll, name_words}
use Rattle.attributes.proofs.Words.{held_length, words_at_lem, words_by, put_size, put_its, put_others}

module _ (p : List ℕ) (a : Attribute) (s es : List ℕ) where
  -- the words of a name that is not the attribute's stay as they are
  notes_other : (k : List ℕ) {x y : List ℕ} → same (part p a.name a.stop) k ≡ false → y ≡ x → Notes p a k x y
  notes_other k o q v e = rw o (q ∙ e)

  module _ (j : ℕ) {w : List ℕ} (room : length w ≡ 3 * length es) (l : j < length es) where
    -- name j's words were lent, and noted: they are x now
    pub notes_one : (x : List ℕ) → length x ≡ length (part w (3 * j) (3 * j + 3)) → Notes p a (name_at s es j) (part w (3 * j) (3 * j + 3)) x
        → NotesOne p a s es j w (put_mid (3 * j) (3 * j + 3 - 3 * j) w x)
    notes_one x n t =
        let z : 3 * j + 3 - 3 * j ≡ 3 = omega arith in
        let k : 3 * j + 3 ≤ length w = omega arith in
        record { size = put_size w j x k n; its = rw (put_its w j x k n) (rw z at t); others = put_others w j x k n }

  -- ---- the words of all names, which were w₀
  module _ (w₀ : List ℕ) where
    -- each name's were noted
    notes_all : length w₀ ≡ 3 * length es → {w : List ℕ} → length w ≡ length w₀
        → ((j : ℕ) → j < length es → Notes p a (name_at s es j) (name_words j w₀) (name_words j w)) → NotesAll p a s es w₀ w
    notes_all n {w} m t f q =
        words_by s (λ k. held_numbers (noted p a k (f k))) (λ k. held_length (noted p a k (f k))) 0 es w (m ∙ n)
        (λ j l. t j l (f (name_at s es j)) (ap (name_words j) q ∙ words_at_lem s (λ k. held_numbers (f k)) (λ k. held_length (f k)) 0 es j l))

    -- no name is the attribute's
    pub notes_none : length w₀ ≡ 3 * length es → ((j : ℕ) → j < length es → same (part p a.name a.stop) (name_at s es j) ≡ false) → NotesAll p a s es w₀ w₀
    notes_none n o = notes_all n refl (λ j l. notes_other (name_at s es j) (o j l) refl)

    -- none but name j
    pub notes_only : length w₀ ≡ 3 * length es → {j : ℕ} {w : List ℕ} → NotesOne p a s es j w₀ w
        → ((i : ℕ) → i < length es → (i ≡ j → ⊥) → same (part p a.name a.stop) (name_at s es i) ≡ false) → NotesAll p a s es w₀ w
    notes_only n {j} {w} t o = notes_all n t.size (λ i l. go i l (ℕ_discrete i j))
      where
        go : (i : ℕ) → i < length es → Dec (i ≡ j) → Notes p a (name_at s es i) (name_words i w₀) (name_words i w)
        go i l (yes e) = rw e t.its
        go i l (no e) = notes_other (name_at s es i) (o i l e) (t.others i e)

    -- those of the first j names were noted, and all are w
    pub record Noting (j : ℕ) (w : List ℕ) : Type 0 where
      pub size : length w ≡ length w₀
      pub past : (i : ℕ) → i < j → Notes p a (name_at s es i) (name_words i w₀) (name_words i w)
      pub rest : (i : ℕ) → j ≤ i → name_words i w ≡ name_words i w₀

    pub noting_none : Noting 0 w₀
    noting_none = record { size = refl; past = λ i l. absurd (omega arith); rest = λ i l. refl }

    module _ {j : ℕ} {w : List ℕ} (t : Noting j w) where
      pub noting_more : {w₁ : List ℕ} → NotesOne p a s es j w w₁ → Noting (j + 1) w₁
      noting_more {w₁} o =
          record {
            size = o.size ∙ t.size;
            past = λ i l. go i l (ℕ_discrete i j);
            rest = λ i l. o.others i (λ e. omega arith) ∙ t.rest i (omega arith);
          }
        where
          go : (i : ℕ) → i < j + 1 → Dec (i ≡ j) → Notes p a (name_at s es i) (name_words i w₀) (name_words i w₁)
          go i l (yes e) = rw (e, ← t.rest j (omega arith)) o.its
          go i l (no e) = rw (o.others i e) (t.past i (omega arith))

      pub noting_all : length w₀ ≡ 3 * length es → length es ≤ j → NotesAll p a s es w₀ w
      noting_all n l = notes_all n t.size (λ i k. t.past i (omega arith))
