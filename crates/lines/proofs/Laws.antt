-- Writing one text after another is writing the two joined: that is what every line's proof goes by.
use mathlib.Core.Path.{◌≡◌, refl, sym, ap, ◌∙◌}
use mathlib.Core.Bool.{Bool, true, false}
use mathlib.Core.List.{List, [], ◌∷◌, ◌++◌, append_assoc}
use Prim.Native.Nat.{ℕ, suc, ◌+◌, ◌-◌, ◌≤◌, ◌<◌, min}
use native.Mathlib.Numerals.{add-one}
use native.Mathlib.Omega.{arith}
use native.Mathlib.Decide.{dec_le}
use borrow.Rule.Slice.PartMut.{put_mid}
use lib.Dec.{leb}
use lib.ListN.{length, get_or, take, drop, set, length-append, take-append-drop}
use lib.Seq.{sets, sets-eq, length-sets, set_out, take-suc, take_all, length-take-le}
use borrow.Author.Tests.{leb-true, leb-false}
use Rattle.std.specs.List.{flat_map}
use Rattle.std.proofs.lemmas.List.{flat_map_more, take_more}
use Rattle.std.proofs.lemmas.List.Edits.{paste_all}
use Rattle.std.proofs.lemmas.Slice.{put_mid-paste}
use Rattle.lines.specs.Writes.{Writes}
use Rattle.lines.specs.Writer.{Puts}
use Rattle.lines.specs.declared.Writer.{Writer}

-- nothing is written past the end
pub sets_past : (out : List ℕ) (at : ℕ) (t : List ℕ) → length out ≤ at → sets out at t ≡ out
sets_past out at [] l = refl
sets_past out at (a ∷ t) l = ap (λ (o : List ℕ). sets o (suc at) t) (set_out out at a l) ∙ sets_past out (suc at) t (omega arith)

sets_append : (out : List ℕ) (at : ℕ) (s t : List ℕ) → sets (sets out at s) (at + length s) t ≡ sets out at (s ++ t)
sets_append out at [] t = ap (λ (k : ℕ). sets out k t) (omega arith)
sets_append out at (a ∷ s) t =
    let e : at + length (a ∷ s) ≡ suc at + length s = omega arith in
    ap (λ (k : ℕ). sets (sets out at (a ∷ s)) k t) e ∙ sets_append (set out at a) (suc at) s t

-- what finds no room is left out
sets_short : (out : List ℕ) (at : ℕ) (t : List ℕ) (k : ℕ) → k ≡ min (length t) (length out - at) → at ≤ length out
    → sets out at (take k t) ≡ sets out at t
sets_short out at t k e l = go (dec_le (length t) k)
  where
    size : length (take k t) ≡ k
    size = length-take-le k t (omega arith)

    go : Dec (length t ≤ k) → sets out at (take k t) ≡ sets out at t
    go (yes h) = ap (sets out at) (take_all k t h)
    go (no n) =
        sym (sets_past (sets out at (take k t)) (at + length (take k t)) (drop k t) (omega (arith, size, length-sets out at (take k t))))
        ∙ sets_append out at (take k t) (drop k t) ∙ ap (sets out at) (take-append-drop k t)

-- a copy of k bytes is the same
pub copied : (out : List ℕ) (at : ℕ) (t : List ℕ) (k : ℕ) {part : List ℕ} → k ≡ min (length t) (length out - at) → at ≤ length out
    → part ≡ take k t → put_mid at (at + k - at) out part ≡ sets out at t
copied out at t k {part} e l p =
    let size : length (take k t) ≡ k = length-take-le k t (omega arith) in
    put_mid-paste at (at + k - at) out part (take k t) k p (omega arith) (sym size)
    ∙ paste_all out at (take k t) k (sym size)
    ∙ ap (λ (j : ℕ). take at out ++ (take k t ++ drop (at + j) out)) (sym size)
    ∙ sym (sets-eq (take k t) out at (omega (arith, size)) ∙ append_assoc (take at out) (take k t) (drop (at + length (take k t)) out))
    ∙ sets_short out at t k e l

-- a place that stays one past the end writes the same as one that goes on
sets_on : (o : List ℕ) (at k : ℕ) (t : List ℕ) → sets o (at + min k (suc (length o) - at)) t ≡ sets o (at + k) t
sets_on o at k t = go (leb (at + k) (suc (length o))) refl
  where
    go : (b : Bool) → leb (at + k) (suc (length o)) ≡ b → sets o (at + min k (suc (length o) - at)) t ≡ sets o (at + k) t
    go true e = let h = leb-true (at + k) (suc (length o)) e in ap (λ (j : ℕ). sets o j t) (omega arith)
    go false e =
        let h = leb-false (at + k) (suc (length o)) e in
        sets_past o (at + min k (suc (length o) - at)) t (omega arith) ∙ sym (sets_past o (at + k) t (omega arith))

-- the steps of two texts, where x is how far the place can go
steps : (x k j : ℕ) → min k x + min j (x - min k x) ≡ min (k + j) x
steps x k j = omega arith

module _ {out : List ℕ} {at : ℕ} {s o : List ℕ} {r : ℕ} (a : Writes out at s o r) where
  pub same_size : length o ≡ length out
  same_size = ap length a.bytes ∙ length-sets out at s

  pub then_writes : {t o₂ : List ℕ} {r₂ : ℕ} → Writes o r t o₂ r₂ → Writes out at (s ++ t) o₂ r₂
  then_writes {t} {o₂} {r₂} b =
      let x : ℕ = suc (length out) - at in
      let next : r ≡ at + min (length s) (suc (length o) - at) = rw same_size a.place in
      let left : suc (length o) - r ≡ x - min (length s) x = rw (same_size, a.place) (omega arith) in
      record {
        bytes =
            b.bytes ∙ ap (λ (j : ℕ). sets o j t) next ∙ sets_on o at (length s) t
            ∙ ap (λ (l : List ℕ). sets l (at + length s) t) a.bytes ∙ sets_append out at s t;
        place = b.place ∙ rw (left, length-append) (omega (arith, a.place, steps x (length s) (length t)));
      }

-- ---- the same of a writer
-- nothing more to write
pub none : (w : Writer) → Puts w [] w
none w = record { written = record { bytes = refl; place = omega arith }; same = refl }

-- nor from past the end
pub beyond : (w : Writer) (text : List ℕ) → length w.out.now < w.at → Puts w text w
beyond w text l = record { written = record { bytes = sym (sets_past w.out.now w.at text (omega arith)); place = omega arith }; same = refl }

pub then : {u v w : Writer} {s t : List ℕ} → Puts u s v → Puts v t w → Puts u (s ++ t) w
then a b = record { written = then_writes a.written b.written; same = b.same ∙ a.same }

-- a loop over the bytes of a text
pub then_byte : {u v w : Writer} (text : List ℕ) (i : ℕ) → i < length text → Puts u (take i text) v → Puts v (get_or text i 0 ∷ []) w
    → Puts u (take (i + 1) text) w
then_byte text i l a b = rw (add-one, take-suc text i 0) (then a b)

-- a loop over the items of a list
pub then_item : {A : Type 0} (f : A → List ℕ) {u v w : Writer} (items : List A) (i : ℕ) (d : A) → i < length items
    → Puts u (flat_map f (take i items)) v → Puts v (f (get_or items i d)) w → Puts u (flat_map f (take (i + 1) items)) w
then_item f items i d l a b = rw (take_more items i d l, ← flat_map_more f [] (take i items) (get_or items i d)) (then a b)
