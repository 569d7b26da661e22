-- Words that are lent all zero, m for each handle: those of the first i handles are written, and the others are zero yet.
use mathlib.Core.Path.{◌≡◌, ap, sym, ◌∙◌}
use mathlib.Core.List.{List, [], ◌∷◌, ◌++◌, append_assoc, append-nil}
use Prim.Native.Nat.{ℕ, suc, ◌+◌, ◌*◌, ◌-◌, ◌≤◌, ◌<◌}
use native.Mathlib.Omega.{arith}
use native.Mathlib.Nat.{mul-suc}
use borrow.Rule.Slice.PartMut.{put_mid, Post-is}
use lib.ListN.{length, get_or, take, drop, replicate, length-replicate, replicate-append-replicate}
use lib.Seq.{take_at, drop_at, drop-drop, take-suc, take_all, length-take-le}
use Rattle.rules.specs.Lists.{each}
use Rattle.rules.proofs.Lists.{each_append}
use Rattle.batch.proofs.Handles.{length_each}

module _ (W : ℕ → List ℕ) (m : ℕ) (size : (h : ℕ) → length (W h) ≡ m) (hs : List ℕ) where
  -- the words of the handles from i on
  abbrev zeros : ℕ → List ℕ
  zeros i = replicate (m * (length hs - i)) 0

  pub record Done (i at : ℕ) (out : List ℕ) : Type 0 where
    pub low : i ≤ length hs
    pub place : at ≡ m * i
    pub words : out ≡ each W (take i hs) ++ zeros i

  pub done_none : (out : List ℕ) → out ≡ replicate (m * length hs) 0 → Done 0 0 out
  unfolding each
  done_none out e =
      let z : length hs - 0 ≡ length hs = omega arith in record { low = omega arith; place = omega arith; words = e ∙ rw z }

  -- all words are written
  pub done_all : {i at : ℕ} {out : List ℕ} → Done i at out → length hs ≤ i → out ≡ each W hs
  done_all {i} d l =
      let none : m * (length hs - i) ≡ 0 = let z : length hs - i ≡ 0 = omega arith in rw z (omega arith) in
      d.words ∙ rw (take_all i hs l, none, append-nil)

  module _ {i at : ℕ} {out : List ℕ} (d : Done i at out) (l : i < length hs) where
    abbrev front : List ℕ
    front = each W (take i hs)

    long : length front ≡ at
    long = length_each W m size (take i hs) ∙ ap (λ (k : ℕ). m * k) (length-take-le i hs (omega arith)) ∙ sym d.place

    cut : out ≡ front ++ (replicate m 0 ++ zeros (suc i))
    cut =
        let z : length hs - i ≡ suc (length hs - suc i) = omega arith in
        let more : m * (length hs - i) ≡ m + m * (length hs - suc i) =
        ap (λ (k : ℕ). m * k) z ∙ mul-suc m (length hs - suc i) ∙ omega arith in
        d.words ∙ ap (λ (r : List ℕ). front ++ r) (rw more (sym (replicate-append-replicate m (m * (length hs - suc i)) 0)))

    -- those of the next handle are zero
    pub done_zeros : take (at + m - at) (drop at out) ≡ replicate m 0
    done_zeros =
        let z : at + m - at ≡ m = omega arith in
        rw (z, cut, drop_at front (replicate m 0 ++ zeros (suc i)) at long)
        (take_at (replicate m 0) (zeros (suc i)) m (length-replicate m 0))

    -- and are written
    pub done_more : (x : List ℕ) → x ≡ W (get_or hs i 0) → Done (i + 1) (at + m) (put_mid at (at + m - at) out x)
    unfolding each
    done_more x e =
        let s : i + 1 ≡ suc i = omega arith in
        let rest : drop (at + m) out ≡ zeros (suc i) =
        sym (drop-drop m at out)
        ∙ ap (drop m) (ap (drop at) cut ∙ drop_at front (replicate m 0 ++ zeros (suc i)) at long)
        ∙ drop_at (replicate m 0) (zeros (suc i)) m (length-replicate m 0) in
        let next : each W (take (suc i) hs) ≡ front ++ x =
        ap (each W) (take-suc hs i 0 l) ∙ each_append W (take i hs) (get_or hs i 0 ∷ [])
        ∙ ap (λ (r : List ℕ). front ++ r) (append-nil (W (get_or hs i 0)) ∙ sym e) in
        record {
          low = omega arith;
          place = rw s (omega (arith, d.place, mul-suc m i));
          words =
              rw (s, next, Post-is at (at + m) out (omega arith), rest, cut, take_at front (replicate m 0 ++ zeros (suc i)) at long)
              (sym (append_assoc front x (zeros (suc i))));
        }

-- the first n words of d are cleared, and are w
module _ (d w : List ℕ) (n : ℕ) (fits : n ≤ length d) (clears : w ≡ replicate (length (take n d)) 0) where
  pub cleared : w ≡ replicate n 0
  cleared = clears ∙ ap (λ (k : ℕ). replicate k 0) (length-take-le n d fits)

  pub cleared_first : take n (w ++ drop n d) ≡ replicate n 0
  cleared_first = take_at w (drop n d) n (ap length cleared ∙ length-replicate n 0) ∙ cleared
