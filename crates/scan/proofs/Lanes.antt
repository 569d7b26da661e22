-- Vectors of 16 bytes: where no lane is set, no byte passes the test.
use mathlib.Core.Path.{◌≡◌, refl, sym, ap, ◌∙◌}
use mathlib.Core.Bool.{Bool, true, false, not, cond, ◌&&◌, true≢false}
use mathlib.Core.List.{List, map}
use Prim.Native.Nat.{ℕ, ◌+◌, ◌-◌, ◌%◌, ◌^◌, ◌≤◌, ◌<◌}
use native.Mathlib.Omega.{arith}
use lib.Dec.{eqb}
use lib.Lanes.{mask_l, zip2, top}
use lib.ListN.{length, get_or, take, drop, replicate, length-take, length-drop}
use lib.Seq.{take_all}
use Rattle.std.specs.Prelude.{bit_and}
use Rattle.std.proofs.Common.{get_or-take, get_or-drop}
use Rattle.std.proofs.lemmas.Bool.{eqb-true}
use Rattle.std.proofs.lemmas.List.{length-map}
use Rattle.std.proofs.lemmas.Simd.{none_from_empty_mask, mask_l-mod, get_or-zip2, length-zip2, get_or-replicate}
use Rattle.scan.specs.Pairs.{Nowhere, pair_at}

-- the 16 bytes from i on, each compared with q
abbrev pub same16 : List ℕ → ℕ → ℕ → List ℕ
same16 s i q = zip2 (λ a b. cond (eqb a b) 255 0) (take 16 (drop i s)) (replicate 16 q)

-- no lane is set
abbrev pub Unset : List ℕ → Type 0
Unset xs = not (eqb (mask_l (map (top 7) xs) % 2 ^ 64) 0) ≡ false

unnot : (b : Bool) → not b ≡ false → b ≡ true
unnot true h = refl
unnot false h = absurd (true≢false h)

unset_at : (xs : List ℕ) → length xs ≡ 16 → Unset xs → (k : ℕ) → k < 16 → top 7 (get_or xs k 0) ≡ false
unset_at xs n z k h =
    let short : length (map (top 7) xs) ≤ 64 = omega (arith, length-map xs (top 7)) in
    let zero : mask_l (map (top 7) xs) ≡ 0 = sym (mask_l-mod (map (top 7) xs) 64 short) ∙ eqb-true _ 0 (unnot _ z) in
    let all : take 16 xs ≡ xs = take_all 16 xs (omega arith) in
    none_from_empty_mask (top 7) xs 0 16 0 (omega arith) (rw all zero) k (omega arith) h

module _ (s : List ℕ) (i q : ℕ) (room : i + 16 ≤ length s) where
  size : length (take 16 (drop i s)) ≡ 16
  size = omega (arith, length-take {A = ℕ}, length-drop {A = ℕ})

  size16 : length (same16 s i q) ≡ 16
  size16 = length-zip2 _ (take 16 (drop i s)) (replicate 16 q) size ∙ size

  lane : (k : ℕ) → k < 16 → get_or (same16 s i q) k 0 ≡ cond (eqb (get_or s (i + k) 0) q) 255 0
  lane k h = get_or-zip2 _ (take 16 (drop i s)) (replicate 16 q) k 0 0 0 (omega (arith, size)) h
      ∙ rw (get_or-take, get_or-drop, get_or-replicate 16 k q 0 h)

top_same : (b : Bool) → top 7 (cond b 255 0) ≡ b
top_same true = refl
top_same false = refl

top_both : (a b : Bool) → top 7 (bit_and (cond a 255 0) (cond b 255 0)) ≡ (a && b)
top_both true true = refl
top_both true false = refl
top_both false true = refl
top_both false false = refl

pub none_same : (s : List ℕ) (i q : ℕ) → i + 16 ≤ length s → Unset (same16 s i q) → Nowhere (λ x. eqb (get_or s x 0) q) i (i + 16)
none_same s i q room z = λ x l h.
    let k : x - i < 16 = omega arith in
    let e : i + (x - i) ≡ x = omega arith in
    rw e at (sym (top_same _) ∙ ap (top 7) (sym (lane s i q room (x - i) k)) ∙ unset_at _ (size16 s i q room) z (x - i) k)

pub none_pair : (s : List ℕ) (i d a b : ℕ) → i + d + 16 ≤ length s → Unset (zip2 bit_and (same16 s i a) (same16 s (i + d) b))
    → Nowhere (pair_at s d a b) i (i + 16)
none_pair s i d a b room z = λ x l h.
    let k : x - i < 16 = omega arith in
    let e : i + (x - i) ≡ x = omega arith in
    let f : i + d + (x - i) ≡ x + d = omega arith in
    let one = size16 s i a (omega arith) in
    let two = size16 s (i + d) b room in
    let both : get_or (zip2 bit_and (same16 s i a) (same16 s (i + d) b)) (x - i) 0
    ≡ bit_and (cond (eqb (get_or s x 0) a) 255 0) (cond (eqb (get_or s (x + d) 0) b) 255 0)
    = get_or-zip2 bit_and _ _ (x - i) 0 0 0 (omega arith) (omega arith) ∙ rw (lane s i a (omega arith) (x - i) k, lane s (i + d) b room (x - i) k, e, f) in
    sym (top_both _ _) ∙ ap (top 7) (sym both) ∙ unset_at _ (length-zip2 bit_and _ _ (one ∙ sym two) ∙ one) z (x - i) k
