-- Laws of `begins` and `contains`: what is shorter than k has no k in it, and a search goes from one start to the next.
use mathlib.Core.Path.{◌≡◌, refl, sym, ap, ap₂, ◌∙◌}
use mathlib.Core.Bool.{Bool, true, false, ◌&&◌, ◌||◌, or_self, or-false}
use mathlib.Core.List.{List, [], ◌∷◌}
use Prim.Native.Nat.{ℕ, zero, suc, ◌+◌, ◌-◌, ◌≤◌, ◌<◌}
use native.Mathlib.Decide.{dec_le, ℕ_discrete}
use lib.Dec.{eqb}
use native.Mathlib.Omega.{arith}
use lib.ListN.{length, take, drop, length-take, length-drop}
use lib.Seq.{drop-drop}
use borrow.Author.Tests.{le-leb, lt-leb, eq-eqb, ne_eqb}
use Rattle.std.specs.Str.{bytes_eq}
use Rattle.std.specs.List.{list_any, range_with_len}
use Rattle.rules.specs.Scan.{agree, same, part}
use Rattle.rules.specs.Words.{begins, ends, contains}
use Rattle.rules.proofs.Names.{agree_uneven}

flip : (a b : ℕ) → eqb b a ≡ eqb a b
flip a b = go (ℕ_discrete a b)
  where
    go : Dec (a ≡ b) → eqb b a ≡ eqb a b
    go (yes e) = rw (eq-eqb a b e, eq-eqb b a (sym e))
    go (no n) = rw (ne_eqb a b n, ne_eqb b a (λ e. n (sym e)))

-- what std says of two slices, in the words of the rules
pub std_same : (xs ys : List ℕ) → bytes_eq ys xs ≡ same xs ys
unfolding agree
std_same [] [] = refl
std_same [] (y ∷ ys) = refl
std_same (x ∷ xs) [] = refl
std_same (x ∷ xs) (y ∷ ys) = ap₂ ◌&&◌ (flip x y) (std_same xs ys)

-- xs is shorter than k
pub short : (k xs : List ℕ) → length xs < length k → false ≡ begins k xs
short k xs h = agree_uneven (λ x. x) (take (length k) xs) k (λ e. omega (arith, length-take (length k) xs))

-- k is found at the front of xs
pub fits : (k xs : List ℕ) → begins k xs ≡ true → length k ≤ length xs
fits k xs y = go (dec_le (length k) (length xs))
  where
    go : Dec (length k ≤ length xs) → length k ≤ length xs
    go (yes h) = h
    go (no h) = let z : ◌≡◌ {A = ℕ} 0 1 = cc (short k xs (omega arith)) in absurd (omega arith)

pub shorter : (k xs : List ℕ) → length xs < length k → false ≡ contains k xs
unfolding contains
shorter k [] h = short k [] h
shorter k (x ∷ xs) h = ap₂ ◌||◌ (short k (x ∷ xs) h) (shorter k xs (omega arith))

-- the end of xs; where xs is shorter than k, it is all of xs
pub at_end : (k xs : List ℕ) → same (drop (length xs - length k) xs) k ≡ ends k xs
at_end k xs = go (dec_le (length k) (length xs))
  where
    go : Dec (length k ≤ length xs) → same (drop (length xs - length k) xs) k ≡ ends k xs
    go (yes h) = rw (le-leb (length k) (length xs) h)
    go (no h) =
        rw (lt-leb (length k) (length xs) (omega arith))
        (sym (agree_uneven (λ x. x) (drop (length xs - length k) xs) k (λ e. omega (arith, length-drop (length xs - length k) xs))))

-- ---- a search: k is in xs where it begins what is left at one of its starts

-- at this start, or a later one
next : (k xs : List ℕ) → contains k xs ≡ (begins k xs || contains k (drop 1 xs))
unfolding contains
next k [] = sym (or_self (begins k []))
next k (x ∷ xs) = refl

-- the last start
last : (k xs : List ℕ) → length xs ≡ length k → (begins k xs || false) ≡ contains k xs
unfolding contains
last k [] e = or-false (begins k [])
last k (x ∷ xs) e = ap (λ (b : Bool). begins k (x ∷ xs) || b) (shorter k xs (omega arith))

module _ (k v : List ℕ) where
  abbrev pub stands : ℕ → Bool
  stands i = same (part v i (i + length k)) k

  stands_here : (i : ℕ) → stands i ≡ begins k (drop i v)
  stands_here i = let n : i + length k - i ≡ length k = omega arith in rw n

  from_start : (n i : ℕ) → i ≤ length v → n ≡ length v + 1 - length k - i → list_any stands (range_with_len i n) ≡ contains k (drop i v)
  from_start zero i l e = shorter k (drop i v) (omega (arith, length-drop i v))
  from_start (suc zero) i l e = rw (stands_here i) (last k (drop i v) (omega (arith, length-drop i v)))
  from_start (suc (suc n)) i l e =
      let later = from_start (suc n) (i + 1) (omega arith) (omega arith) ∙ ap (contains k) (sym (drop-drop 1 i v)) in
      ap₂ ◌||◌ (stands_here i) later ∙ sym (next k (drop i v))

  pub at_starts : (n : ℕ) → n ≡ length v + 1 - length k → list_any stands (range_with_len 0 n) ≡ contains k v
  at_starts n e = from_start n 0 (omega arith) (omega arith)
