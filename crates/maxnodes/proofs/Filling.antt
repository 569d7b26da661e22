-- A buffer that is filled with the densest page, byte by byte.
use Prim.Native.Nat.{ℕ, suc, ◌+◌, ◌-◌, ◌≤◌, ◌<◌}
use native.Mathlib.Numerals.{add-one}
use native.Mathlib.Omega.{arith}
use mathlib.Core.Path.{◌≡◌, refl, sym, ◌∙◌}
use mathlib.Core.List.{List, ◌∷◌, ◌++◌, append_assoc, append-nil}
use lib.ListN.{length, take, set, length-set}
use lib.Seq.{take_all, take-suc-set}
use Rattle.maxnodes.specs.Bound.{following, cycle, densest}

-- the first i bytes of `out` are the page's, and it goes on with b
pub record Filling (before out : List ℕ) (b i : ℕ) : Type 0 where
  pub within : i ≤ length before
  pub size : length out ≡ length before
  pub page : take i out ++ cycle b (length before - i) ≡ densest (length before)

pub none_filled : (before : List ℕ) → Filling before before 97 0
none_filled before = let z : length before - 0 ≡ length before = omega arith in record { within = omega arith; size = refl; page = rw z }

pub byte_filled : {before out : List ℕ} {b i : ℕ} (n : ℕ) → Filling before out b i → i < length before → n ≡ following b
    → Filling before (set out i b) n (i + 1)
unfolding cycle
byte_filled {before} {out} {b} {i} n F l e =
    let k : length before - i ≡ suc (length before - suc i) = omega arith in
    let p : take i out ++ (b ∷ cycle (following b) (length before - suc i)) ≡ densest (length before) = rw k at F.page in
    record {
      within = omega arith;
      size = length-set out i b ∙ F.size;
      page = rw (add-one, take-suc-set out i b (omega (arith, F.size)), append_assoc, e) p;
    }

pub all_filled : {before out : List ℕ} {b i : ℕ} → Filling before out b i → length before ≤ i → out ≡ densest (length before)
unfolding cycle
all_filled {before} {out} {b} {i} F l =
    let k : length before - i ≡ 0 = omega arith in
    let p : take i out ++ cycle b 0 ≡ densest (length before) = rw k at F.page in
    sym (take_all i out (omega (arith, F.size))) ∙ sym (append-nil (take i out)) ∙ p
