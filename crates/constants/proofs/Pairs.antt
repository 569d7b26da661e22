-- Two comparisons by pairs: of two lists as long as one another, and of two bytes of a page with a test of each.
use mathlib.Core.Path.{◌≡◌, refl, ap}
use mathlib.Core.Bool.{Bool, ◌&&◌, and-true}
use mathlib.Core.List.{List, [], ◌∷◌}
use Prim.Native.Nat.{ℕ, suc, ◌+◌, ◌-◌, ◌≤◌, ◌<◌}
use native.Mathlib.Omega.{arith}
use lib.Dec.{eqb}
use lib.Seq.{drop-cons}
use borrow.Author.Tests.{lt-ltb}
use lib.ListN.{length}
use Rattle.std.specs.List.{list_all, zip}
use Rattle.rules.specs.Bytes.{is}
use Rattle.rules.specs.Scan.{agree, same, here, part}

pub all_pairs : (f : ℕ → ℕ) (xs ys : List ℕ) → length xs ≡ length ys → list_all (λ (p : ℕ × ℕ). eqb (f p.0) p.1) (zip xs ys) ≡ agree f xs ys
unfolding agree
all_pairs f [] [] e = refl
all_pairs f [] (y ∷ ys) e = absurd (omega arith)
all_pairs f (x ∷ xs) [] e = absurd (omega arith)
all_pairs f (x ∷ xs) (y ∷ ys) e = ap (λ (b : Bool). eqb (f x) y && b) (all_pairs f xs ys (omega arith))

module _ (x y : ℕ) (p : List ℕ) (at : ℕ) where
  -- two bytes are left: the part of them is compared
  pub pair_same : at + 2 ≤ length p → same (part p at (at + 2)) (x ∷ y ∷ []) ≡ (here (is x) p at && here (is y) p (suc at))
  unfolding agree
  pair_same h =
      let two : at + 2 - at ≡ 2 = omega arith in
      let l : at < length p = omega arith in
      let k : suc at < length p = omega arith in
      rw (two, drop-cons p at 0, drop-cons p (suc at) 0, lt-ltb at (length p) l, lt-ltb (suc at) (length p) k, and-true)
