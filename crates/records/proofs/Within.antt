-- A number and the byte after it lie in the input, and so does a record.
use mathlib.Core.Path.{◌≡◌, refl, sym, ap}
use mathlib.Core.Bool.{Bool, true, false}
use mathlib.Core.List.{List, ◌∷◌}
use Prim.Native.Nat.{ℕ, zero, suc, ◌+◌, ◌≤◌, ◌<◌}
use native.Mathlib.Omega.{arith}
use lib.ListN.{length}
use Rattle.std.proofs.Common.{Option, Some, None}
use Rattle.std.specs.Option.{option_map, option_map_or, option_and_then}
use Rattle.rules.specs.Bytes.{is}
use Rattle.rules.specs.Scan.{pick, here}
use Rattle.rules.proofs.Places.{here_below}
use Rattle.decimal.proofs.Numbers.{number_after}
use Rattle.decimal.specs.Digits.{number_at}
use Rattle.records.specs.Records.{followed, number_before, numbers_at, ending, record_at}
use Rattle.records.specs.declared.Record.{Record}

-- what a step found, and what followed from it
found : {A B : Type 0} (f : A → Option B) (x : Option A) {y : B} → option_and_then f x ≡ Some y → (z : A) × (x ≡ Some z) × (f z ≡ Some y)
found f (Some z) e = (z, refl, e)
found f None e = cc

found_map : {A B : Type 0} (f : A → B) (x : Option A) {y : B} → option_map f x ≡ Some y → (z : A) × (x ≡ Some z) × (f z ≡ y)
found_map f (Some z) {y} e = (z, refl, let p : f z ≡ y = cc in p)
found_map f None e = cc

-- a test that was passed
passed : {A : Type 0} (b : Bool) {x y : A} → pick b (Some x) None ≡ Some y → (b ≡ true) × (x ≡ y)
passed true {x} {y} e = (refl, let p : x ≡ y = cc in p)
passed false e = cc

module _ (s : List ℕ) where
  pub before_within : (at q : ℕ) (x : ℕ × ℕ) → number_before q s at ≡ Some x → (at < x.1) × (x.1 ≤ length s)
  unfolding number_before
  before_within at q x e =
      let f = found (followed q s) (number_at s at) e in
      let t = passed (here (is q) s f.0.1) f.2 in
      let a = number_after s at f.0.0 f.0.1 f.1 in
      let b = here_below (is q) s f.0.1 true (sym t.0) refl in
      let p : f.0.1 + 1 ≡ x.1 = ap (λ (y : ℕ × ℕ). y.1) t.1 in
      (omega arith, omega arith)

  -- several numbers end after they start
  numbers_after : (k at : ℕ) (x : List ℕ × ℕ) → numbers_at k s at ≡ Some x → at ≤ x.1
  unfolding numbers_at
  numbers_after zero at x e = let p : at ≡ x.1 = ap (λ (y : Option (List ℕ × ℕ)). option_map_or (λ z. z.1) y 0) e in omega arith
  numbers_after (suc k) at x e =
      let f = found (λ n. option_map (λ y. (n.0 ∷ y.0, y.1)) (numbers_at k s n.1)) (number_before 32 s at) e in
      let g = found_map (λ y. (f.0.0 ∷ y.0, y.1)) (numbers_at k s f.0.1) f.2 in
      let a = before_within at 32 f.0 f.1 in
      let b = numbers_after k f.0.1 g.0 g.1 in
      let p : g.0.1 ≡ x.1 = ap (λ (y : List ℕ × ℕ). y.1) g.2 in
      omega arith

  -- a record starts after its numbers, and its bytes and the line feed after them lie in the input
  pub record_within : (at : ℕ) (r : Record) → record_at s at ≡ Some r → (at < r.start) × (r.start + r.head.n < length s)
  unfolding record_at
  record_within at r e =
      let f = found (λ x. option_and_then (ending s x.0) (number_before 10 s x.1)) (numbers_at 4 s at) e in
      let g = found (ending s f.0.0) (number_before 10 s f.0.1) f.2 in
      let t = passed (here (is 10) s (g.0.1 + g.0.0)) g.2 in
      let a = numbers_after 4 at f.0 f.1 in
      let b = before_within f.0.1 10 g.0 g.1 in
      let l = here_below (is 10) s (g.0.1 + g.0.0) true (sym t.0) refl in
      let p : g.0.1 ≡ r.start = ap (λ (y : Record). y.start) t.1 in
      let q : g.0.0 ≡ r.head.n = ap (λ (y : Record). y.head.n) t.1 in
      (omega arith, omega arith)
