-- A byte up to the space made white in a table, or not.
use mathlib.Core.Path.{◌≡◌, refl, sym, ◌∙◌}
use mathlib.Core.Bool.{Bool, true, false}
use mathlib.Core.List.{List}
use Prim.Native.Nat.{ℕ, ◌*◌, ◌/◌, ◌%◌, ◌≤◌, ◌<◌}
use native.Mathlib.Decide.{ℕ_discrete, dec_lt}
use native.Mathlib.Omega.{arith}
use lib.Dec.{eqb}
use lib.ListN.{length, get_or, set, get_or-eq_default}
use lib.Seq.{get_or-set_same, get_or-set_other}
use borrow.Author.Tests.{eq-eqb, ne_eqb, lt-leb}
use Rattle.rules.specs.Bytes.{is_ident, is_closing, is}
use Rattle.rules.specs.Scan.{pick}
use Rattle.scan.specs.Marks.{bit, mark_of, white_in, Marked}

-- no byte up to the space is an identifier's or closing
low_ident : (b : ℕ) → b ≤ 32 → is_ident b ≡ false
low_ident b l =
    simp (
      lt-leb 48 b (omega arith),
      lt-leb 65 b (omega arith),
      lt-leb 97 b (omega arith),
      ne_eqb b 45 (λ e. omega arith),
      ne_eqb b 95 (λ e. omega arith),
      ne_eqb b 58 (λ e. omega arith),
      ne_eqb b 43 (λ e. omega arith),
      ne_eqb b 47 (λ e. omega arith),
    )

low_closing : (b : ℕ) → b ≤ 32 → is_closing b ≡ false
low_closing b l = simp (ne_eqb b 47 (λ e. omega arith), ne_eqb b 62 (λ e. omega arith))

-- a table has an entry for `z`, which has a mark, and so for all bytes up to the space
long : {t : List ℕ} → Marked t → 32 < length t
long {t} M = go (dec_lt 122 (length t))
  where
    go : Dec (122 < length t) → 32 < length t
    go (yes l) = omega arith
    go (no l) =
        let z : 0 ≡ mark_of (is_ident 122) (white_in t 122) (is_closing 122) =
        sym (get_or-eq_default t 0 {n = 122} (omega arith)) ∙ M.rule 122 (omega arith) in
        absurd (omega arith)

-- the mark of a white byte, and of one that is not
seen_bit : (v : Bool) → eqb (2 * bit v / 2 % 2) 1 ≡ v
seen_bit true = refl
seen_bit false = refl

module _ {t : List ℕ} (M : Marked t) (x : ℕ) (l : x ≤ 32) (v : Bool) where
  seen : (b : ℕ) → Dec (b ≡ x) → white_in (set t x (2 * bit v)) b ≡ pick (is x b) v (white_in t b)
  unfolding white_in
  seen b (yes q) = rw (eq-eqb b x q, q, get_or-set_same t x (2 * bit v) 0 (omega (arith, long M))) (seen_bit v)
  seen b (no n) = rw (ne_eqb b x n, get_or-set_other t x b (2 * bit v) 0 n)

  -- x is white as v says, and no other byte changes
  pub white_set : (b : ℕ) → white_in (set t x (2 * bit v)) b ≡ pick (is x b) v (white_in t b)
  white_set b = seen b (ℕ_discrete b x)

  ruled : (b : ℕ) → b < 256 → Dec (b ≡ x)
      → get_or (set t x (2 * bit v)) b 0 ≡ mark_of (is_ident b) (white_in (set t x (2 * bit v)) b) (is_closing b)
  unfolding white_in
  ruled b h (yes q) =
      let m : b ≤ 32 = omega arith in
      rw (low_ident b m, low_closing b m, q, get_or-set_same t x (2 * bit v) 0 (omega (arith, long M)), seen_bit v) (omega arith)
  ruled b h (no n) = rw (get_or-set_other t x b (2 * bit v) 0 n) (M.rule b h)

  pub marked_set : Marked (set t x (2 * bit v))
  marked_set = record { rule = λ b h. ruled b h (ℕ_discrete b x) }
