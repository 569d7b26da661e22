-- The rule of the table of marks, at all 256 entries by one test that antt computes.
use mathlib.Core.Path.{◌≡◌, refl, sym, ap, ◌∙◌}
use mathlib.Core.Bool.{Bool, true, false}
use mathlib.Core.List.{List}
use Prim.Native.Nat.{ℕ, ◌/◌, ◌%◌, ◌<◌}
use native.Mathlib.Decide.{dec_lt}
use native.Mathlib.Omega.{arith}
use borrow.Author.Tests.{ne_eqb}
use lib.Dec.{T, eqb, eqb→eq}
use lib.ListN.{length, get_or, get_or-eq_default}
use Rattle.rules.specs.Bytes.{is_ident, is_white, is_closing}
use Rattle.scan.specs.Marks.{mark_of, white_in, Base}
use Rattle.scan.proofs.Every.{at, every}

-- the test for white finds that part of a mark
mark_white : (i w c : Bool) → eqb (mark_of i w c / 2 % 2) 1 ≡ w
mark_white true true true = refl
mark_white true true false = refl
mark_white true false true = refl
mark_white true false false = refl
mark_white false true true = refl
mark_white false true false = refl
mark_white false false true = refl
mark_white false false false = refl

-- ---- the table with space and line feed for white
abbrev base_mark : ℕ → ℕ
base_mark b = mark_of (is_ident b) (is_white b) (is_closing b)

abbrev pub right : ℕ → ℕ → Bool
right b m = eqb m (base_mark b)

module _ (t : List ℕ) (all : T (every right t)) (size : length t ≡ 256) where
  base_rule : (b : ℕ) → b < 256 → get_or t b 0 ≡ base_mark b
  base_rule b h = eqb→eq (get_or t b 0) (base_mark b) (at right t all b (rw size h))

  white_low : (b : ℕ) → b < 256 → white_in t b ≡ is_white b
  unfolding white_in
  white_low b h = rw (base_rule b h) (mark_white (is_ident b) (is_white b) (is_closing b))

  white_right : (b : ℕ) → Dec (b < 256) → white_in t b ≡ is_white b
  unfolding white_in
  white_right b (yes h) = white_low b h
  white_right b (no h) =
      rw (get_or-eq_default t 0 {n = b} (omega arith), ne_eqb b 32 (λ e. omega arith), ne_eqb b 10 (λ e. omega arith))

  -- a table of 256 entries that passes the test at each; `tt` proves the test of the code's own table
  pub base : Base t
  base =
      record {
        marked = record { rule = λ b h. base_rule b h ∙ ap (λ (w : Bool). mark_of (is_ident b) w (is_closing b)) (sym (white_low b h)) };
        white = λ i b. white_right b (dec_lt b 256) i;
      }
