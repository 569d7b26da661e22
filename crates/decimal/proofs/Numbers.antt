-- The number that digits say, kept at 2^32 once it is not below that; the digits at a place; and where a number ends.
use mathlib.Core.Path.{◌≡◌, refl, sym, ap, ◌∙◌}
use mathlib.Core.Bool.{Bool, true, false, ◌&&◌}
use mathlib.Core.List.{List, [], ◌∷◌}
use Prim.Native.Nat.{ℕ, suc, ◌+◌, ◌-◌, ◌*◌, ◌≤◌, ◌<◌, min}
use native.Mathlib.Numerals.{add-one}
use native.Mathlib.Omega.{arith}
use native.Mathlib.Decide.{dec_le, dec_lt}
use lib.Dec.{ltb}
use lib.ListN.{length, get_or, take, drop, length-take, length-drop}
use lib.Seq.{drop-cons}
use borrow.Author.Tests.{le-leb, lt-leb, lt-ltb, le-ltb}
use Rattle.std.proofs.Common.{rules, Option, Some, None, Result, Ok, Err, ◌⊎◌}
use Rattle.std.specs.Prelude.{OkIff}
use Rattle.std.specs.Str.{all_ascii_digits}
use Rattle.std.specs.Result.{result_ok}
use Rattle.std.specs.Option.{option_map}
use Rattle.std.proofs.lemmas.Str.Parse.{IsNumeralModel, numerals_by_fold, digit_at}
use Rattle.rules.specs.Scan.{pick, span, skip, part}
use Rattle.rules.proofs.Runs.{span_le, skip_le}
use Rattle.decimal.specs.Digits.{is_digit, value_from, limit, number_of, number_at}

-- std's words for a text of digits and its value are these
own : IsNumeralModel (λ ds. all_ascii_digits ds ≡ true) (value_from 0)
unfolding value_from
own = numerals_by_fold _ (search rules) value_from (search rules)

run_digits : (s : List ℕ) → all_ascii_digits (take (span is_digit s) s) ≡ true
unfolding span
run_digits [] = refl
run_digits (b ∷ bs) = go (is_digit b) refl (run_digits bs)
  where
    go : (t : Bool) → is_digit b ≡ t → all_ascii_digits (take (span is_digit bs) bs) ≡ true
        → all_ascii_digits (take (pick t (suc (span is_digit bs)) 0) (b ∷ bs)) ≡ true
    go true e ih = rw (e, ih)
    go false e ih = refl

-- no digit is below `0`
pub digit_least : (ds : List ℕ) (i : ℕ) → all_ascii_digits ds ≡ true → i < length ds → 48 ≤ get_or ds i 0
digit_least ds i e l = omega (arith, digit_at ds i (own.to ds e) l)

module _ (s : List ℕ) (at end : ℕ) (e : end ≡ skip is_digit s at) where
  pub part_digits : all_ascii_digits (part s at end) ≡ true
  part_digits = let k : end - at ≡ span is_digit (drop at s) = omega arith in rw k (run_digits (drop at s))

  pub part_size : length (part s at end) ≡ end - at
  part_size = omega (arith, length-take (end - at) (drop at s), span_le is_digit (drop at s))

-- ---- the number that digits say

-- capping the number before the digits changes nothing where the end is capped
cap : (ds : List ℕ) (m : ℕ) → min (value_from m ds) limit ≡ min (value_from (min m limit) ds) limit
unfolding value_from
cap [] m = omega arith
cap (d ∷ ds) m =
    let e : min (m * 10 + (d - 48)) limit ≡ min (min m limit * 10 + (d - 48)) limit = omega arith in
    cap ds (m * 10 + (d - 48)) ∙ ap (λ (k : ℕ). min (value_from k ds) limit) e ∙ sym (cap ds (min m limit * 10 + (d - 48)))

-- one digit more
pub digit_more : (ds : List ℕ) (i n d m : ℕ) → i < length ds → d ≡ get_or ds i 0 - 48 → m ≡ min (n * 10 + d) limit
    → min (value_from n (drop i ds)) limit ≡ min (value_from m (drop (i + 1) ds)) limit
unfolding value_from
digit_more ds i n d m l e f =
    rw (add-one, drop-cons ds i 0, f, e) (cap (drop (suc i) ds) (n * 10 + (get_or ds i 0 - 48)))

-- digits say the number kept at 2^32, if it is below that
pub said : {E : Type 0} (ds : List ℕ) (n : ℕ) (r : Result ℕ E) → 1 ≤ length ds → length ds ≤ 10 → n ≡ min (value_from 0 ds) limit
    → OkIff r (n < limit) n → result_ok r ≡ number_of ds
unfolding number_of
said ds n (Ok x) l m e h =
    let b : value_from 0 ds < limit = omega (arith, h.0) in
    rw (le-leb 1 (length ds) l, le-leb (length ds) 10 m, lt-ltb (value_from 0 ds) limit b) (ap Some (omega (arith, h.0, h.1)))
said ds n (Err x) l m e h = go (dec_lt n limit)
  where
    go : Dec (n < limit) → None ≡ number_of ds
    go (yes b) = absurd (h b)
    go (no b) = rw (le-leb 1 (length ds) l, le-leb (length ds) 10 m, le-ltb (value_from 0 ds) limit (omega arith))

pub too_long : (ds : List ℕ) → 10 < length ds → number_of ds ≡ None
unfolding number_of
too_long ds l = rw (le-leb 1 (length ds) (omega arith), lt-leb (length ds) 10 l)

pub too_short : (ds : List ℕ) → length ds < 1 → number_of ds ≡ None
unfolding number_of
too_short ds l = rw (lt-leb 1 (length ds) l)

-- no digits stand past the end
pub outside : (s : List ℕ) (at end : ℕ) → end ≡ skip is_digit s at → (end < at) ⊎ (length s < end) → number_at s at ≡ None
unfolding number_at
outside s at end e h = go (dec_le at (length s))
  where
    go : Dec (at ≤ length s) → number_at s at ≡ None
    go (yes l) = absurd (grind (arith, e, h, skip_le is_digit s at l))
    go (no l) =
        let h : length s ≤ at = omega arith in
        let z = part_size s at (skip is_digit s at) refl in
        let k = span_le is_digit (drop at s) in
        ap (option_map (λ n. (n, skip is_digit s at))) (too_short (part s at (skip is_digit s at)) (omega (arith, length-drop at s)))

-- 1 to 10 digits up to `end` say a number, if it is below 2^32
pub number_to : (s : List ℕ) (at end : ℕ) → end ≡ skip is_digit s at → 1 ≤ end - at → end - at ≤ 10
    → number_at s at ≡ pick (ltb (value_from 0 (part s at end)) limit) (Some (value_from 0 (part s at end), end)) None
unfolding number_at number_of
number_to s at end e l m =
    rw (← e, part_size s at end e, le-leb 1 (end - at) l, le-leb (end - at) 10 m) (go (ltb (value_from 0 (part s at end)) limit))
  where
    go : (b : Bool) → option_map {U = ℕ × ℕ} (λ n. (n, end)) (pick (true && true && b) (Some (value_from 0 (part s at end))) None)
        ≡ pick b (Some (value_from 0 (part s at end), end)) None
    go true = refl
    go false = refl

-- a number ends no earlier than it starts
pub number_after : (s : List ℕ) (at n end : ℕ) → number_at s at ≡ Some (n, end) → at ≤ end
unfolding number_at span
number_after s at n end e = go (number_of (part s at (skip is_digit s at))) e
  where
    go : (x : Option ℕ) → option_map {U = ℕ × ℕ} (λ k. (k, skip is_digit s at)) x ≡ Some (n, end) → at ≤ end
    go (Some k) f =
        let q : ◌≡◌ {A = ℕ × ℕ} (k, skip is_digit s at) (n, end) = cc in
        let p : skip is_digit s at ≡ end = ap (λ (x : ℕ × ℕ). x.1) q in
        omega arith
    go None f = cc
