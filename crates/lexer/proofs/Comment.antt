-- The search for the end of a comment: one law for each way through a turn of the loop.
use mathlib.Core.Path.{◌≡◌, refl, ap, sym, ◌∙◌}
use mathlib.Core.Bool.{Bool, true, false, not, ◌&&◌, and-false}
use mathlib.Core.List.{List}
use Prim.Native.Nat.{ℕ, zero, suc, ◌+◌, ◌-◌, ◌≤◌, ◌<◌}
use native.Mathlib.Omega.{arith}
use native.Mathlib.Decide.{dec_lt}
use lib.ListN.{length, get_or}
use borrow.Author.Tests.{lt-ltb, le-ltb, ne_eqb}
use Rattle.rules.specs.Bytes.{is, other}
use Rattle.rules.specs.Scan.{pick, here, skip}
use Rattle.rules.proofs.Places.{here_in, here_below}
use Rattle.rules.proofs.Runs.{skip_end, skip_stop, skip_more}
use Rattle.rules.specs.Lexer.{comment_end, comment_to}
use Rattle.laws.proofs.CutItem.{comment_none}
use Rattle.rules.specs.declared.Item.TheVariants.{Comment}

module _ (p : List ℕ) where
  -- the search from a place, with as many turns as the page has bytes
  abbrev pub searched : ℕ → ℕ
  searched i = comment_end (length p) p i

  abbrev dashes : ℕ → Bool
  dashes i = here (is 45) p i && here (is 45) p (i + 1)

  past_end : (k i : ℕ) → length p ≤ i → comment_end k p i ≡ 0
  unfolding comment_end
  past_end zero i h = refl
  past_end (suc k) i h = rw (le-ltb i (length p) h)

  -- enough turns are enough
  enough : (k i : ℕ) → length p - i ≤ k → comment_end k p i ≡ comment_end (suc k) p i
  unfolding comment_end
  enough zero i l = sym (past_end (suc zero) i (omega arith))
  enough (suc k) i l = rw (enough k (suc i) (omega arith), enough k (suc (suc (suc i))) (omega arith))

  -- one turn at i
  turn : (i : ℕ) → i < length p → searched i ≡ pick (dashes i) (pick (here (is 62) p (i + 2)) (i + 3) (searched (i + 3))) (searched (i + 1))
  unfolding comment_end
  turn i h = go (length p) refl
    where
      go : (n : ℕ) → length p ≡ n
          → comment_end n p i ≡ pick (dashes i) (pick (here (is 62) p (i + 2)) (i + 3) (comment_end n p (i + 3))) (comment_end n p (i + 1))
      go zero q = absurd (omega arith)
      go (suc n) q =
          let one : i + 1 ≡ suc i = omega arith in
          let two : i + 2 ≡ suc (suc i) = omega arith in
          let three : i + 3 ≡ suc (suc (suc i)) = omega arith in
          rw (one, two, three, lt-ltb i (length p) h, ← enough n (suc i) (omega arith), ← enough n (suc (suc (suc i))) (omega arith))

  -- no comment ends before the next `-`
  passed_within : (k i : ℕ) → length p - i ≤ k → searched i ≡ searched (skip (other 45) p i)
  passed_within zero i l = rw (skip_end (other 45) p i (omega arith))
  passed_within (suc k) i l = go (dec_lt i (length p)) (is 45 (get_or p i 0)) refl (passed_within k (i + 1) (omega arith))
    where
      go : Dec (i < length p) → (b : Bool) → is 45 (get_or p i 0) ≡ b → searched (i + 1) ≡ searched (skip (other 45) p (i + 1))
          → searched i ≡ searched (skip (other 45) p i)
      go (no n) b e ih = rw (skip_end (other 45) p i (omega arith))
      go (yes y) true e ih = rw (skip_stop (other 45) p i y (ap not e))
      go (yes y) false e ih =
          let none : here (is 45) p i ≡ false = here_in (is 45) p i y ∙ e in
          let one : pick (dashes i) (pick (here (is 62) p (i + 2)) (i + 3) (searched (i + 3))) (searched (i + 1)) ≡ searched (i + 1) = rw none in
          turn i y ∙ one ∙ ih ∙ ap searched (sym (skip_more (other 45) p i y (ap not e)))

  pub passed : (i : ℕ) → searched i ≡ searched (skip (other 45) p i)
  passed i = passed_within (length p - i) i (omega arith)

  -- a comment that ends at the place itself, as two tests told
  pub comment_at_once : (start at : ℕ) {b c : Bool} → b ≡ (here (is 45) p at && here (is 45) p (suc at)) → b ≡ true
      → c ≡ here (is 62) p (at + 2) → c ≡ true → Comment start (at + 3) (at + 3) ≡ comment_to p start (searched at)
  comment_at_once start at eb b ec c =
      let below : at + 2 < length p = here_below (is 62) p (at + 2) _ ec c in
      let next : at + 1 ≡ suc at = omega arith in
      let both : dashes at ≡ true = ap (λ n. here (is 45) p at && here (is 45) p n) next ∙ sym eb ∙ b in
      let e : searched at ≡ at + 3 = turn at (omega arith) ∙ rw (both, sym ec ∙ c) in
      rw (e, ne_eqb (at + 3) 0 (λ z. omega arith))

  -- the search from `at` is the search from i, and no place from `top` on has three bytes left
  module _ {top : ℕ} (et : top ≡ length p - 2) (at i : ℕ) (inv : searched at ≡ searched i) where
    abbrev both : Bool
    both = is 45 (get_or p i 0) && is 45 (get_or p (i + 1) 0)

    module _ (h : i < top) where
      turn_in : searched at ≡ pick both (pick (is 62 (get_or p (i + 2) 0)) (i + 3) (searched (i + 3))) (searched (i + 1))
      turn_in =
          let first : here (is 45) p i ≡ is 45 (get_or p i 0) = here_in (is 45) p i (omega arith) in
          let second : here (is 45) p (i + 1) ≡ is 45 (get_or p (i + 1) 0) = here_in (is 45) p (i + 1) (omega arith) in
          let third : here (is 62) p (i + 2) ≡ is 62 (get_or p (i + 2) 0) = here_in (is 62) p (i + 2) (omega arith) in
          inv ∙ turn i (omega arith) ∙ rw (first, second, third)

      pub comment_ends : (start : ℕ) → both ≡ true → get_or p (i + 2) 0 ≡ 62 → Comment start (i + 3) (i + 3) ≡ comment_to p start (searched at)
      comment_ends start b g = let e : searched at ≡ i + 3 = turn_in ∙ rw (b, g) in rw (e, ne_eqb (i + 3) 0 (λ z. omega arith))

      pub comment_three : both ≡ true → (get_or p (i + 2) 0 ≡ 62 → ⊥) → searched at ≡ searched (i + 3)
      comment_three b g = turn_in ∙ rw (b, ne_eqb (get_or p (i + 2) 0) 62 g)

      pub comment_one : both ≡ false → searched at ≡ searched (i + 1)
      comment_one b = turn_in ∙ rw b

      -- without a `-` at the second place no comment ends at either
      pub comment_two : (get_or p (i + 1) 0 ≡ 45 → ⊥) → searched at ≡ searched (i + 2)
      comment_two n =
          let none : is 45 (get_or p (i + 1) 0) ≡ false = ne_eqb (get_or p (i + 1) 0) 45 n in
          let next : here (is 45) p (i + 1) ≡ false = here_in (is 45) p (i + 1) (omega arith) ∙ none in
          let two : i + 1 + 1 ≡ i + 2 = omega arith in
          let one : pick (dashes (i + 1)) (pick (here (is 62) p (i + 1 + 2)) (i + 1 + 3) (searched (i + 1 + 3))) (searched (i + 1 + 1))
          ≡ searched (i + 1 + 1) = rw next in
          comment_one (rw (none, and-false)) ∙ turn (i + 1) (omega arith) ∙ one ∙ ap searched two

      pub comment_far : (get_or p (i + 1) 0 ≡ 45 → ⊥) → searched at ≡ searched (skip (other 45) p (i + 2))
      comment_far n = comment_two n ∙ passed (i + 2)

    pub comment_over : (start : ℕ) → top ≤ i → Comment start start (length p) ≡ comment_to p start (searched at)
    comment_over start h = rw (inv, comment_none (length p) p i (omega arith))
