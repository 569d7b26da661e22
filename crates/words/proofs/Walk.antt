-- Laws of `words_from` and `times`: one step of the walk from place to place, which the loop's invariant goes by.
use mathlib.Core.Path.{◌≡◌, refl, sym, ap, ◌∙◌}
use mathlib.Core.Bool.{Bool, true, false}
use mathlib.Core.List.{List, [], ◌∷◌, ◌++◌}
use Prim.Native.Nat.{ℕ, zero, suc, pred, ◌+◌, ◌-◌, ◌≤◌, ◌<◌}
use native.Mathlib.Numerals.{add-one}
use native.Mathlib.Omega.{arith}
use lib.ListN.{length, get_or, drop, drop_of_length-le, length-drop}
use lib.Seq.{drop-cons, drop-drop, take-suc, get_or-drop}
use borrow.Author.Tests.{ne_eqb}
use Rattle.std.specs.Int.{from_bool}
use Rattle.std.proofs.Common.{Option, Some, None}
use Rattle.rules.specs.Scan.{pick, same, part}
use Rattle.rules.specs.Words.{gap, word, words, words_from, times}
use Rattle.words.specs.Separators.{separator_of}
use Rattle.words.proofs.Gaps.{there, not_there}

-- ---- how often a word counts: before others
times_word : (k w : List ℕ) (ws : List (List ℕ)) → times k (word w ws) ≡ times k (word w []) + times k ws
unfolding times
times_word k [] ws = omega arith
times_word k (x ∷ w) ws = go (same (x ∷ w) k)
  where
    go : (b : Bool) → pick b (suc (times k ws)) (times k ws) ≡ pick b 1 0 + times k ws
    go true = omega arith
    go false = omega arith

-- by itself
pub times_one : (k w : List ℕ) → (length w ≡ 0 → ⊥) → from_bool (same w k) ≡ times k (word w [])
unfolding times
times_one k [] n = absurd (n refl)
times_one k (x ∷ w) n = go (same (x ∷ w) k)
  where
    go : (b : Bool) → from_bool b ≡ pick b 1 0
    go true = refl
    go false = refl

pub times_none : (k w : List ℕ) → length w ≡ 0 → 0 ≡ times k (word w [])
unfolding times
times_none k [] e = refl
times_none k (x ∷ w) e = absurd (omega arith)

-- where nothing is told of an empty w
pub told_none : (k w : List ℕ) {n : ℕ} → n ≡ 0 → length w ≡ 0 → n ≡ times k (word w [])
told_none k w e z = e ∙ times_none k w z

pub one_at_most : (b : Bool) → from_bool b ≤ 1
one_at_most true = omega arith
one_at_most false = omega arith

-- ---- the walk
module _ (seps : List (List ℕ)) where
  -- what is left of a separator is passed
  passed : (w : List ℕ) (k : ℕ) (xs : List ℕ) → words_from seps w k xs ≡ words_from seps w zero (drop k xs)
  unfolding words_from
  passed w zero xs = refl
  passed w (suc k) [] = refl
  passed w (suc k) (x ∷ xs) = passed w k xs

  module _ (w v : List ℕ) (i : ℕ) (h : i < length v) where
    -- no separator stands at i: its byte goes to the word
    on : gap seps (drop i v) ≡ 0 → words_from seps w zero (drop i v) ≡ words_from seps (w ++ (get_or v i 0 ∷ [])) zero (drop (i + 1) v)
    unfolding words_from
    on e = rw (add-one, drop-cons v i 0, rw (drop-cons v i 0) at e)

    -- one of g bytes does: the word ends
    cut : (g : ℕ) → g ≡ gap seps (drop i v) → (g ≡ 0 → ⊥) → words_from seps w zero (drop i v) ≡ word w (words_from seps [] zero (drop (i + g) v))
    unfolding words_from
    cut g e n =
        let a : suc i + pred g ≡ i + g = omega arith in
        rw (drop-cons v i 0, sym (rw (drop-cons v i 0) at e), ne_eqb g 0 n)
        (ap (word w) (passed [] (pred g) (drop (suc i) v) ∙ ap (words_from seps [] zero) (drop-drop (pred g) (suc i) v ∙ ap (λ (j : ℕ). drop j v) a)))

-- a part, one byte longer
part_more : (v : List ℕ) (s i : ℕ) → s ≤ i → i < length v → part v s (i + 1) ≡ part v s i ++ (get_or v i 0 ∷ [])
part_more v s i l h =
    let a : i + 1 - s ≡ suc (i - s) = omega arith in
    let b : s + (i - s) ≡ i = omega arith in
    let m : i - s < length (drop s v) = rw (length-drop s v) (omega arith) in
    rw (a, take-suc (drop s v) (i - s) 0 m, get_or-drop s v (i - s) 0, b)

-- ---- the loop: n words before s are k, and from s to i stands the word so far
module _ (seps : List (List ℕ)) (k v : List ℕ) (n s i : ℕ)
    (inv : times k (words seps v) ≡ n + times k (words_from seps (part v s i) zero (drop i v)))
  where
    module _ (h : i < length v) (o : Option ℕ) (e : o ≡ separator_of seps (drop i v)) where
      pub walk_on : s ≤ i → (o ≡ None) → times k (words seps v) ≡ n + times k (words_from seps (part v s (i + 1)) zero (drop (i + 1) v))
      walk_on l z = inv ∙ rw (on seps (part v s i) v i h (not_there seps (drop i v) o e z), part_more v s i l h)

      -- m is how often the word that ends here counts
      pub walk_cut : (g : ℕ) → o ≡ Some g → (m : ℕ) → m ≡ times k (word (part v s i) [])
          → times k (words seps v) ≡ n + m + times k (words_from seps (part v (i + g) (i + g)) zero (drop (i + g) v))
      walk_cut g y m f =
          let a : i + g - (i + g) ≡ 0 = omega arith in
          let S = there seps (drop i v) o e g y in
          inv ∙ rw (cut seps (part v s i) v i h g S.0 S.1, times_word, a) (omega arith)

    pub walk_end : i ≡ length v → (m : ℕ) → m ≡ times k (word (part v s (length v)) []) → n + m ≡ times k (words seps v)
    unfolding words_from
    walk_end z m f = sym (inv ∙ rw (drop_of_length-le v {i = i} (omega arith), z) (ap (λ (x : ℕ). n + x) (sym f)))
