-- Runs of bytes that are compared with no early exit, and a name of a profile by the bytes of its place.
use mathlib.Core.Path.{◌≡◌, refl, sym, ap, ◌∙◌}
use mathlib.Core.Bool.{Bool, true, false, not, cond, ◌&&◌}
use mathlib.Core.List.{List, [], ◌∷◌}
use Prim.Native.Nat.{ℕ, suc, ◌+◌, ◌-◌, ◌≤◌, ◌<◌}
use native.Mathlib.Decide.{dec_lt}
use native.Mathlib.Omega.{arith}
use lib.Dec.{eqb}
use lib.ListN.{length, get_or, take, drop, length-take, length-drop}
use lib.Seq.{ext_get_or, get_or-take, get_or-drop}
use borrow.Author.Tests.{eq-eqb, eqb-true, lt-ltb, le-ltb}
use Rattle.std.specs.Prelude.{Option}
use Rattle.std.specs.Option.{unwrap_or}
use Rattle.std.specs.List.{position, position_or_len}
use Rattle.std.proofs.lemmas.List.{drop-take}
use Rattle.std.proofs.lemmas.List.Recursion.{is_position_or_len}
use Rattle.rules.specs.Bytes.{is, other}
use Rattle.rules.specs.Scan.{pick, agree, same, span, part}
use Rattle.rules.specs.Sound.{all}
use Rattle.rules.specs.Profile.{name_start, void_name}
use Rattle.rules.proofs.Names.{same_is}
use Rattle.rules.proofs.Runs.{span_le}
use Rattle.std.proofs.lemmas.Bool.{and_parts}
use Rattle.rules.proofs.Sound.{all_true, all_from}
use Rattle.rules.proofs.Profile.{name_byte_lem}
use Rattle.profile.specs.Made.{same_run}

iff : (a b : Bool) → (a ≡ true → b ≡ true) → (b ≡ true → a ≡ true) → a ≡ b
iff true b f g = sym (f refl)
iff false true f g = g refl
iff false false f g = refl

module _ (p : List ℕ) (a : ℕ) (q : List ℕ) (c n : ℕ) where
  -- the first k and the last m of n bytes are all of them
  pub both_runs : (k m : ℕ) → k ≤ n → m ≤ n → n ≤ k + m → (same_run p a q c k && same_run p (a + n - m) q (c + n - m) m) ≡ same_run p a q c n
  both_runs k m l b f =
      iff _ _ (λ e. all_from P n (λ j h. join e j h (dec_lt j k)))
      (λ e. rw (all_from P k (λ j h. all_true P n j e (omega arith)), all_from Q m (λ j h. rw (pa j, qc j) (all_true P n (n - m + j) e (omega arith)))))
    where
      P : ℕ → Bool
      P j = eqb (get_or p (a + j) 0) (get_or q (c + j) 0)

      Q : ℕ → Bool
      Q j = eqb (get_or p (a + n - m + j) 0) (get_or q (c + n - m + j) 0)

      pa : (j : ℕ) → a + n - m + j ≡ a + (n - m + j)
      pa j = omega arith

      qc : (j : ℕ) → c + n - m + j ≡ c + (n - m + j)
      qc j = omega arith

      join : (all P k && all Q m) ≡ true → (j : ℕ) → j < n → Dec (j < k) → P j ≡ true
      join e j h (yes y) = all_true P k j (and_parts (all P k) (all Q m) e).0 y
      join e j h (no y) =
          let z : n - m + (j - (n - m)) ≡ j = omega arith in
          rw (pa (j - (n - m)), qc (j - (n - m)), z) at (all_true Q m (j - (n - m)) (and_parts (all P k) (all Q m) e).1 (omega arith))

  same_self : (x : List ℕ) → same x x ≡ true
  unfolding agree
  same_self [] = refl
  same_self (x ∷ xs) = rw (eq-eqb x x refl) (same_self xs)

  -- two lists of n bytes are the same where the runs are that they were read from
  pub run_same : (x y : List ℕ) → length x ≡ n → length y ≡ n → ((j : ℕ) → j < n → get_or x j 0 ≡ get_or p (a + j) 0)
      → ((j : ℕ) → j < n → get_or y j 0 ≡ get_or q (c + j) 0) → same_run p a q c n ≡ same x y
  run_same x y lx ly X Y =
      iff _ _ (λ e. rw (ext_get_or 0 x y (lx ∙ sym ly) (λ j l. byte e j (omega arith))) (same_self y))
      (λ e. all_from P n (λ j l. eq-eqb (get_or p (a + j) 0) (get_or q (c + j) 0) (sym (X j l) ∙ ap (λ (z : List ℕ). get_or z j 0) (same_is x y e) ∙ Y j l)))
    where
      P : ℕ → Bool
      P j = eqb (get_or p (a + j) 0) (get_or q (c + j) 0)

      byte : all P n ≡ true → (j : ℕ) → j < n → get_or x j 0 ≡ get_or y j 0
      byte e j l = X j l ∙ eqb-true (get_or p (a + j) 0) (get_or q (c + j) 0) (all_true P n j e l) ∙ sym (Y j l)

part_byte : (p : List ℕ) (a e : ℕ) (j : ℕ) → j < e - a → get_or (part p a e) j 0 ≡ get_or p (a + j) 0
part_byte p a e j l = get_or-take (e - a) (drop a p) j 0 l ∙ get_or-drop a p j 0

part_length : (p : List ℕ) (a e : ℕ) → e ≤ length p → length (part p a e) ≡ e - a
part_length p a e l = omega (arith, length-take (e - a) (drop a p), length-drop a p)

pub part_runs : (p : List ℕ) (a : ℕ) (q : List ℕ) (c n : ℕ) → a + n ≤ length p → c + n ≤ length q
    → same (part p a (a + n)) (part q c (c + n)) ≡ same_run p a q c n
part_runs p a q c n l m =
    sym (run_same p a q c n (part p a (a + n)) (part q c (c + n)) (part_length p a (a + n) l ∙ omega arith) (part_length q c (c + n) m ∙ omega arith)
    (λ j h. part_byte p a (a + n) j (omega arith)) (λ j h. part_byte q c (c + n) j (omega arith)))

-- the bytes before the first 0
first_zero : (xs : List ℕ) → span (other 0) xs ≡ position_or_len (is 0) xs
unfolding span
first_zero = is_position_or_len (span (other 0)) (is 0) refl (λ x xs. step (is 0 x) (span (other 0) xs))
  where
    step : (b : Bool) (n : ℕ) → pick (not b) (suc n) 0 ≡ cond b 0 (1 + n)
    step true n = refl
    step false n = omega arith

module _ (q : List ℕ) (size : length q ≡ 392) (i : ℕ) (b : i < 24) where
  pub name_short : length (void_name q i) ≤ 16
  unfolding void_name
  name_short =
      let s : ℕ = name_start q i in
      let t : List ℕ = drop s (take (s + 16) q) in
      omega (arith, length-take (s + span (other 0) t - s) (drop s q), span_le (other 0) t, length-drop s (take (s + 16) q), length-take (s + 16) q)

  -- the name ends at the first 0 of its place, or with it
  pub name_first : (r : Option ℕ) → r ≡ position (is 0) (take 16 (drop (name_start q i) q))
      → (unwrap_or r 16 ≡ length (void_name q i)) × (unwrap_or r 16 ≤ 16)
  unfolding void_name
  name_first r e = rw e (go (dec_lt n 16))
    where
      s : ℕ
      s = name_start q i

      xs : List ℕ
      xs = take 16 (drop (name_start q i) q)

      n : ℕ
      n = position_or_len (is 0) xs

      low : n ≤ 16
      low = omega (arith, span_le (other 0) xs, first_zero xs, length-take 16 (drop s q))

      size_of : length (void_name q i) ≡ n
      size_of =
          omega (
            arith,
            low,
            length-take (s + span (other 0) (drop s (take (s + 16) q)) - s) (drop s q),
            length-drop s q,
            ap (span (other 0)) (drop-take s 16 q) ∙ first_zero xs,
          )

      full : length xs ≡ 16
      full = omega (arith, length-take 16 (drop s q), length-drop s q)

      go : Dec (n < 16) → (unwrap_or (position (is 0) xs) 16 ≡ length (void_name q i)) × (unwrap_or (position (is 0) xs) 16 ≤ 16)
      go (yes y) = rw (lt-ltb n (length xs) (omega (arith, full))) (sym size_of, low)
      go (no y) = rw (le-ltb n (length xs) (omega (arith, full))) (omega (arith, size_of, low), omega arith)

  -- a part of a page that is as long as the name is compared with its place
  pub name_run : (p : List ℕ) (a e : ℕ) → a ≤ e → e ≤ length p → length (void_name q i) ≡ e - a
      → same_run p a q (name_start q i) (e - a) ≡ same (part p a e) (void_name q i)
  name_run p a e l m n =
      run_same p a q (name_start q i) (e - a) (part p a e) (void_name q i) (part_length p a e m) n
      (part_byte p a e) (λ j h. name_byte_lem q i j (omega arith))
