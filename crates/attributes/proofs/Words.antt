-- The words of the names of a text, three each.
use mathlib.Core.Path.{◌≡◌, refl, ap, sym, ◌∙◌}
use mathlib.Core.List.{List, [], ◌∷◌, ◌++◌}
use Prim.Native.Nat.{ℕ, zero, suc, ◌+◌, ◌*◌, ◌-◌, ◌≤◌, ◌<◌}
use native.Mathlib.Decide.{dec_lt}
use native.Mathlib.Omega.{arith}
use lib.ListN.{length, take, drop, get_or, replicate, length-append, length-drop, take-append-drop}
use lib.Seq.{drop-drop, take_all, take_at, drop_at, take-append-le, drop-append-le, length-take-le}
use borrow.Rule.Slice.PartMut.{put_mid, post_of, same_len_mid, mid_len, take_put, drop_put}
use Rattle.rules.specs.Scan.{part}
use Rattle.rules.specs.Refusals.{held_numbers}
use Rattle.rules.specs.Batch.{each_name}
use Rattle.rules.specs.declared.Held.{Held}
use Rattle.rules.specs.declared.Held.TheVariants.{Absent, Bare, Value}
use Rattle.attributes.specs.Noting.{name_words}

pub held_length : (v : Held) → length (held_numbers v) ≡ 3
held_length Absent = refl
held_length Bare = refl
held_length (Value a e) = refl

module _ (s : List ℕ) where
  -- where each name gives n entries
  pub length_names : (f : List ℕ → List ℕ) (n : ℕ) → ((k : List ℕ) → length (f k) ≡ n) → (at : ℕ) (es : List ℕ) → length (each_name f s at es) ≡ n * length es
  unfolding each_name
  length_names f n q at [] = omega arith
  length_names f n q at (e ∷ es) = simp length-append (rw (q (part s at e), length_names f n q e es) (omega arith))

  -- what gives the same for every name
  pub names_at : (f g : List ℕ → List ℕ) (at : ℕ) (es : List ℕ)
      → ((j : ℕ) → j < length es → f (part s (get_or (at ∷ es) j 0) (get_or es j 0)) ≡ g (part s (get_or (at ∷ es) j 0) (get_or es j 0)))
      → each_name f s at es ≡ each_name g s at es
  unfolding each_name
  names_at f g at [] q = refl
  names_at f g at (e ∷ es) q = rw (q 0 (omega arith), names_at f g e es (λ j l. q (suc j) (omega arith)))

  pub names_same : (f g : List ℕ → List ℕ) → ((k : List ℕ) → f k ≡ g k) → (at : ℕ) (es : List ℕ) → each_name f s at es ≡ each_name g s at es
  names_same f g q at es = names_at f g at es (λ j l. q (part s (get_or (at ∷ es) j 0) (get_or es j 0)))

  -- nothing is held
  pub names_absent : (at : ℕ) (es : List ℕ) → replicate (3 * length es) 0 ≡ each_name (λ k. held_numbers Absent) s at es
  unfolding each_name
  names_absent at [] = refl
  names_absent at (e ∷ es) =
      let z : 3 * suc (length es) ≡ suc (suc (suc (3 * length es))) = omega arith in
      rw z (ap (λ (l : List ℕ). 0 ∷ 0 ∷ 0 ∷ l) (names_absent e es))

  -- ---- the words of a name, where each name gives three
  module _ (f : List ℕ → List ℕ) (three : (k : List ℕ) → length (f k) ≡ 3) where
    -- name j, if the first starts at `at`
    abbrev name : ℕ → List ℕ → ℕ → List ℕ
    name at es j = part s (get_or (at ∷ es) j 0) (get_or es j 0)

    pub words_at_lem : (at : ℕ) (es : List ℕ) (j : ℕ) → j < length es → name_words j (each_name f s at es) ≡ f (name at es j)
    unfolding each_name
    words_at_lem at [] j l = absurd (omega arith)
    words_at_lem at (e ∷ es) zero l = take_at (f (part s at e)) (each_name f s e es) 3 (three (part s at e))
    words_at_lem at (e ∷ es) (suc j) l =
        let z : 3 * suc j ≡ 3 + 3 * j = omega arith in
        rw (z, ← drop-drop (3 * j) 3 (f (part s at e) ++ each_name f s e es), drop_at (f (part s at e)) (each_name f s e es) 3 (three (part s at e)))
        (words_at_lem e es j (omega arith))

    -- and all the words by each name's
    pub words_by : (at : ℕ) (es w : List ℕ) → length w ≡ 3 * length es → ((j : ℕ) → j < length es → name_words j w ≡ f (name at es j))
        → w ≡ each_name f s at es
    unfolding each_name
    words_by at [] w n q = sym (take_all 0 w (omega arith))
    words_by at (e ∷ es) w n q =
        sym (take-append-drop 3 w)
        ∙ rw (q 0 (omega arith))
        (ap (λ (l : List ℕ). f (part s at e) ++ l)
        (words_by e es (drop 3 w) (omega (arith, length-drop 3 w))
        (λ j l.
        let z : 3 * suc j ≡ 3 + 3 * j = omega arith in
        rw (drop-drop (3 * j) 3 w, ← z) (q (suc j) (omega arith)))))

-- ---- a name's words lie in the first m words, or behind them
module _ (i m : ℕ) (w : List ℕ) where
  words_front : m ≤ length w → 3 * i + 3 ≤ m → name_words i w ≡ name_words i (take m w)
  words_front n l =
      let size : length (take m w) ≡ m = length-take-le m w n in
      ap (name_words i) (sym (take-append-drop m w))
      ∙ rw (drop-append-le (3 * i) (take m w) (drop m w) (omega arith))
      (take-append-le 3 (drop (3 * i) (take m w)) (drop m w) (omega (arith, length-drop (3 * i) (take m w))))

  words_back : m ≤ 3 * i → name_words i w ≡ take 3 (drop (3 * i - m) (drop m w))
  words_back l =
      let z : m + (3 * i - m) ≡ 3 * i = omega arith in
      sym (rw (drop-drop (3 * i - m) m w, z))

-- ---- the words x are put in the place of name j's
module _ (w : List ℕ) (j : ℕ) (x : List ℕ) (room : 3 * j + 3 ≤ length w) (n : length x ≡ length (part w (3 * j) (3 * j + 3))) where
  abbrev put : List ℕ
  put = put_mid (3 * j) (3 * j + 3 - 3 * j) w x

  three : length x ≡ 3
  three = omega (arith, mid_len (3 * j) (3 * j + 3) w room)

  pub put_size : length put ≡ length w
  put_size = same_len_mid (3 * j) (3 * j + 3 - 3 * j) w x n

  pub put_its : name_words j put ≡ x
  put_its =
      rw (drop_at (take (3 * j) w) (x ++ post_of (3 * j) (3 * j + 3 - 3 * j) w) (3 * j) (length-take-le (3 * j) w (omega arith)))
      (take_at x _ 3 three)

  pub put_others : (i : ℕ) → (i ≡ j → ⊥) → name_words i put ≡ name_words i w
  put_others i d = go (dec_lt i j)
    where
      go : Dec (i < j) → name_words i put ≡ name_words i w
      go (yes l) =
          words_front i (3 * j) put (omega (arith, put_size)) (omega arith)
          ∙ ap (name_words i) (take_put (3 * j) (3 * j + 3 - 3 * j) w x (omega arith))
          ∙ sym (words_front i (3 * j) w (omega arith) (omega arith))
      go (no l) =
          words_back i (3 * j + 3) put (omega arith)
          ∙ ap (λ (l : List ℕ). take 3 (drop (3 * i - (3 * j + 3)) l)) (drop_put (3 * j) (3 * j + 3) w x (omega arith) room (omega (arith, three)))
          ∙ sym (words_back i (3 * j + 3) w (omega arith))
