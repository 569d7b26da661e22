-- On a sound table the descent child by child gives the inner text of the flat walk: the children of h, by parent, are h + 1 and,
-- after each child, the row after its last; what lies between is the child's own range.
use mathlib.Core.Path.{◌≡◌, refl, ap, sym, ◌∙◌}
use mathlib.Core.Bool.{Bool, true, false}
use mathlib.Core.Logic.{⊎_elim}
use mathlib.Core.List.{List, [], ◌∷◌, ◌++◌, append_assoc, append-nil}
use Prim.Native.Nat.{ℕ, zero, suc, ◌+◌, ◌-◌, ◌≤◌, ◌<◌}
use native.Mathlib.Nat.{eq-or-lt_of_le}
use native.Mathlib.Omega.{arith}
use native.Mathlib.Decide.{dec_lt}
use borrow.Author.Tests.{eq-eqb, ne_eqb, eqb-true, eqb-false}
use Rattle.rules.specs.Scan.{pick}
use Rattle.rules.specs.Lists.{from, only, each}
use Rattle.rules.specs.Table.{node_at}
use Rattle.rules.specs.Sound.{last_at, parent_at, tagged, count_of, sound}
use Rattle.rules.specs.Facts.{SoundRow}
use Rattle.rules.specs.Text.{below, text_at, inner_text, is_child, children, descent, by_child}
use Rattle.rules.proofs.Lists.{from_append, each_append, only_append, only_none}
use Rattle.rules.proofs.Sound.{reaching_le, sound_rows}
use Rattle.rules.proofs.Nest.{reaching_at, reaching_above, sound_nests}

-- the rows of h from k on, and their text
abbrev pub rows_from : List ℕ → ℕ → ℕ → List ℕ
rows_from ws h k = from k (suc (last_at ws h) - k)

abbrev pub text_from : List ℕ → List ℕ → ℕ → ℕ → List ℕ
text_from p ws h k = each (text_at p ws) (rows_from ws h k)

-- ---- the rows of h, cut at k: what holds of any words
module _ (p ws : List ℕ) (h : ℕ) where
  pub text_all : text_from p ws h (suc h) ≡ inner_text p ws h
  text_all = let z : suc (last_at ws h) - suc h ≡ last_at ws h - h = omega arith in rw z

  rows_none : (k : ℕ) → last_at ws h < k → rows_from ws h k ≡ []
  unfolding from
  rows_none k l = let z : suc (last_at ws h) - k ≡ 0 = omega arith in rw z

  pub text_none : (k : ℕ) → last_at ws h < k → text_from p ws h k ≡ []
  unfolding each
  text_none k l = rw (rows_none k l)

  -- k and those after it
  pub text_next : (k : ℕ) → k ≤ last_at ws h → text_from p ws h k ≡ text_at p ws k ++ text_from p ws h (suc k)
  unfolding from each
  text_next k l = let m : suc (last_at ws h) - k ≡ suc (suc (last_at ws h) - suc k) = omega arith in rw m

  -- k, those below it, and those from the row after its last on
  rows_cut : (k : ℕ) → k ≤ last_at ws k → last_at ws k ≤ last_at ws h → rows_from ws h k ≡ k ∷ (below ws k ++ rows_from ws h (suc (last_at ws k)))
  unfolding from
  rows_cut k a b =
      let m : suc (last_at ws h) - k ≡ suc ((last_at ws k - k) + (suc (last_at ws h) - suc (last_at ws k))) = omega arith in
      let n : suc k + (last_at ws k - k) ≡ suc (last_at ws k) = omega arith in
      rw (m, from_append (suc k) (last_at ws k - k) (suc (last_at ws h) - suc (last_at ws k)), n)

  text_cut : (k : ℕ) → k ≤ last_at ws k → last_at ws k ≤ last_at ws h
      → text_from p ws h k ≡ (text_at p ws k ++ inner_text p ws k) ++ text_from p ws h (suc (last_at ws k))
  unfolding each
  text_cut k a b =
      rw (rows_cut k a b, each_append (text_at p ws) (below ws k) (rows_from ws h (suc (last_at ws k))))
      (sym (append_assoc (text_at p ws k) (inner_text p ws k) (text_from p ws h (suc (last_at ws k)))))

-- ---- a sound table
module _ (len : ℕ) (p ws : List ℕ) (e : sound len ws ≡ true) where
  abbrev count : ℕ
  count = count_of ws

  abbrev last : ℕ → ℕ
  last h = last_at ws h

  row : (h : ℕ) → h < count → SoundRow len ws count h
  row = sound_rows len ws e

  -- whether k is a child of h, by what reaches it
  child : (h k : ℕ) → k < count → parent_at ws k ≡ suc h → is_child ws h k ≡ true
  child h k l r = eq-eqb (node_at ws k).parent (suc h) ((row k l).parent ∙ r)

  no_child : (h k : ℕ) → k < count → (parent_at ws k ≡ suc h → ⊥) → is_child ws h k ≡ false
  no_child h k l r = ne_eqb (node_at ws k).parent (suc h) (λ q. r (sym (row k l).parent ∙ q))

  -- no row between h and k reaches k
  abbrev Free : ℕ → ℕ → Type 0
  Free h k = (j : ℕ) → h < j → j < k → last j < k

  -- then k is a child of h, where h reaches it
  free_child : (h k : ℕ) → k < count → h < k → k ≤ last h → Free h k → is_child ws h k ≡ true
  free_child h k l b r free =
      let up : suc h ≤ parent_at ws k = reaching_above last k k h b r in
      let small : parent_at ws k ≤ k = reaching_le last k k in
      child h k l
      (⊎_elim (λ (q : suc h ≡ parent_at ws k). sym q)
      (λ (m : suc h < parent_at ws k). absurd (omega (arith, reaching_at last k k (omega arith), free (parent_at ws k - 1) (omega arith) (omega arith))))
      (eq-or-lt_of_le up))

  -- the rows that a child k reaches are not children of h, and neither are those up to h and those that h does not reach
  deeper : (h k m : ℕ) → m < count → h < k → k < m → m ≤ last k → is_child ws h m ≡ false
  deeper h k m l a b r = no_child h m l (λ q. omega (arith, reaching_above last m m k b r))

  not_before : (h k : ℕ) → k < count → k ≤ h → is_child ws h k ≡ false
  not_before h k l b = no_child h k l (λ q. omega (arith, reaching_le last k k))

  not_beyond : (h k : ℕ) → k < count → last h < k → is_child ws h k ≡ false
  not_beyond h k l b =
      no_child h k l
      (λ q.
      let z : parent_at ws k - 1 ≡ h = omega arith in
      let r : k ≤ last (parent_at ws k - 1) = reaching_at last k k (omega arith) in
      let s : last (parent_at ws k - 1) ≡ last h = ap last z in
      omega arith)

  -- after the child k the next one may follow
  free_after : (h k : ℕ) → k < count → Free h k → Free h (suc (last k))
  free_after h k l free j g i = go (dec_lt j k) (dec_lt k j)
    where
      go : Dec (j < k) → Dec (k < j) → last j < suc (last k)
      go (yes b) c = omega (arith, free j g b, (row k l).last_low)
      go (no n) (yes b) = omega (arith, sound_nests len ws e j k (omega (arith, (row k l).last_high)) b (omega arith))
      go (no n) (no m) = let z : last j ≡ last k = ap last (omega arith) in omega arith

  -- The rows of h from its child k on. F is what a child gives: its own text, and what lies below it.
  module _ (F : ℕ → List ℕ) (h : ℕ) (hl : h < count)
      (gives : (k : ℕ) → h < k → k ≤ last h → F k ≡ text_at p ws k ++ inner_text p ws k) where
    abbrev Same : ℕ → Type 0
    Same k = each F (only (is_child ws h) (rows_from ws h k)) ≡ text_from p ws h k

    rest_none : (k : ℕ) → last h < k → Same k
    unfolding only each
    rest_none k l = rw (rows_none p ws h k l)

    one_child : (k : ℕ) → h < k → k ≤ last h → Free h k → Same (suc (last k)) → Same k
    unfolding only each
    one_child k a b free ih =
        let l : k < count = omega (arith, (row h hl).last_high) in
        let s = row k l in
        let w : last k ≤ last h = sound_nests len ws e k h l a b in
        let rest = rows_from ws h (suc (last k)) in
        let none : (m : ℕ) → suc k ≤ m → m < suc k + (last k - k) → is_child ws h m ≡ false =
        λ m c d. deeper h k m (omega (arith, s.last_high)) a c (omega (arith, s.last_low)) in
        let inner : only (is_child ws h) (below ws k) ≡ [] = only_none (is_child ws h) (suc k) (last k - k) none in
        sym (text_cut p ws h k s.last_low w
        ∙ rw (rows_cut p ws h k s.last_low w, free_child h k l a b free, only_append (is_child ws h) (below ws k) rest, inner, gives k a b, ih))

    siblings : (n k : ℕ) → suc (last h) ≤ k + n → h < k → Free h k → Same k
    siblings zero k l a free = rest_none k (omega arith)
    siblings (suc n) k l a free =
        go (dec_lt (last h) k) (λ c. siblings n (suc (last k)) (omega (arith, (row k c).last_low)) (omega (arith, (row k c).last_low)) (free_after h k c free))
      where
        go : Dec (last h < k) → (k < count → Same (suc (last k))) → Same k
        go (yes b) ih = rest_none k b
        go (no b) ih = one_child k a (omega arith) free (ih (omega (arith, (row h hl).last_high)))

    -- the children of h are among its rows
    children_below : children ws h ≡ only (is_child ws h) (below ws h)
    children_below =
        let t = row h hl in
        let m : count ≡ suc h + ((last h - h) + (count - suc (last h))) = omega (arith, t.last_low, t.last_high) in
        let z : 0 + suc h ≡ suc h = omega arith in
        let n : suc h + (last h - h) ≡ suc (last h) = omega (arith, t.last_low) in
        ap (λ (k : ℕ). only (is_child ws h) (from 0 k)) m
        ∙ rw (
          from_append 0 (suc h) ((last h - h) + (count - suc (last h))),
          z,
          from_append (suc h) (last h - h) (count - suc (last h)),
          n,
          only_append (is_child ws h) (from 0 (suc h)) (below ws h ++ from (suc (last h)) (count - suc (last h))),
          only_append (is_child ws h) (below ws h) (from (suc (last h)) (count - suc (last h))),
          only_none (is_child ws h) 0 (suc h) (λ k a b. not_before h k (omega arith) (omega arith)),
          only_none (is_child ws h) (suc (last h)) (count - suc (last h)) (λ k a b. not_beyond h k (omega arith) (omega arith)),
        )
        (append-nil (only (is_child ws h) (below ws h)))

    all_children : each F (children ws h) ≡ inner_text p ws h
    all_children =
        let z : suc (last h) - suc h ≡ last h - h = omega arith in
        ap (each F) children_below ∙ (rw z at (siblings (suc (last h)) (suc h) (omega arith) (omega arith) (λ j a b. absurd (omega arith))))

  -- a tag has no bytes of its own, and nothing lies below another node
  own_below : (k : ℕ) → k < count → (t : Bool) → tagged (node_at ws k) ≡ t
      → text_at p ws k ++ inner_text p ws k ≡ pick t (inner_text p ws k) (text_at p ws k)
  unfolding from each
  own_below k c true t =
      let two : (node_at ws k).kind ≡ 2 → ⊥ = λ q. omega (arith, eqb-true (node_at ws k).kind 1 t) in
      rw (ne_eqb (node_at ws k).kind 2 two)
  own_below k c false t =
      let z : last k ≡ k = (row k c).leaf (eqb-false (node_at ws k).kind 1 t) in
      let y : last k - k ≡ 0 = omega arith in
      rw y (append-nil (text_at p ws k))

  -- the rows of h from its child k on: what k gives, and those from the row after its last on
  pub text_child : (h k : ℕ) → h < count → h < k → k ≤ last h
      → text_from p ws h k ≡ pick (tagged (node_at ws k)) (inner_text p ws k) (text_at p ws k) ++ text_from p ws h (suc (last k))
  text_child h k hl a b =
      let l : k < count = omega (arith, (row h hl).last_high) in
      text_cut p ws h k (row k l).last_low (sound_nests len ws e k h l a b)
      ∙ ap (λ (x : List ℕ). x ++ text_from p ws h (suc (last k))) (own_below k l (tagged (node_at ws k)) refl)

  -- to a depth that the range allows
  pub descent_flat : (n h : ℕ) → h < count → last h - h ≤ n → descent p ws n h ≡ inner_text p ws h
  unfolding descent each from
  descent_flat zero h l d = let z : last h - h ≡ 0 = omega arith in rw z
  descent_flat (suc n) h l d =
      all_children (λ k. pick (tagged (node_at ws k)) (descent p ws n k) (text_at p ws k)) h l
      (λ k a b.
      let c : k < count = omega (arith, (row h l).last_high) in
      let w : last k ≤ last h = sound_nests len ws e k h c a b in
      let deep : descent p ws n k ≡ inner_text p ws k = descent_flat n k c (omega (arith, (row k c).last_low)) in
      rw deep (sym (own_below k c (tagged (node_at ws k)) refl)))

  -- the two inner texts are equal
  pub inner_text_lem : (h : ℕ) → h < count → by_child p ws h ≡ inner_text p ws h
  inner_text_lem h l = descent_flat count h l (omega (arith, (row h l).last_high))
