-- The walk over the rows with text, and how the places for it are filled.
use Rattle.std.proofs.Common.{Option, Some, None}
use Rattle.std.specs.Option.{MatchOption, unwrap_or}
use mathlib.Core.Path.{◌≡◌, refl, ap, sym, ◌∙◌}
use mathlib.Core.List.{List, [], ◌∷◌, ◌++◌}
use mathlib.Core.Bool.{true, ◌&&◌}
use Prim.Native.Nat.{ℕ, zero, suc, ◌+◌, ◌-◌, ◌*◌, ◌/◌, ◌%◌, ◌≤◌, ◌<◌}
use native.Mathlib.Nat.{div-add-mod}
use native.Mathlib.Decide.{dec_lt}
use native.Mathlib.Numerals.{add-one}
use native.Mathlib.Omega.{arith}
use borrow.Author.Tests.{ltb-true, eqb-true}
use lib.Dec.{eqb, ltb}
use lib.ListN.{length, get_or}
use Rattle.rules.specs.Table.{node_at}
use Rattle.rules.specs.Sound.{last_at}
use Rattle.rules.specs.Text.{text_at, inner_text}
use Rattle.rules.specs.declared.Node.{Node}
use Rattle.rules.proofs.Pick.{cases}
use Rattle.std.proofs.lemmas.Bool.{and_parts}
use Rattle.rules.proofs.Text.{text_from, text_all, text_none, text_next}
use Rattle.tag.specs.Tag.{node_text}
use Rattle.batch.specs.Skips.{NoText, Passes, next_text, PassesNoText}

empty : (l : List ℕ) → length l ≡ 0 → l ≡ []
empty [] e = refl
empty (x ∷ xs) e = absurd (omega arith)

module _ (p ws : List ℕ) where
  -- a row whose text has no bytes
  pub no_text : (k : ℕ) {n : Node} {s : List ℕ} → n ≡ node_at ws k → s ≡ node_text p n → length s ≡ 0 → text_at p ws k ≡ []
  no_text k {n} {s} q e z = let t : node_text p n ≡ [] = sym e ∙ empty s z in rw q at t

  -- the lowest row from `from` on that has text, as a search of the rows below `to` found it, or else `next`
  pub lowest : {from to next : ℕ} (found : Option ℕ) → from ≤ to → Passes p ws to next
      → MatchOption found ((k : ℕ) → from ≤ k → k < to → text_at p ws k ≡ [])
      (λ i. (from ≤ i) × (i < to) × Unit {0} × ((k : ℕ) → from ≤ k → k < i → text_at p ws k ≡ [])) → Passes p ws from (unwrap_or found next)
  lowest {from} {to} {next} None l n none = (omega (arith, n.0), n.1, λ j a b. go j a b (dec_lt j to))
    where
      go : (j : ℕ) → from ≤ j → j < next → Dec (j < to) → text_at p ws j ≡ []
      go j a b (yes t) = none j a t
      go j a b (no t) = n.2 j (omega arith) b
  lowest (Some i) l n some = (some.0, omega (arith, some.1, n.0, n.1), some.3)

  -- ---- rows without text are passed over

  module _ (h : ℕ) where
    one : (k : ℕ) → text_at p ws k ≡ [] → text_from p ws h k ≡ text_from p ws h (suc k)
    one k e = go (dec_lt (last_at ws h) k)
      where
        go : Dec (last_at ws h < k) → text_from p ws h k ≡ text_from p ws h (suc k)
        go (yes l) = text_none p ws h k l ∙ sym (text_none p ws h (suc k) (omega arith))
        go (no l) = text_next p ws h k (omega arith) ∙ rw e

    many : (m k : ℕ) → NoText p ws k (k + m) → text_from p ws h k ≡ text_from p ws h (k + m)
    many zero k n = let z : k + 0 ≡ k = omega arith in rw z
    many (suc m) k n =
        let z : k + suc m ≡ suc k + m = omega arith in
        one k (n k (omega arith) (omega arith)) ∙ many m (suc k) (λ j a b. n j (omega arith) (omega arith)) ∙ rw z

    passed : (k e : ℕ) → k ≤ e → NoText p ws k e → text_from p ws h k ≡ text_from p ws h e
    passed k e l n =
        let z : k + (e - k) ≡ e = omega arith in
        many (e - k) k (λ j a b. n j a (omega arith)) ∙ rw z

  module _ {step : ℕ} {skip : List ℕ} (s : PassesNoText p ws step skip) where
    -- what is filled in for k
    filled_in : (k : ℕ) → (eqb (k % step) 0 && ltb (k / step) (length skip)) ≡ true → Passes p ws k (get_or skip (k / step) 0)
    filled_in k t =
        let a = eqb-true (k % step) 0 (and_parts (eqb (k % step) 0) (ltb (k / step) (length skip)) t).0 in
        let b = ltb-true (k / step) (length skip) (and_parts (eqb (k % step) 0) (ltb (k / step) (length skip)) t).1 in
        let z : step * (k / step) ≡ k = omega (arith, div-add-mod k step) in
        rw z at (s.passes (k / step) b)

    module _ (h : ℕ) where
      same : (k : ℕ) → text_from p ws h k ≡ text_from p ws h (next_text skip step k)
      same k =
          cases (λ e. text_from p ws h k ≡ text_from p ws h e) (eqb (k % step) 0 && ltb (k / step) (length skip))
          (λ t. let f = filled_in k t in passed h k (get_or skip (k / step) 0) f.0 f.2) (λ t. refl)

      -- k is the first row below h to look at; r is the one after k, whose node is n
      pub first_row : {k : ℕ} → k ≡ next_text skip step (h + 1) → inner_text p ws h ≡ text_from p ws h k
      first_row q =
          sym (text_all p ws h) ∙ ap (text_from p ws h) (sym (add-one h)) ∙ same (h + 1) ∙ ap (text_from p ws h) (sym q)

      pub next_row : {k r : ℕ} {t n : Node} {s : List ℕ} → t ≡ node_at ws h → k ≤ t.last → n ≡ node_at ws k
          → s ≡ node_text p n → r ≡ next_text skip step (k + 1)
          → text_from p ws h k ≡ s ++ text_from p ws h r
      next_row {k} y l q t e =
          let last = ap (λ (n : Node). n.last) y in rw (t, q, e, ← same (k + 1), add-one) (text_next p ws h k (omega (arith, last)))

  -- ---- filling: the places from j on are filled, and the rows from `to` up to `next` have no text
  pub record Filling (step : ℕ) (skip₀ skip : List ℕ) (next to j : ℕ) : Type 0 where
    pub size : length skip ≡ length skip₀
    pub left : j ≤ length skip
    pub room : step * j < to + step
    pub ahead : Passes p ws to next
    pub done : (i : ℕ) → j ≤ i → i < length skip → Passes p ws (step * i) (get_or skip i 0)
