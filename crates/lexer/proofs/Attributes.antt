-- A value, an attribute and a run of attributes: one law for each way through the code, which takes what the code knows there.
use Rattle.std.proofs.Common.{Option, Some, None}
use mathlib.Core.Path.{◌≡◌, refl, ap, sym, ◌∙◌}
use mathlib.Core.Bool.{Bool, true, false}
use mathlib.Core.List.{List}
use Prim.Native.Nat.{ℕ, zero, suc, ◌+◌, ◌-◌, ◌≤◌, ◌<◌}
use native.Mathlib.Decide.{dec_lt}
use native.Mathlib.Omega.{arith}
use lib.ListN.{length}
use lib.Seq.{take-length}
use Rattle.rules.specs.Bytes.{is_ident, is_quote, other, is}
use Rattle.rules.specs.Scan.{pick, skip, here, pass}
use Rattle.rules.specs.Attributes.{onward, in_value, not_closing, value_at, value_end, next_from, value_of, attribute_at, attribute_next, attributes_end}
use Rattle.rules.specs.declared.Attribute.{Attribute}
use Rattle.rules.proofs.Runs.{skip_end, skip_le, skip_stop, skip_ends}
use Rattle.rules.proofs.Places.{here_false, here_in, pass_in, Read, Stood}
use Rattle.laws.proofs.Cut.{next_scans, next_strict, end_grows, end_cut}

module _ (white : ℕ → Bool) (p : List ℕ) where
  -- where white ends no more begins
  skip_twice : (i : ℕ) → skip white p (skip white p i) ≡ skip white p i
  skip_twice i = go (dec_lt (skip white p i) (length p))
    where
      go : Dec (skip white p i < length p) → skip white p (skip white p i) ≡ skip white p i
      go (yes y) = skip_stop white p (skip white p i) y (sym (here_in white p (skip white p i) y) ∙ skip_ends white p i)
      go (no n) = skip_end white p (skip white p i) (omega arith)

  -- ---- a value from v on, whose `=` stood at eq
  module _ {eq from v : ℕ} (S : Stood 61 p eq from) (at : v ≡ skip white p from) where
    given : (a e : ℕ) → a ≡ pick (here is_quote p v) (pass p v) v → e ≡ value_end white p v → Some (a, e) ≡ value_of white p eq
    given a e x y = let there : v ≡ value_at white p eq = rw (← S.after) at in rw (S.there, ← there, x, y)

    pub value_end_lem : length p ≤ v → Some (v, v) ≡ value_of white p eq
    value_end_lem h =
        let no : here is_quote p v ≡ false = here_false is_quote p v h in
        given v v (rw no) (rw no (sym (skip_end (in_value white) p v h)))

    pub value_quoted : {q : ℕ} (e : ℕ) → Read p v q → is_quote q ≡ true → e ≡ skip (other q) p (v + 1) → Some (v + 1, e) ≡ value_of white p eq
    value_quoted e R y x =
        let n : pass p v ≡ v + 1 = pass_in p v R.below in
        given (v + 1) e (rw (R.tests is_quote, y, n)) (rw (R.tests is_quote, y, n, R.byte) x)

    pub value_bare : {q : ℕ} (e : ℕ) → Read p v q → is_quote q ≡ false → e ≡ skip (in_value white) p v → Some (v, e) ≡ value_of white p eq
    value_bare e R y x = given v e (rw (R.tests is_quote, y)) (rw (R.tests is_quote, y) x)

  -- ---- what follows an attribute, by its value
  pub next_missing : (eq : ℕ) → value_of white p eq ≡ None → onward p eq ≡ next_from white p eq
  next_missing eq = go (here (is 61) p eq) _ _
    where
      go : (b : Bool) (x v : ℕ) → pick {A = Option (ℕ × ℕ)} b (Some (x, v)) None ≡ None → onward p eq ≡ pick b (onward p v) (onward p eq)
      go true x v h = let z : ◌≡◌ {A = ℕ} 0 1 = cc in absurd (omega arith)
      go false x v h = refl

  pub next_given : (eq a e : ℕ) → value_of white p eq ≡ Some (a, e) → onward p e ≡ next_from white p eq
  next_given eq a e = go (here (is 61) p eq) _ _
    where
      go : (b : Bool) (x v : ℕ) → pick {A = Option (ℕ × ℕ)} b (Some (x, v)) None ≡ Some (a, e) → onward p e ≡ pick b (onward p v) (onward p eq)
      go true x v h = let q : ◌≡◌ {A = ℕ × ℕ} (x, v) (a, e) = cc in let y : v ≡ e = ap (λ (z : ℕ × ℕ). z.1) q in rw y
      go false x v h = let z : ◌≡◌ {A = ℕ} 0 1 = cc in absurd (omega arith)

  pub attribute_is : {at e eq n : ℕ} {v : Option (ℕ × ℕ)} → e ≡ skip is_ident p at → eq ≡ skip white p e → v ≡ value_of white p eq → n ≡ next_from white p eq
      → record { name = at; stop = e; value = v; next = n } ≡ attribute_at white p at
  unfolding attribute_at
  attribute_is x y z u = rw (z, u, y, x)

  -- ---- the run of attributes from i on

  -- enough turns are enough: a page cut at its own length is the page itself
  enough : (k k' i : ℕ) → i ≤ length p → length p - i ≤ k → length p - i ≤ k' → attributes_end white k' p i ≡ attributes_end white k p i
  enough k k' i h l m =
      omega (arith, rw take-length at (end_cut white k k' p (length p) i (omega arith) h l m), (end_grows white k p i h).1)

  next_of : {a : Attribute} (at : ℕ) → a ≡ attribute_at white p at → a.next ≡ attribute_next white p at
  unfolding attribute_at attribute_next
  next_of at q = ap (λ (b : Attribute). b.next) q

  -- the run from i, whose next attribute starts at `at`, goes on at n
  pub record Further (i at n : ℕ) : Type 0 where
    pub on : at < n
    pub within : n ≤ length p
    pub same : attributes_end white (length p) p i ≡ attributes_end white (length p) p n

  module _ {i at : ℕ} (h : i ≤ length p) (e : at ≡ skip white p i) where
    pub attributes_stop : here not_closing p at ≡ false → at ≡ attributes_end white (length p) p i
    unfolding attributes_end
    attributes_stop n = go (length p) refl
      where
        go : (k : ℕ) → length p ≡ k → at ≡ attributes_end white k p i
        go zero q = omega (arith, skip_le white p i h)
        go (suc k) q = rw (← e, n)

    pub attributes_more : {a : Attribute} → here not_closing p at ≡ true → a ≡ attribute_at white p at → Further i at a.next
    unfolding attributes_end
    attributes_more y q = rw (next_of at q) (go (length p) refl)
      where
        n : ℕ
        n = attribute_next white p at

        further : at < n
        further = next_strict white p at y

        inside : n ≤ length p
        inside = (next_scans white).within p at (rw e (skip_le white p i h))

        go : (k : ℕ) → length p ≡ k → Further i at n
        go zero z = absurd (omega (arith, further, inside))
        go (suc k) z =
            record {
              on = further;
              within = inside;
              same = rw (z, ← e, y) (enough (suc k) k n inside (omega arith) (omega (arith, further)));
            }

    -- white before the run belongs to it: the run from where the white ends is the same
    pub attributes_on : attributes_end white (length p) p at ≡ attributes_end white (length p) p i
    unfolding attributes_end
    attributes_on = go (length p) refl
      where
        there : skip white p at ≡ at
        there = rw e (skip_twice i)

        go : (k : ℕ) → length p ≡ k → attributes_end white k p at ≡ attributes_end white k p i
        go zero q = rw e (skip_end white p i (omega arith))
        go (suc k) q = rw (there, ← e)
