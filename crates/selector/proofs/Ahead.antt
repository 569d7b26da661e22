-- A simple selector that is found ends after the place where it was looked for, and within the selector.
use Rattle.std.proofs.Common.{Option, Some, None}
use mathlib.Core.Path.{◌≡◌, refl, subst}
use mathlib.Core.Bool.{Bool, true}
use mathlib.Core.List.{List}
use Prim.Native.Nat.{ℕ, suc, ◌+◌, ◌≤◌, ◌<◌}
use native.Mathlib.Omega.{arith}
use lib.ListN.{length, get_or}
use Rattle.rules.specs.Bytes.{is_ident, is_quote, is}
use Rattle.rules.specs.Scan.{here}
use Rattle.rules.specs.Selector.{is_operator, operated, with_value, ident, ident_end, closed_at, quoted_at, operand_at, attribute_from, simple_at}
use Rattle.rules.specs.declared.Span.{Span}
use Rattle.rules.specs.declared.Simple.{Simple}
use Rattle.rules.specs.declared.Simple.TheVariants.{AttributeValue}
use Rattle.rules.proofs.Pick.{cases}
use Rattle.rules.proofs.Runs.{skip_ge, skip_le, skip_more}
use Rattle.rules.proofs.Places.{here_below, here_in}

-- a place after i and within l
abbrev OperandAhead : ℕ → ℕ → Option (Span × ℕ) → Type 0
OperandAhead i l (Some (v, n)) = (i < n) × (n ≤ l)
OperandAhead i l None = Unit {0}

abbrev pub Ahead : ℕ → ℕ → Option (Simple × ℕ) → Type 0
Ahead i l (Some (x, n)) = (i < n) × (n ≤ l)
Ahead i l None = Unit {0}

with_ahead : (f : Span → Simple) (i l : ℕ) (o : Option (Span × ℕ)) → OperandAhead i l o → Ahead i l (with_value f o)
with_ahead f i l (Some (v, n)) h = h
with_ahead f i l None h = tt

module _ (s : List ℕ) (i : ℕ) where
  inside : (P : ℕ → Bool) (j : ℕ) → here P s j ≡ true → j < length s
  inside P j h = here_below P s j (here P s j) refl h

  -- what is read from j on, where j is i or after it, ends after i
  closed_ahead : (v : Span) (j : ℕ) → i ≤ j → OperandAhead i (length s) (closed_at s v j)
  closed_ahead v j far = cases (OperandAhead i (length s)) (here (is 93) s j) (λ h. omega (arith, inside (is 93) j h)) (λ _. tt)

  quoted_ahead : (q j : ℕ) → i ≤ j → OperandAhead i (length s) (quoted_at s q j)
  quoted_ahead q j far =
      cases (OperandAhead i (length s)) (here (is q) s (ident_end s j))
      (λ _. closed_ahead (ident s j) (suc (ident_end s j)) (omega (arith, skip_ge is_ident s j))) (λ _. tt)

  operand_ahead : (j : ℕ) → i ≤ j → OperandAhead i (length s) (operand_at s j)
  unfolding operand_at
  operand_ahead j far =
      cases (OperandAhead i (length s)) (here is_quote s j) (λ _. quoted_ahead (get_or s j 0) (suc j) (omega arith))
      (λ _. closed_ahead (ident s j) (ident_end s j) (omega (arith, skip_ge is_ident s j)))

  value_ahead : (f : Span → Simple) (j : ℕ) → i ≤ j → Ahead i (length s) (with_value f (operand_at s j))
  value_ahead f j far = with_ahead f i (length s) (operand_at s j) (operand_ahead j far)

  attribute_ahead : (k : Span) (j : ℕ) → i ≤ j → Ahead i (length s) (attribute_from s k j)
  unfolding attribute_from
  attribute_ahead k j far =
      cases (Ahead i (length s)) (here (is 93) s j) (λ h. omega (arith, inside (is 93) j h))
      (λ _. cases (Ahead i (length s)) (here (is 61) s j) (λ _. value_ahead (AttributeValue k) (suc j) (omega arith))
      (λ _. cases (Ahead i (length s)) (here is_operator s j)
      (λ _. cases (Ahead i (length s)) (here (is 61) s (suc j))
      (λ _. value_ahead (operated (get_or s j 0) k) (suc (suc j)) (omega arith)) (λ _. tt)) (λ _. tt)))

  -- an identifier after the byte at i, and at i itself
  after_ahead : i < length s → (i < ident_end s (suc i)) × (ident_end s (suc i) ≤ length s)
  after_ahead l = omega (arith, skip_ge is_ident s (suc i), skip_le is_ident s (suc i) (omega arith))

  tag_ahead : here is_ident s i ≡ true → (i < ident_end s i) × (ident_end s i ≤ length s)
  tag_ahead h =
      let l : i < length s = inside is_ident i h in
      let y : is_ident (get_or s i 0) ≡ true = rw (here_in is_ident s i l) at h in
      (rw (skip_more is_ident s i l y) (omega (arith, skip_ge is_ident s (i + 1))), skip_le is_ident s i (omega arith))

  pub simple_ahead : Ahead i (length s) (simple_at s i)
  unfolding simple_at
  simple_ahead =
      cases (Ahead i (length s)) (here (is 35) s i) (λ h. after_ahead (inside (is 35) i h))
      (λ _. cases (Ahead i (length s)) (here (is 46) s i) (λ h. after_ahead (inside (is 46) i h))
      (λ _. cases (Ahead i (length s)) (here (is 42) s i) (λ h. omega (arith, inside (is 42) i h))
      (λ _. cases (Ahead i (length s)) (here (is 91) s i)
      (λ h. attribute_ahead (ident s (suc i)) (ident_end s (suc i)) (omega (arith, skip_ge is_ident s (suc i))))
      (λ _. cases (Ahead i (length s)) (here is_ident s i) tag_ahead (λ _. tt)))))

pub simple_found : (s : List ℕ) (i : ℕ) (x : Simple) (n : ℕ) → simple_at s i ≡ Some (x, n) → (i < n) × (n ≤ length s)
simple_found s i x n e = subst (Ahead i (length s)) e (simple_ahead s i)
