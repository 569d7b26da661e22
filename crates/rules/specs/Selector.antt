-- The selector reader: one simple selector at a place of the selector's bytes. Only space is skipped.
use Rattle.std.specs.Prelude.{ℕ, suc, Bool, ◌||◌, List, get_or, Option, Some, None}
use Rattle.rules.specs.Bytes.{is_ident, is_quote, is}
use Rattle.rules.specs.Scan.{pick, skip, here}
use Rattle.rules.specs.declared.Span.{Span}
use Rattle.rules.specs.declared.Simple.{Simple}
use Rattle.rules.specs.declared.Simple.TheVariants.{Tag, Id, Class, All, Attribute, AttributeValue, AttributeValueWhitespacedContains}
use Rattle.rules.specs.declared.Simple.TheVariants.{AttributeValueStartsWith, AttributeValueEndsWith, AttributeValueSubstring}

abbrev pub span_of : ℕ → ℕ → Span
span_of a e = record { start = a; end = e }

-- `~ ^ $ *`, which stand before the `=` of an attribute selector
abbrev pub is_operator : ℕ → Bool
is_operator b = is 126 b || is 94 b || is 36 b || is 42 b

-- the simple selector of an attribute k with the value v, by the byte before its `=`
abbrev pub operated : ℕ → Span → Span → Simple
operated op k v =
    pick (is 126 op) (AttributeValueWhitespacedContains k v)
    (pick (is 94 op) (AttributeValueStartsWith k v) (pick (is 36 op) (AttributeValueEndsWith k v) (AttributeValueSubstring k v)))

-- the simple selector f of a value that was read
abbrev pub with_value : (Span → Simple) → Option (Span × ℕ) → Option (Simple × ℕ)
with_value f (Some (v, next)) = Some (f v, next)
with_value f None = None

module _ (s : List ℕ) where
  abbrev pub spaces_end : ℕ → ℕ
  spaces_end i = skip (is 32) s i

  abbrev pub ident_end : ℕ → ℕ
  ident_end i = skip is_ident s i

  -- the identifier at i
  abbrev pub ident : ℕ → Span
  ident i = span_of i (ident_end i)

  -- the value v, with its `]` looked for at i
  abbrev pub closed_at : Span → ℕ → Option (Span × ℕ)
  closed_at v i = pick (here (is 93) s i) (Some (v, suc i)) None

  -- a value at i up to the quote q
  abbrev pub quoted_at : ℕ → ℕ → Option (Span × ℕ)
  quoted_at q i = pick (here (is q) s (ident_end i)) (closed_at (ident i) (suc (ident_end i))) None

  -- what follows `=`: an identifier, with matching quotes or none, and `]`
  unfoldable pub operand_at : ℕ → Option (Span × ℕ)
  operand_at i = pick (here is_quote s i) (quoted_at (get_or s i 0) (suc i)) (closed_at (ident i) (ident_end i))

  -- what follows the name k of an attribute, at i
  unfoldable pub attribute_from : Span → ℕ → Option (Simple × ℕ)
  attribute_from k i =
      pick (here (is 93) s i) (Some (Attribute k, suc i))
      (pick (here (is 61) s i) (with_value (AttributeValue k) (operand_at (suc i)))
      (pick (here is_operator s i) (pick (here (is 61) s (suc i)) (with_value (operated (get_or s i 0) k) (operand_at (suc (suc i)))) None) None))

  -- a simple selector at i, and the place after it
  unfoldable pub simple_at : ℕ → Option (Simple × ℕ)
  simple_at i =
      pick (here (is 35) s i) (Some (Id (ident (suc i)), ident_end (suc i)))
      (pick (here (is 46) s i) (Some (Class (ident (suc i)), ident_end (suc i)))
      (pick (here (is 42) s i) (Some (All, suc i))
      (pick (here (is 91) s i) (attribute_from (ident (suc i)) (ident_end (suc i)))
      (pick (here is_ident s i) (Some (Tag (ident i), ident_end i)) None))))
