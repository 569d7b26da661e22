-- The chain of pieces that a selector is, and its written form.
use Rattle.std.specs.Prelude.{ℕ, zero, suc, ◌-◌, List, [], ◌∷◌, ◌++◌, length, ltb, Option, Some, None}
use Rattle.rules.specs.Bytes.{is}
use Rattle.rules.specs.Scan.{pick, here}
use Rattle.rules.specs.Selector.{span_of, spaces_end, simple_at}
use Rattle.rules.specs.declared.Span.{Span}
use Rattle.rules.specs.declared.Simple.{Simple}
use Rattle.rules.specs.declared.Simple.TheVariants.{Tag, Id, Class, All, Attribute, AttributeValue, AttributeValueWhitespacedContains}
use Rattle.rules.specs.declared.Simple.TheVariants.{AttributeValueStartsWith, AttributeValueEndsWith, AttributeValueSubstring}
use Rattle.rules.specs.declared.Joiner.{Joiner}
use Rattle.rules.specs.declared.Joiner.TheVariants.{End, And, Or, Descendant, Parent}
use Rattle.rules.specs.declared.Piece.{Piece}

abbrev pub piece : Simple → Joiner → Piece
piece x j = record { simple = x; joiner = j }

-- the joiner after the spaces from k to m, where m is not the end, and where the rest starts
abbrev pub join_at : List ℕ → ℕ → ℕ → Joiner × ℕ
join_at s k m =
    pick (here (is 44) s m) (Or, suc m) (pick (here (is 62) s m) (Parent, suc m) (pick (ltb k m) Descendant And, m))

-- a piece before the rest of its chain, which was read or not
abbrev pub before : Piece → Option (List Piece) → Option (List Piece)
before x None = None
before x (Some ps) = Some (x ∷ ps)

-- `parse_combinator` after the simple selector x, which ends at k: the end of the chain, or a joiner and the rest
abbrev pub combinator_at : (ℕ → Option (List Piece)) → List ℕ → Simple → ℕ → Option (List Piece)
combinator_at rest s x k =
    let m = spaces_end s k in
    let j = join_at s k m in
    let chain = before (piece x j.0) (rest j.1) in
    pick (ltb m (length s)) chain (Some (piece x End ∷ []))

abbrev pub selector_of : (ℕ → Option (List Piece)) → List ℕ → Option (Simple × ℕ) → Option (List Piece)
selector_of rest s (Some (x, k)) = combinator_at rest s x k
selector_of rest s None = None

-- `selector` at the place i, up to n pieces
unfoldable pub selector_at : ℕ → List ℕ → ℕ → Option (List Piece)
selector_at zero s i = None
selector_at (suc n) s i = selector_of (selector_at n s) s (simple_at s (spaces_end s i))

-- each piece takes a byte or more, so a chain has no more pieces than bytes are left
unfoldable pub chain_at : List ℕ → ℕ → Option (List Piece)
chain_at s i = selector_at (length s - i) s i

-- the chain that a selector is, if the reader answers one
abbrev pub read_selector : List ℕ → Option (List Piece)
read_selector s = chain_at s 0

-- ---- the written form: 6 words a piece

abbrev pub joiner_word : Joiner → ℕ
joiner_word End = 0
joiner_word And = 1
joiner_word Or = 2
joiner_word Descendant = 3
joiner_word Parent = 4

-- kind, first name from and to, second name from and to (0 where missing), joiner
abbrev pub six_words : ℕ → Span → Span → Joiner → List ℕ
six_words kind a b j = kind ∷ a.start ∷ a.end ∷ b.start ∷ b.end ∷ joiner_word j ∷ []

abbrev pub no_span : Span
no_span = span_of 0 0

abbrev pub simple_words : Simple → Joiner → List ℕ
simple_words (Tag a) = six_words 1 a no_span
simple_words (Id a) = six_words 2 a no_span
simple_words (Class a) = six_words 3 a no_span
simple_words All = six_words 4 no_span no_span
simple_words (Attribute a) = six_words 5 a no_span
simple_words (AttributeValue a b) = six_words 6 a b
simple_words (AttributeValueWhitespacedContains a b) = six_words 7 a b
simple_words (AttributeValueStartsWith a b) = six_words 8 a b
simple_words (AttributeValueEndsWith a b) = six_words 9 a b
simple_words (AttributeValueSubstring a b) = six_words 10 a b

unfoldable pub written : List Piece → List ℕ
written [] = []
written (x ∷ ps) = simple_words x.simple x.joiner ++ written ps
