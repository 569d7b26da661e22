-- Words read back as pieces.
use Rattle.std.specs.Prelude.{ℕ, zero, suc, ◌*◌, List, [], ◌∷◌, eqb, get_or, take, drop}
use Rattle.rules.specs.Scan.{pick}
use Rattle.rules.specs.Selector.{span_of}
use Rattle.rules.specs.Chain.{piece}
use Rattle.rules.specs.declared.Span.{Span}
use Rattle.rules.specs.declared.Simple.{Simple}
use Rattle.rules.specs.declared.Simple.TheVariants.{Tag, Id, Class, All, Attribute, AttributeValue, AttributeValueWhitespacedContains}
use Rattle.rules.specs.declared.Simple.TheVariants.{AttributeValueStartsWith, AttributeValueEndsWith, AttributeValueSubstring}
use Rattle.rules.specs.declared.Joiner.{Joiner}
use Rattle.rules.specs.declared.Joiner.TheVariants.{End, And, Or, Descendant, Parent}
use Rattle.rules.specs.declared.Piece.{Piece}

-- the words of a piece
abbrev pub piece_words : ℕ
piece_words = 6

abbrev pub simple_from : ℕ → Span → Span → Simple
simple_from k a b =
    pick (eqb k 1) (Tag a)
    (pick (eqb k 2) (Id a)
    (pick (eqb k 3) (Class a)
    (pick (eqb k 5) (Attribute a)
    (pick (eqb k 6) (AttributeValue a b)
    (pick (eqb k 7) (AttributeValueWhitespacedContains a b)
    (pick (eqb k 8) (AttributeValueStartsWith a b)
    (pick (eqb k 9) (AttributeValueEndsWith a b) (pick (eqb k 10) (AttributeValueSubstring a b) All))))))))

abbrev pub joiner_from : ℕ → Joiner
joiner_from w = pick (eqb w 1) And (pick (eqb w 2) Or (pick (eqb w 3) Descendant (pick (eqb w 4) Parent End)))

-- the piece that six words say
abbrev pub piece_of : List ℕ → Piece
piece_of w =
    piece (simple_from (get_or w 0 0) (span_of (get_or w 1 0) (get_or w 2 0)) (span_of (get_or w 3 0) (get_or w 4 0))) (joiner_from (get_or w 5 0))

-- piece i
unfoldable pub piece_at : List ℕ → ℕ → Piece
piece_at ws i = piece_of (take piece_words (drop (piece_words * i) ws))

-- n pieces from piece i on
unfoldable pub pieces_from : ℕ → List ℕ → ℕ → List Piece
pieces_from zero ws i = []
pieces_from (suc n) ws i = piece_at ws i ∷ pieces_from n ws (suc i)
