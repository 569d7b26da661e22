-- Laws of the written form: its length; read back it is the same pieces; and the meaning of a chain, piece by piece.
use mathlib.Core.Path.{◌≡◌, refl, ap}
use mathlib.Core.Bool.{Bool, false}
use mathlib.Core.List.{List, [], ◌∷◌, ◌++◌, append_assoc}
use Prim.Native.Nat.{ℕ, suc, ◌+◌, ◌-◌, ◌*◌, ◌≤◌, ◌<◌}
use native.Mathlib.Numerals.{add-one}
use native.Mathlib.Omega.{arith}
use lib.ListN.{length, length-append}
use lib.Seq.{take_at, drop_at}
use Rattle.rules.specs.Chain.{piece, joiner_word, six_words, no_span, simple_words, written}
use Rattle.rules.specs.Query.{joined, meaning}
use Rattle.rules.specs.declared.Span.{Span}
use Rattle.rules.specs.declared.Simple.{Simple}
use Rattle.rules.specs.declared.Simple.TheVariants.{Tag, Id, Class, All, Attribute, AttributeValue, AttributeValueWhitespacedContains}
use Rattle.rules.specs.declared.Simple.TheVariants.{AttributeValueStartsWith, AttributeValueEndsWith, AttributeValueSubstring}
use Rattle.rules.specs.declared.Joiner.{Joiner}
use Rattle.rules.specs.declared.Joiner.TheVariants.{End, And, Or, Descendant, Parent}
use Rattle.rules.specs.declared.Piece.{Piece}
use Rattle.piece.specs.Words.{piece_words, simple_from, joiner_from, piece_of, piece_at, pieces_from}

-- ---- one piece

-- what a simple selector writes, and that it can be read back
record Form (x : Simple) : Type 0 where
  kind : ℕ
  first : Span
  second : Span
  words : simple_words x ≡ six_words kind first second
  back : simple_from kind first second ≡ x

form : (x : Simple) → Form x
form (Tag a) = record { kind = 1; first = a; second = no_span; words = refl; back = refl }
form (Id a) = record { kind = 2; first = a; second = no_span; words = refl; back = refl }
form (Class a) = record { kind = 3; first = a; second = no_span; words = refl; back = refl }
form All = record { kind = 4; first = no_span; second = no_span; words = refl; back = refl }
form (Attribute a) = record { kind = 5; first = a; second = no_span; words = refl; back = refl }
form (AttributeValue a b) = record { kind = 6; first = a; second = b; words = refl; back = refl }
form (AttributeValueWhitespacedContains a b) = record { kind = 7; first = a; second = b; words = refl; back = refl }
form (AttributeValueStartsWith a b) = record { kind = 8; first = a; second = b; words = refl; back = refl }
form (AttributeValueEndsWith a b) = record { kind = 9; first = a; second = b; words = refl; back = refl }
form (AttributeValueSubstring a b) = record { kind = 10; first = a; second = b; words = refl; back = refl }

joiner_back : (j : Joiner) → joiner_from (joiner_word j) ≡ j
joiner_back End = refl
joiner_back And = refl
joiner_back Or = refl
joiner_back Descendant = refl
joiner_back Parent = refl

pub words_length : (x : Simple) (j : Joiner) → length (simple_words x j) ≡ piece_words
words_length x j = rw (form x).words

piece_back : (x : Simple) (j : Joiner) → piece_of (simple_words x j) ≡ piece x j
piece_back x j = rw ((form x).words, (form x).back, joiner_back j)

-- ---- a chain

pub written_length : (ps : List Piece) → length (written ps) ≡ piece_words * length ps
unfolding written
written_length [] = refl
written_length (p ∷ ps) = rw (length-append, words_length p.simple p.joiner, written_length ps) (omega arith)

-- the piece between what is before it and what is after it
at_between : (before after : List ℕ) (i : ℕ) (p : Piece) → length before ≡ piece_words * i
    → piece_at (before ++ (simple_words p.simple p.joiner ++ after)) i ≡ p
unfolding piece_at
at_between before after i p e =
    let w : List ℕ = simple_words p.simple p.joiner in
    rw (drop_at before (w ++ after) (piece_words * i) e, take_at w after piece_words (words_length p.simple p.joiner))
    (piece_back p.simple p.joiner)

back_from : (ps : List Piece) (before after : List ℕ) (i : ℕ) → length before ≡ piece_words * i
    → pieces_from (length ps) (before ++ (written ps ++ after)) i ≡ ps
unfolding written pieces_from
back_from [] before after i e = refl
back_from (p ∷ ps) before after i e =
    let w : List ℕ = simple_words p.simple p.joiner in
    let k : length (before ++ w) ≡ piece_words * suc i = rw (length-append, words_length p.simple p.joiner) (omega arith) in
    rw (append_assoc w (written ps) after, at_between before (written ps ++ after) i p e, ← append_assoc before w (written ps ++ after))
    (ap (λ (qs : List Piece). p ∷ qs) (back_from ps (before ++ w) after (suc i) k))

-- the written form, whatever follows it, read back
pub pieces_back : (ps : List Piece) (after : List ℕ) → pieces_from (length ps) (written ps ++ after) 0 ≡ ps
pieces_back ps after = back_from ps [] after 0 refl

-- ---- the meaning of n pieces, from piece i on

module _ (fits : Simple → Bool) (n : ℕ) (ws : List ℕ) (i : ℕ) where
  pub mean_none : n ≤ i → meaning fits (pieces_from (n - i) ws i) ≡ false
  unfolding meaning pieces_from
  mean_none l = let e : n - i ≡ 0 = omega arith in rw e

  pub mean_next : i < n
      → meaning fits (pieces_from (n - i) ws i)
      ≡ joined (piece_at ws i).joiner (fits (piece_at ws i).simple) (meaning fits (pieces_from (n - (i + 1)) ws (i + 1)))
  unfolding meaning pieces_from
  mean_next l = let e : n - i ≡ suc (n - (i + 1)) = omega arith in rw (e, add-one)
