-- The lent words when a chain has been read: a piece before the rest of its chain; and what an answer of `read` tells.
use Rattle.std.proofs.Common.{Option, Some, None, Result, Ok, Err}
use mathlib.Core.Path.{◌≡◌, refl, sym, ap, ◌∙◌}
use mathlib.Core.Bool.{Bool, true, false}
use mathlib.Core.List.{List, ◌∷◌, ◌++◌, append_assoc}
use Prim.Native.Nat.{ℕ, ◌+◌, ◌*◌, ◌≤◌}
use native.Mathlib.Omega.{arith}
use borrow.Author.Tests.{ltb-false}
use lib.ListN.{length, take, drop, length-append}
use lib.Seq.{take_at, drop-drop}
use Rattle.rules.specs.Chain.{simple_words, written, read_selector}
use Rattle.rules.specs.Scan.{pick}
use Rattle.rules.specs.Refusals.{selector_limit, selector_too_long}
use Rattle.rules.specs.declared.Piece.{Piece}
use Rattle.rules.specs.declared.Refusal.{Refusal}
use Rattle.rules.specs.declared.Refusal.TheVariants.{SelectorTooLong, SelectorNotRead}
use Rattle.piece.specs.Words.{piece_words, pieces_from}
use Rattle.piece.proofs.Back.{words_length, written_length, pieces_back}
use Rattle.queryselector.specs.Chains.{piece_count, written_in, read_count, read_answer}
use Rattle.queryselector.proofs.Steps.{chain_length}

-- ---- what an answer says of a chain

pub was_refused : (o : Option (List Piece)) → None ≡ piece_count o → o ≡ None
was_refused None e = refl
was_refused (Some ps) e = cc

pub record Counts (o : Option (List Piece)) (n : ℕ) : Type 0 where
  pub pieces : List Piece
  pub read : o ≡ Some pieces
  pub count : n ≡ length pieces

pub was_pieces : (n : ℕ) (o : Option (List Piece)) → Some n ≡ piece_count o → Counts o n
was_pieces n None e = absurd (let z : ◌≡◌ {A = ℕ} 0 1 = cc in omega arith)
was_pieces n (Some ps) e = record { pieces = ps; read = refl; count = cc }

-- ---- the words of a piece, and then those of the rest of its chain

pub more_written : (p : Piece) (ps : List Piece) (out : List ℕ)
    → simple_words p.simple p.joiner ++ (written ps ++ drop (length (written ps)) (drop piece_words out)) ≡ written_in out (Some (p ∷ ps))
unfolding written
more_written p ps out =
    let row : List ℕ = simple_words p.simple p.joiner in
    let w : List ℕ = written ps in
    rw (drop-drop (length w) piece_words out, length-append row w, words_length p.simple p.joiner)
    (sym (append_assoc row w (drop (piece_words + length w) out)))

-- ---- for callers: what an answer of `read` tells

-- an answer that comes after the two refusals is refused as they are
pub refused_first : (f : Option (List Piece) → Result ℕ Refusal) (s : List ℕ) (x : Refusal) → f None ≡ Err SelectorNotRead → Err x ≡ read_answer s
    → pick (selector_too_long s) (Err SelectorTooLong) (f (read_selector s)) ≡ Err x
refused_first f s x a h = go (selector_too_long s) (read_selector s) (sym h)
  where
    go : (t : Bool) (o : Option (List Piece)) → pick t (Err SelectorTooLong) (read_count o) ≡ Err x → pick t (Err SelectorTooLong) (f o) ≡ Err x
    go true o e = e
    go false None e = a ∙ e
    go false (Some ps) e = cc

-- neither refusal: the selector is short, and has so many pieces
read_first : (s : List ℕ) (n : ℕ) → read_answer s ≡ Ok n → (selector_too_long s ≡ false) × (Some n ≡ piece_count (read_selector s))
read_first s n = go (selector_too_long s) (read_selector s)
  where
    go : (t : Bool) (o : Option (List Piece)) → pick t (Err SelectorTooLong) (read_count o) ≡ Ok n → (t ≡ false) × (Some n ≡ piece_count o)
    go true o e = cc
    go false None e = cc
    go false (Some ps) e = (refl, cc)

pub record Parsed (s words : List ℕ) (n : ℕ) : Type 0 where
  pub short : selector_too_long s ≡ false
  pub pieces : List Piece
  pub read : read_selector s ≡ Some pieces
  pub count : n ≡ length pieces
  pub few : n ≤ selector_limit
  pub form : take (piece_words * n) words ≡ written pieces
  pub back : pieces_from n words 0 ≡ pieces

parsed_as : (s words words₁ : List ℕ) (ps : List Piece) (n : ℕ) → selector_too_long s ≡ false → read_selector s ≡ Some ps → n ≡ length ps
    → words₁ ≡ written_in words (Some ps) → Parsed s words₁ n
parsed_as s words words₁ ps n t e c w =
    record {
      short = t;
      pieces = ps;
      read = e;
      count = c;
      few = omega (arith, chain_length s 0 ps e, ltb-false selector_limit (length s) t);
      form = rw w (take_at (written ps) (drop (length (written ps)) words) (piece_words * n) (written_length ps ∙ rw c));
      back = rw (w, c) (pieces_back ps (drop (length (written ps)) words));
    }

pub parsed : (s words words₁ : List ℕ) (n : ℕ) → Ok n ≡ read_answer s → words₁ ≡ written_in words (read_selector s) → Parsed s words₁ n
parsed s words words₁ n a w =
    let f = read_first s n (sym a) in
    let c = was_pieces n (read_selector s) f.1 in
    parsed_as s words words₁ c.pieces n f.0 c.read c.count (w ∙ ap (written_in words) c.read)
