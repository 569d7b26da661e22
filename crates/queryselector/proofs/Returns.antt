-- The ways out of `parse_combinator`, by what the calls before answered.
use Rattle.std.proofs.Common.{Option, Some, None}
use mathlib.Core.Path.{◌≡◌, refl, sym, ap, ◌∙◌}
use mathlib.Core.List.{List, [], ◌++◌, append-nil}
use Prim.Native.Nat.{ℕ, ◌+◌, ◌-◌, ◌≤◌}
use native.Mathlib.Omega.{arith}
use mir.Syntax.{w64}
use mir.Val.{Fits}
use borrow.Author.Rules.{Fits-under}
use borrow.Rule.Slice.PartMut.{mid_of, put_mid}
use lib.ListN.{length, take, drop, length-drop, drop_of_length-le}
use lib.Seq.{drop_at, length-take-le, take_all}
use Rattle.rules.specs.Chain.{piece, simple_words, written, before, combinator_at, chain_at}
use Rattle.rules.specs.Refusals.{selector_limit}
use Rattle.rules.specs.declared.Simple.{Simple}
use Rattle.rules.specs.declared.Joiner.{Joiner}
use Rattle.rules.specs.declared.Joiner.TheVariants.{End as Ended}
use Rattle.rules.specs.declared.Piece.{Piece}
use Rattle.piece.specs.Words.{piece_words}
use Rattle.selector.specs.Reads.{Reads, with_place}
use Rattle.selector.specs.declared.stream.Stream.{Stream}
use Rattle.queryselector.specs.Chains.{joiner_at, WordsRoom, Chained}
use Rattle.queryselector.proofs.Steps.{joined, combinator_joined, chain_length}
use Rattle.queryselector.proofs.Written.{Counts, was_pieces, more_written}

-- the part of the lent words after the first piece
abbrev rest : List ℕ → List ℕ
rest out = mid_of piece_words (length out - piece_words) out

rest_drop : (out : List ℕ) → rest out ≡ drop piece_words out
rest_drop out = take_all (length out - piece_words) (drop piece_words out) (simp length-drop (omega arith))

-- the lent words with another such part
abbrev with_rest : List ℕ → List ℕ → List ℕ
with_rest out ys = put_mid piece_words (length out - piece_words) out ys

drop_rest : (out ys : List ℕ) → piece_words ≤ length out → drop piece_words (with_rest out ys) ≡ ys
drop_rest out ys l =
    let none_left : drop (length out - piece_words) (drop piece_words out) ≡ [] =
    drop_of_length-le (drop piece_words out) {i = length out - piece_words} (simp length-drop (omega arith)) in
    drop_at (take piece_words out) (ys ++ drop (length out - piece_words) (drop piece_words out)) piece_words (length-take-le piece_words out l)
    ∙ rw (none_left, append-nil)

-- from the stream u the joiner o was read, or none, which left v
module _ (u v : Stream) (x : Simple) (o : Option Joiner) (read : Reads (joiner_at u.«data».now u.idx) u o v) where
  abbrev bytes : List ℕ
  bytes = u.«data».now

  abbrev chain : Option (List Piece)
  chain = combinator_at (chain_at bytes) bytes x u.idx

  by_joiner : chain ≡ joined (chain_at bytes) x (with_place o v.idx)
  by_joiner = combinator_joined (chain_at bytes) bytes x u.idx ∙ rw (← read.read)

  pub combinator_ended : (out out₁ : List ℕ) → o ≡ None → out₁ ≡ simple_words x Ended ++ drop piece_words out
      → Chained chain out out₁ (Some 1)
  unfolding written
  combinator_ended out out₁ a e = rw (by_joiner, a) (record { answer = refl; words = e ∙ more_written (piece x Ended) [] out })

  module _ (j : Joiner) (a : o ≡ Some j) where
    before_rest : chain ≡ before (piece x j) (chain_at bytes v.idx)
    before_rest = by_joiner ∙ rw a

    -- reading the rest answered r, and left ys in the words after the first piece
    module _ (out ys : List ℕ) (r : Option ℕ) (h : Chained (chain_at v.«data».now v.idx) (rest out) ys r) where
      rest_chained : Chained (chain_at bytes v.idx) (rest out) ys r
      rest_chained = rw read.same at h

      module _ (n : ℕ) (t : r ≡ Some n) where
        some_read : Counts (chain_at bytes v.idx) n
        some_read = was_pieces n (chain_at bytes v.idx) (sym t ∙ rest_chained.answer)

        pub count_fits : length bytes ≤ selector_limit → Fits w64 (n + 1)
        count_fits l =
            let short : length some_read.pieces ≤ length bytes - v.idx = chain_length bytes v.idx some_read.pieces some_read.read in
            Fits-under w64 (n + 1) 256 (omega (arith, some_read.count)) tt

        pub combinator_chained : (out₁ : List ℕ) → WordsRoom 1 bytes u.idx out → out₁ ≡ simple_words x j ++ drop piece_words (with_rest out ys)
            → Chained chain out out₁ (Some (n + 1))
        unfolding written
        combinator_chained out₁ R e =
            let ps : List Piece = some_read.pieces in
            let row : List ℕ = simple_words x j in
            let y : drop piece_words (with_rest out ys) ≡ written ps ++ drop (length (written ps)) (drop piece_words out) =
            drop_rest out ys (omega (arith, R.words)) ∙ rest_chained.words ∙ rw (some_read.read, rest_drop out) in
            rw (before_rest, some_read.read)
            (record {
              answer = ap Some (omega (arith, some_read.count));
              words = e ∙ ap (λ (l : List ℕ). row ++ l) y ∙ more_written (piece x j) ps out;
            })
