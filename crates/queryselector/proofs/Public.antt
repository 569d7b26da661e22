-- The ways out of `parse_query_selector`: which answer the definition gives, by what was read and how many words were lent.
use Rattle.std.proofs.Common.{Result, Ok, Err}
use mathlib.Core.Path.{◌≡◌, refl, sym, ap, ◌∙◌}
use mathlib.Core.List.{List, ◌++◌}
use Prim.Native.Nat.{ℕ, ◌*◌, ◌≤◌, ◌<◌}
use borrow.Author.Tests.{lt-ltb, le-ltb}
use lib.ListN.{length, take, drop, replicate}
use Rattle.rules.specs.Chain.{written}
use Rattle.rules.specs.Refusals.{Leaves}
use Rattle.rules.specs.Answers.{pieces_answer, selector_answer, selector_buffer}
use Rattle.rules.specs.declared.Refusal.{Refusal}
use Rattle.rules.specs.declared.Refusal.TheVariants.{BufferTooShort}
use Rattle.piece.specs.Words.{piece_words}
use Rattle.piece.proofs.Back.{written_length}
use Rattle.queryselector.specs.Chains.{read_answer}
use Rattle.queryselector.proofs.Written.{Parsed, refused_first}

-- the public call's answer, and the lent words at entry and at exit
abbrev Answered : List ℕ → List ℕ → List ℕ → Result ℕ Refusal → Type 0
Answered s out out₁ r = Leaves (selector_answer s (length out)) (selector_buffer s out) r out₁

module _ (s out out₁ : List ℕ) where
  abbrev zeros : List ℕ
  zeros = replicate (length out) 0

  -- the definition refuses, and so does the code
  refused : (x : Refusal) (r : Result ℕ Refusal) → selector_answer s (length out) ≡ Err x → r ≡ Err x → out₁ ≡ zeros → Answered s out out₁ r
  unfolding selector_buffer
  refused x r a e z = record { is = e ∙ sym a; left = z ∙ rw a }

  -- refusals 5 and 6
  pub answer_first : (r : Result ℕ Refusal) (x : Refusal) → Err x ≡ read_answer s → r ≡ Err x → out₁ ≡ zeros → Answered s out out₁ r
  unfolding selector_answer
  answer_first r x a = refused x r (refused_first (pieces_answer (length out)) s x refl a)

  -- what was read of a selector that neither of them refuses
  module _ (words : List ℕ) (n : ℕ) (P : Parsed s words n) where
    pub answer_short : (r : Result ℕ Refusal) → length out < piece_words * n → r ≡ Err BufferTooShort → out₁ ≡ zeros → Answered s out out₁ r
    unfolding selector_answer
    answer_short r l =
        refused BufferTooShort r (rw (P.short, P.read, ← P.count, lt-ltb (length out) (piece_words * n) l))

    pub answer_count : piece_words * n ≤ length out → out₁ ≡ take (piece_words * n) words ++ drop (piece_words * n) out → Answered s out out₁ (Ok n)
    unfolding selector_answer selector_buffer
    answer_count l z =
        let e : length (written P.pieces) ≡ piece_words * n = written_length P.pieces ∙ ap (λ (k : ℕ). piece_words * k) (sym P.count) in
        let counted : selector_answer s (length out) ≡ Ok n =
        rw (P.short, P.read, ← P.count, le-ltb (length out) (piece_words * n) l) in
        record { is = sym counted; left = z ∙ rw (counted, P.read, e, P.form) }
