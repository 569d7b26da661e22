-- The ways out of a query: refusals 5 and 6, and what the walk over the handles found.
use Rattle.std.proofs.Common.{Result, Err}
use mathlib.Core.Path.{◌≡◌, refl, sym, ◌∙◌}
use mathlib.Core.List.{List}
use Prim.Native.Nat.{ℕ}
use lib.ListN.{length, replicate}
use Rattle.rules.specs.Refusals.{Counts}
use Rattle.rules.specs.Answers.{finds_answer}
use Rattle.rules.specs.declared.Piece.{Piece}
use Rattle.rules.specs.declared.Refusal.{Refusal}
use Rattle.queryselector.specs.Chains.{read_answer}
use Rattle.queryselector.proofs.Written.{Parsed, refused_first}
use Rattle.calls.specs.Calls.{Selects}

module _ (F : List Piece → List ℕ) (s b : List ℕ) {out : List ℕ} {r : Result ℕ Refusal} where
  pub unread : (x : Refusal) → Err x ≡ read_answer s → r ≡ Err x → out ≡ replicate (length b) 0 → Selects F s b r out
  unread x a e z = record { is = e ∙ sym (refused_first (finds_answer F (length b)) s x refl a); left = z ∙ rw e }

  pub walked : {words : List ℕ} {n : ℕ} (P : Parsed s words n) → Counts (F P.pieces) b r out → Selects F s b r out
  walked P L = record { is = L.is ∙ sym (rw (P.short, P.read)); left = rw P.read L.left }
