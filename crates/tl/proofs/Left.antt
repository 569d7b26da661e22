-- What `leave` leaves, in numbers: the answer's, or the refusal's and zeros.
use Rattle.std.proofs.Common.{Result, Ok, Err, IfOk, IfErr, IsOkAnd, MatchResult, ◌≡◌, refl, sym, ap, ap₂, ◌∙◌, ℕ, zero, suc, ◌<◌, List, [], ◌∷◌, length}
use native.Mathlib.Omega.{arith}
use Rattle.std.specs.Prelude.{slice_index_or, replicate}
use Rattle.std.specs.Array.{AllOfLen}
use Rattle.rules.specs.Refusals.{number_of, counted_numbers, held_numbers, asked_numbers}
use Rattle.rules.specs.declared.Refusal.{Refusal}
use Rattle.rules.specs.declared.Held.{Held}
use Rattle.tl.specs.Exports.{Exports}

-- a count, or 0 after a refusal's number
pub counted : {a answer : Result ℕ Refusal} {r n : ℕ} → a ≡ answer
    → IfOk a (λ v. (r ≡ 0) × (n ≡ v)) → IfErr a (λ x. (r ≡ number_of x) × (n ≡ 0)) → (r ∷ n ∷ []) ≡ counted_numbers answer
counted {a = Ok v} e ok err = rw (← e, ok.0, ok.1)
counted {a = Err x} e ok err = rw (← e, err.0, err.1)

-- a count, and a buffer that the call wrote
pub exported : {a answer : Result ℕ Refusal} {buffer out : List ℕ} {r n : ℕ} → a ≡ answer → out ≡ buffer
    → IfOk a (λ v. (r ≡ 0) × (n ≡ v)) → IfErr a (λ x. (r ≡ number_of x) × (n ≡ 0)) → Exports answer buffer r n out
exported e b ok err = record { is = counted e ok err; left = b }

-- ---- an answer of several numbers
all_zero : (xs : List ℕ) (n : ℕ) → length xs ≡ n → ((i d : ℕ) → i < n → slice_index_or xs i d ≡ 0) → xs ≡ replicate n 0
all_zero [] zero l e = refl
all_zero [] (suc n) l e = absurd (omega arith)
all_zero (x ∷ xs) zero l e = absurd (omega arith)
all_zero (x ∷ xs) (suc n) l e = ap₂ (◌∷◌) (e 0 0 (omega arith)) (all_zero xs n (omega arith) (λ i d m. e (suc i) d (omega arith)))

module _ {A : Type 0} (numbers : Result A Refusal → List ℕ) (k : ℕ) (refused : (x : Refusal) → numbers (Err x) ≡ number_of x ∷ replicate k 0) where
  -- several numbers, or zeros after a refusal's number
  pub several : {a answer : Result A Refusal} (m : Result (List ℕ) Refusal) {r : ℕ} {out : List ℕ} → a ≡ answer
      → MatchResult a (λ v. IsOkAnd m (λ l. (0 ∷ l) ≡ numbers (Ok v))) (λ x. m ≡ Err x)
      → IfOk m (λ l. (r ≡ 0) × (out ≡ l)) → IfErr m (λ x. (r ≡ number_of x) × AllOfLen (λ n. n ≡ 0) out k) → (r ∷ out) ≡ numbers answer
  several {a = Ok v} (Ok l) e c ok err = rw (ok.0, ok.1) c ∙ ap numbers e
  several {a = Ok v} (Err x) e c ok err = elim c [ ]
  several {a = Err x} m {out = out} e c ok err =
      let f = rw c at err in rw (f.0, all_zero out k f.1.long f.1.at) (sym (refused x)) ∙ ap numbers e

-- what is held has numbers of its own
pub held : (a : Result Held Refusal) (m : Result (List ℕ) Refusal)
    → MatchResult a (λ v. IsOkAnd m (λ l. l ≡ held_numbers v)) (λ x. m ≡ Err x)
    → MatchResult a (λ v. IsOkAnd m (λ l. (0 ∷ l) ≡ asked_numbers (Ok v))) (λ x. m ≡ Err x)
held (Ok v) (Ok l) c = ap (λ (ns : List ℕ). 0 ∷ ns) c
held (Ok v) (Err x) c = elim c [ ]
held (Err x) m c = c
