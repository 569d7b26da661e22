-- The calls for C and Rust programs.
use Rattle.std.specs.Prelude.{◌≡◌, List, [], ◌∷◌, ℕ, ◌≤◌, Option, Some, None, Result, Ok, Err}
use Rattle.rules.specs.Refusals.{counted_numbers}
use Rattle.rules.specs.declared.Refusal.{Refusal}

-- a range's first handle is above 0 and at most its last
abbrev pub Ascending : Result (Option (ℕ × ℕ)) Refusal → Type 0
Ascending (Ok (Some (a, e))) = (1 ≤ a) × (a ≤ e)
Ascending (Ok None) = Unit {0}
Ascending (Err x) = Unit {0}

-- a call that writes a buffer: the refusal's number and the count are the answer's, and the buffer is as it says
pub record Exports (answer : Result ℕ Refusal) (buffer : List ℕ) (r count : ℕ) (out : List ℕ) : Type 0 where
  pub is : (r ∷ count ∷ []) ≡ counted_numbers answer
  pub left : out ≡ buffer

-- a call that writes two buffers
pub record ExportsBoth (answer : Result ℕ Refusal) (places bytes : List ℕ) (r count : ℕ) (ends out : List ℕ) : Type 0 where
  pub is : (r ∷ count ∷ []) ≡ counted_numbers answer
  pub ends_left : ends ≡ places
  pub out_left : out ≡ bytes
