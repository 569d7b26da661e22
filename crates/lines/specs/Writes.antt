-- What writing a text into a lent buffer leaves.
use Rattle.std.specs.Prelude.{◌≡◌, List, [], ℕ, suc, ◌+◌, ◌-◌, min, length, Result}
use Rattle.std.proofs.lemmas.List.Edits.{sets}
use Rattle.rules.specs.Refusals.{counted, filled_by}
use Rattle.rules.specs.declared.Refusal.{Refusal}

-- the text is written into `out` from `at` on, as far as there is room, and leaves `left`; r is the place after the text,
-- which goes no further than one past the end, so that a text that found no room is told by it
pub record Writes (out : List ℕ) (at : ℕ) (text left : List ℕ) (r : ℕ) : Type 0 where
  pub bytes : left ≡ sets out at text
  pub place : r ≡ at + min (length text) (suc (length out) - at)

-- writing ends at the place `at`: what was written is counted, or refused for lack of room, and then `left` is all zeros
pub record Ends (out : List ℕ) (at : ℕ) (left : List ℕ) (r : Result ℕ Refusal) : Type 0 where
  pub answer : r ≡ counted (length out) at
  pub bytes : left ≡ filled_by out [] r
