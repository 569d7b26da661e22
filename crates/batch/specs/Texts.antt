-- What is promised of the texts of a list of handles, and of one of them.
use Rattle.std.specs.Prelude.{Bool, ◌||◌, ◌≡◌, List, ℕ, ◌+◌, ◌≤◌, ◌<◌, ltb, length, Option, MatchOption, Result}
use Rattle.rules.specs.Buffers.{Wrote}
use Rattle.rules.specs.Refusals.{filled_by, LeavesBoth}
use Rattle.rules.specs.Batch.{texts_found, ends_found}
use Rattle.rules.specs.declared.Refusal.{Refusal}
use Rattle.batch.specs.Batch.{unless}

-- what the texts of the handles leave in the lent places e and bytes b; `few`: there are too few places
module _ (p ws hs e b : List ℕ) where
  abbrev pub TextsLeft : Bool → Result ℕ Refusal → List ℕ → List ℕ → Type 0
  TextsLeft few r ends out =
      LeavesBoth
      (unless (few || ltb (length b) (length (texts_found p ws hs))) (length hs))
      (filled_by e (ends_found p ws hs) r)
      (filled_by b (texts_found p ws hs) r)
      r
      ends
      out

-- the text s was written into the lent bytes b from `at` on, or there is no room for it
pub record PutsText (s b : List ℕ) (at : ℕ) (r : Option ℕ) (out : List ℕ) : Type 0 where
  pub size : length out ≡ length b
  pub end : MatchOption r (length b < at + length s) (λ e. Wrote b at s out e × (at + length s ≤ length b))
