-- Words for the contracts of code below the public calls, no rule of the paper: a lent buffer, into which a list is written from a place on.
use Rattle.std.specs.Prelude.{◌≡◌, List, ◌++◌, ℕ, ◌+◌, length, take, drop}

-- d with s from place `at` on
abbrev pub put_at : List ℕ → ℕ → List ℕ → List ℕ
put_at d at s = take at d ++ (s ++ drop (at + length s) d)

-- s was written into d from `at` on: d₁ is what is left, r the place after it
pub record Wrote (d : List ℕ) (at : ℕ) (s d₁ : List ℕ) (r : ℕ) : Type 0 where
  pub buffer : d₁ ≡ put_at d at s
  pub next : r ≡ at + length s
