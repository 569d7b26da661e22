-- The line of an answer, and the buffers that a call leaves.
use Rattle.std.specs.Prelude.{◌≡◌, List, ℕ, ◌++◌, Result}
use Rattle.rules.specs.Refusals.{counted_numbers}
use Rattle.lines.specs.declared.Writer.{Writer}
use Rattle.lines.specs.Writer.{Puts}
use Rattle.records.specs.Printed.{line}
use Rattle.rules.specs.declared.Refusal.{Refusal}

-- a call that writes a buffer: the line has its answer in numbers and the whole buffer, which is left so
pub record Prints (before : Writer) (word : List ℕ) (answer : Result ℕ Refusal) (buffer : List ℕ) (after : Writer) (left : List ℕ) : Type 0 where
  pub printed : Puts before (line word (counted_numbers answer ++ buffer)) after
  pub kept : left ≡ buffer

-- a call that writes two buffers: the line has the places and then the bytes
pub record PrintsBoth (before : Writer) (word : List ℕ) (answer : Result ℕ Refusal) (places texts : List ℕ) (after : Writer)
    (ends left : List ℕ) : Type 0 where
  pub printed : Puts before (line word (counted_numbers answer ++ (places ++ texts))) after
  pub ends_kept : ends ≡ places
  pub kept : left ≡ texts
