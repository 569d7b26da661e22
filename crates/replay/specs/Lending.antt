-- The page and the table that the questions are about: what is lent of their buffers, and how far the answer to a record gets.
use Rattle.std.specs.Prelude.{ℕ, zero, suc, ◌*◌, ◌≤◌, ◌<◌, Bool, ◌&&◌, List, [], ◌++◌, leb, length, Option, Some, None}
use Rattle.std.proofs.lemmas.List.Edits.{sets}
use Rattle.rules.specs.Scan.{pick}
use Rattle.records.specs.declared.Question.{Question}
use Rattle.records.specs.declared.Question.TheVariants.{Parse}
use Rattle.replay.specs.declared.lending.Lent.{Lent}
use Rattle.replay.specs.declared.Step.{Step}

-- a text, so many times
unfoldable pub repeated : ℕ → List ℕ → List ℕ
repeated zero text = []
repeated (suc k) text = repeated k text ++ text

-- the page of a reading has n bytes so many times, and its table so many words
abbrev pub fits : ℕ → ℕ → ℕ → ℕ → ℕ → Bool
fits n words times page table = leb (n * times) page && leb words table

-- the bytes of the page and the words of the table that are lent: those of a reading of n bytes, otherwise as before
abbrev pub lent_by : Question → ℕ → ℕ → ℕ → Lent → Option Lent
lent_by (Parse words times) n page table before =
    pick (fits n words times page table) (Some (record { bytes = n * times; words = words })) None
lent_by question n page table before = Some before

-- the page's buffer after a record: a reading puts its page there
abbrev pub page_by : Question → List ℕ → List ℕ → ℕ → List ℕ
page_by (Parse words times) body page table = pick (fits (length body) words times (length page) table) (sets page 0 (repeated times body)) page
page_by question body page table = page

-- what is lent lies in the page's and the table's buffer
pub record IsWithin (lent : Lent) (page table : ℕ) : Type 0 where
  pub bytes : lent.bytes ≤ page
  pub words : lent.words ≤ table

-- a record that was answered ends within the input, and what is lent lies in the buffers
pub record IsAhead (step : Step) (at input page table : ℕ) : Type 0 where
  pub later : at < step.next
  pub inside : step.next ≤ input
  pub lent : IsWithin step.lent page table
