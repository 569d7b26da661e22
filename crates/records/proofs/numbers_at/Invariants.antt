-- `records::numbers_at` meets its contract. The invariant: the first numbers are read.
use lib.ListN.{length}
use Rattle.records.proofs.Several.{Stored}
use Rattle.records.proofs.numbers_at.Given as goal

abbrev pub invariant-loop-number : goal.invariant-loop-number
invariant-loop-number g l = Stored g.T.Number.value l.s l.at (length l.initial.numbers) l.numbers l.place l.number-index
