-- `batch::skips::fill_skips` meets its contract: the places from j on are filled (`Filling`).
use Rattle.batch.proofs.Skipping.{Filling}
use Rattle.batch.proofs.skips.fill_skips.Given as goal

abbrev pub invariant-loop-j : goal.invariant-loop-j
invariant-loop-j l = Filling l.d.page.now l.d.table.now l.step l.initial.skip l.skip l.next l.to l.j
