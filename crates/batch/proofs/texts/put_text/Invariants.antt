-- `batch::texts::put_text` meets its contract: what is left to be written, if there is room, is the text from row k on.
use Rattle.std.proofs.Common.{◌+◌, ◌-◌}
use Rattle.rules.specs.Text.{inner_text}
use Rattle.rules.proofs.Text.{text_from}
use Rattle.batch.proofs.Fitting.{Fitting}
use Rattle.batch.proofs.texts.put_text.Given as goal

abbrev pub invariant-loop-k : goal.invariant-loop-k
invariant-loop-k l =
    let p = l.d.page.now in
    let ws = l.d.table.now in Fitting l.initial.out l.at (inner_text p ws l.h) l.out l.i (text_from p ws l.h l.k)

abbrev pub decreases-loop-k : goal.decreases-loop-k
decreases-loop-k l = l.last + 1 - l.k
