-- `batch::texts::put_texts` meets its contract: the texts of the first i handles stand in the lent bytes, and their ends in the lent places.
use Rattle.rules.specs.Text.{inner_text}
use Rattle.batch.proofs.Joined.{Texts}
use Rattle.batch.proofs.texts.put_texts.Given as goal

abbrev pub invariant-loop-i : goal.invariant-loop-i
invariant-loop-i l =
    let d = l.s.tags.document in
    Texts (inner_text d.page.now d.table.now) l.s.tags.handles.now l.initial.ends l.initial.out l.i l.at l.ends l.out
