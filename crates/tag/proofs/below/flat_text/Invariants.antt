-- `tag::below::flat_text` meets its contract: what is left to be written, from i on, is the text from row k on.
use Rattle.rules.specs.Text.{inner_text}
use Rattle.rules.proofs.Buffers.{Left}
use Rattle.rules.proofs.Text.{text_from}
use Rattle.tag.proofs.below.flat_text.Given as goal

abbrev pub invariant-loop-k : goal.invariant-loop-k
invariant-loop-k l =
    Left l.initial.out l.at (inner_text l.d.page.now l.d.table.now l.h) l.out l.i (text_from l.d.page.now l.d.table.now l.h l.k)
