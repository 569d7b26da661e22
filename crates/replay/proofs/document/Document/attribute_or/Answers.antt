-- `replay::document::Document::attribute_or` meets its contract: the four numbers of the answer, and then the bytes handed back.
use Rattle.replay.proofs.Writing.{joined}
use Rattle.replay.proofs.document.Document.attribute_or.Goals as goal

pub returns : goal.returns
returns c = rw (← c.attribute-part.ensures.part, ← c.attribute-part.ensures.numbers) (joined _ _ _ c.put_line.ensures)
