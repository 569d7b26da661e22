-- `replay::document::Document::class` meets its contract: what the call answers, in numbers, and the buffer that it leaves.
use Rattle.replay.proofs.Writing.{prints}
use Rattle.replay.proofs.document.Document.class.Goals as goal

pub returns : goal.returns
returns c = prints c.tl_get_elements_by_class_name-number.ensures c.put_line.ensures
