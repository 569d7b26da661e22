-- `replay::document::Document::attributes` meets its contract: what the call answers, in numbers, and the buffer that it leaves.
use Rattle.replay.proofs.Writing.{prints}
use Rattle.replay.proofs.document.Document.attributes.Goals as goal

pub returns : goal.returns
returns c = prints c.tl_attributes-number.ensures c.put_line.ensures
