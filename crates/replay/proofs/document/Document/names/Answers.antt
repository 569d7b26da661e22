-- `replay::document::Document::names` meets its contract: what the call answers, in numbers, and the buffer that it leaves.
use Rattle.replay.proofs.Writing.{prints}
use Rattle.replay.proofs.document.Document.names.Goals as goal

pub returns : goal.returns
returns c = prints c.tl_attributes_for_names-number.ensures c.put_line.ensures
