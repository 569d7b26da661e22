-- `replay::document::Document::text` meets its contract: what the call answers, in numbers, and the buffer that it leaves.
use Rattle.replay.proofs.Writing.{prints}
use Rattle.replay.proofs.document.Document.text.Goals as goal

pub returns : goal.returns
returns c = prints c.tl_inner_text-number.ensures c.put_line.ensures
