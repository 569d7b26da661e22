-- `replay::document::Document::below` meets its contract: what the call answers, in numbers, and the buffer that it leaves.
use Rattle.replay.proofs.Writing.{prints}
use Rattle.replay.proofs.document.Document.below.Goals as goal

pub returns : goal.returns
returns c = prints c.tl_query_selector_below-number.ensures c.put_line.ensures
