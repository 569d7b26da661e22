-- `replay::document::Document::texts` meets its contract: what the call answers, in numbers, and the buffers that it leaves.
use Rattle.lines.proofs.Laws.{then}
use Rattle.replay.proofs.Writing.{prints_both}
use Rattle.replay.proofs.document.Document.texts.Goals as goal

pub returns : goal.returns
returns c =
    let values = then c.put_fields.ensures (then c.put_fields-2.ensures c.put_fields-3.ensures) in
    prints_both c.tl_inner_texts-number.ensures (then c.put.ensures (then values c.put_byte.ensures))
