-- `lines::Writer::put_head` meets its contract: its texts one after the other.
use Rattle.lines.specs.Lines.{head_line}
use Rattle.lines.proofs.Laws.{then}
use Rattle.lines.proofs.Writer.put_head.Goals as goal

pub returns : goal.returns
unfolding head_line
returns c = then c.put.ensures
    (then c.put_field.ensures (then c.put_word.ensures (then c.put_field-2.ensures c.put_byte.ensures)))
