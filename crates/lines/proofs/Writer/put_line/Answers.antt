-- `lines::Writer::put_line` meets its contract: its texts one after the other.
use Rattle.lines.specs.Lines.{node_line}
use Rattle.lines.proofs.Laws.{then}
use Rattle.lines.proofs.Writer.put_line.Goals as goal

pub returns : goal.returns
unfolding node_line
returns c = then c.put_number.ensures
    (then (rw c.kind_name.ensures at c.put_word.ensures)
    (then c.put_parent.ensures
    (then c.put_field.ensures
    (then c.put_field-2.ensures
    (then c.put_field-3.ensures (then c.put_name.ensures c.put_byte.ensures))))))
