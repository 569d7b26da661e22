-- `records::put_line` meets its contract: its texts one after the other.
use Rattle.lines.proofs.Laws.{then}
use Rattle.records.proofs.put_line.Goals as goal

pub returns : goal.returns
returns g c = then c.put.ensures (then (then c.put_fields.ensures c.put_fields-2.ensures) c.put_byte.ensures)
