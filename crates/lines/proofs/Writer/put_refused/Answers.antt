-- `lines::Writer::put_refused` meets its contract: its texts one after the other.
use Rattle.lines.specs.Lines.{refused_text}
use Rattle.lines.proofs.Laws.{then}
use Rattle.lines.proofs.Writer.put_refused.Goals as goal

pub returns : goal.returns
unfolding refused_text
returns c = then c.put.ensures (then c.put_field.ensures c.put_byte.ensures)
