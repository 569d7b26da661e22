-- `lines::Writer::put_field` meets its contract: a space, then the digits.
use Rattle.lines.proofs.Laws.{then}
use Rattle.lines.proofs.Writer.put_field.Goals as goal

pub returns : goal.returns
returns g c = then c.put_byte.ensures c.put_number.ensures
