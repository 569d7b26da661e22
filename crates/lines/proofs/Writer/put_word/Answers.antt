-- `lines::Writer::put_word` meets its contract: a space, then the word.
use Rattle.lines.proofs.Laws.{then}
use Rattle.lines.proofs.Writer.put_word.Goals as goal

pub returns : goal.returns
returns c = then c.put_byte.ensures c.put.ensures
