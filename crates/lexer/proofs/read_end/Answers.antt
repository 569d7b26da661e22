-- `lexer::read_end` meets its contract: the two scans, one after the other.
use Rattle.rules.specs.Lexer.{closing}
use Rattle.lexer.proofs.read_end.Goals as goal

pub returns : goal.returns
unfolding closing
returns c = rw (c.advance-next.ensures, c.find-e.ensures)
