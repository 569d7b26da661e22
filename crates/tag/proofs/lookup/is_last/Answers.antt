-- `tag::lookup::is_last` meets its contract: the two comparisons are the definition's.
use Rattle.tag.proofs.lookup.is_last.Goals as goal

pub returns : goal.returns
returns c = rw (c.is_same.ensures, c.is_same-2.ensures)
