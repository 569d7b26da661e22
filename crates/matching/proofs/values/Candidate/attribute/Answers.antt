-- `matching::values::Candidate::attribute` meets its contract: a value's bytes are those of the page.
use Rattle.matching.proofs.Held.{held}
use Rattle.matching.proofs.values.Candidate.attribute.Goals as goal

pub returns : goal.returns
returns c = rw c.attribute.ensures.part (held _ _ _ _ _ c.attribute.ensures.held)
