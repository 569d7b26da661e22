-- `matching::values::Candidate::compare` meets its contract: the name and the text are parts of the selector.
use Rattle.matching.proofs.values.Candidate.compare.Goals as goal

pub returns : goal.returns
returns g c = rw (← c.text.ensures, ← c.text-2.ensures) c.has_value.ensures
