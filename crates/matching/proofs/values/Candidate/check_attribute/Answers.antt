-- `matching::values::Candidate::check_attribute` meets its contract: a value is tested.
use Rattle.std.proofs.lemmas.Fn.{says_at}
use Rattle.std.proofs.Common.{refl}
use Rattle.matching.proofs.values.Candidate.check_attribute.Goals as goal

pub returns : goal.returns
returns g c = λ P f. rw (c.attribute-value.ensures, c.in-Value.is) (f _ _ (says_at g.F.Fn c.fits.ensures refl))
