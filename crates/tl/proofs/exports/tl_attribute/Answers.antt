-- `tl::tl_attribute` meets its contract: what the call answers, in numbers.
use mathlib.Core.Path.{refl}
use Rattle.rules.specs.Refusals.{asked_numbers}
use Rattle.tl.proofs.Left.{several, held}
use Rattle.tl.proofs.exports.tl_attribute.Goals as goal

pub returns : goal.returns
returns c = several asked_numbers 3 (λ x. refl) _ c.attribute_places-held.ensures (held _ _ c.map.ensures.cases) c.leave.ensures.ok c.leave.ensures.err
