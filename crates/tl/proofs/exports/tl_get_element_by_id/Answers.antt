-- `tl::tl_get_element_by_id` meets its contract: what the call answers, in numbers.
use mathlib.Core.Path.{refl}
use Rattle.rules.specs.Refusals.{found_numbers}
use Rattle.tl.proofs.Left.{several}
use Rattle.tl.proofs.exports.tl_get_element_by_id.Goals as goal

pub returns : goal.returns
returns c = let e = rw c.of-manner.ensures at c.get_element_by_id-tag.ensures in
    several found_numbers 2 (λ x. refl) _ e c.map.ensures.cases c.leave.ensures.ok c.leave.ensures.err
