-- `tl::tl_get_elements_by_class_name` meets its contract: what the call answers, in numbers.
use Rattle.tl.proofs.Left.{exported}
use Rattle.tl.proofs.exports.tl_get_elements_by_class_name.Goals as goal

pub returns : goal.returns
returns c = let e = rw c.of-manner.ensures at c.get_elements_by_class_name.ensures in exported e.is e.left c.leave.ensures.ok c.leave.ensures.err
