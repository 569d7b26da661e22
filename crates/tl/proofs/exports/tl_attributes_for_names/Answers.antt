-- `tl::tl_attributes_for_names` meets its contract: what the call answers, in numbers.
use Rattle.tl.proofs.Left.{exported}
use Rattle.tl.proofs.exports.tl_attributes_for_names.Goals as goal

pub returns : goal.returns
returns c = exported c.attributes_for_names.ensures.is c.attributes_for_names.ensures.left c.leave.ensures.ok c.leave.ensures.err
