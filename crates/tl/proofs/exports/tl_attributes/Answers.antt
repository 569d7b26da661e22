-- `tl::tl_attributes` meets its contract: what the call answers, in numbers.
use Rattle.tl.proofs.Left.{exported}
use Rattle.tl.proofs.exports.tl_attributes.Goals as goal

pub returns : goal.returns
returns c = exported c.attributes.ensures.is c.attributes.ensures.left c.leave.ensures.ok c.leave.ensures.err
