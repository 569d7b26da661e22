-- `tl::tl_inner_text` meets its contract: what the call answers, in numbers.
use Rattle.tl.proofs.Left.{exported}
use Rattle.tl.proofs.exports.tl_inner_text.Goals as goal

pub returns : goal.returns
returns c = exported c.inner_text.ensures.is c.inner_text.ensures.left c.leave.ensures.ok c.leave.ensures.err
