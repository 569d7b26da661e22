-- `tl::tl_parse` meets its contract: what the call answers, in numbers.
use Rattle.tl.proofs.Left.{exported}
use Rattle.tl.proofs.exports.tl_parse.Goals as goal

pub returns : goal.returns
returns c = exported c.parse.ensures.is c.parse.ensures.left c.leave.ensures.ok c.leave.ensures.err
