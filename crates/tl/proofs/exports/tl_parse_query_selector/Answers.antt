-- `tl::tl_parse_query_selector` meets its contract: what the call answers, in numbers.
use Rattle.tl.proofs.Left.{exported}
use Rattle.tl.proofs.exports.tl_parse_query_selector.Goals as goal

pub returns : goal.returns
returns c = exported c.parse_query_selector.ensures.is c.parse_query_selector.ensures.left c.leave.ensures.ok c.leave.ensures.err
