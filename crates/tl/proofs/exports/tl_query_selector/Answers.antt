-- `tl::tl_query_selector` meets its contract: what the call answers, in numbers.
use Rattle.tl.proofs.Left.{exported}
use Rattle.tl.proofs.exports.tl_query_selector.Goals as goal

pub returns : goal.returns
returns c = let e = rw c.from-view.ensures at c.query_selector.ensures in exported e.is e.left c.leave.ensures.ok c.leave.ensures.err
