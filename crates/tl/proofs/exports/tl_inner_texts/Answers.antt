-- `tl::tl_inner_texts` meets its contract: what the call answers, in numbers.
use Rattle.tl.proofs.Left.{counted}
use Rattle.tl.proofs.exports.tl_inner_texts.Goals as goal

pub returns : goal.returns
returns c = let e = c.inner_texts.ensures in
    record { is = counted e.is c.leave.ensures.ok c.leave.ensures.err; ends_left = e.ends_left; out_left = e.out_left }
