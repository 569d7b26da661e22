-- `calls::select` meets its contract: what the selector reader answered, and then the walk over the handles.
use Rattle.std.proofs.Common.{arith}
use Rattle.queryselector.proofs.Written.{parsed}
use Rattle.calls.proofs.Selecting.{unread, walked}
use Rattle.calls.proofs.select.Goals as goal

pub returns-in-Err : goal.returns-in-Err
returns-in-Err c = unread _ c.args.s.now c.args.out.now _ c.in-Err.ensures.answer c.refuse.ensures.is c.refuse.ensures.left

pub invariant_of-chain : goal.invariant_of-chain
invariant_of-chain c = let few = (parsed _ _ _ _ c.in-Ok.ensures.answer c.in-Ok.ensures.chain).few in omega (arith, few)

pub returns : goal.returns
returns c =
    let P = parsed _ _ _ _ c.in-Ok.ensures.answer c.in-Ok.ensures.chain in
    walked _ c.args.s.now c.args.out.now P (rw (c.marks-t.ensures, P.back) at c.query.ensures)
