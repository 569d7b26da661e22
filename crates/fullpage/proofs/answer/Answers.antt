-- `fullpage::answer` meets its contract: the page that is asked for has room, and is filled in.
use native.Mathlib.Omega.{arith}
use mathlib.Core.Path.{sym}
use Rattle.fullpage.proofs.Writing.{asked_short, page_put, room_for}
use Rattle.fullpage.proofs.answer.Goals as goal

pub slice_bounds-fill-end : goal.slice_bounds-fill-end
slice_bounds-fill-end c = omega (arith, asked_short c.args.s.now c.in-Some.n (sym c.in-Some.ensures))

pub slice_bounds-fill-end-2 : goal.slice_bounds-fill-end-2
slice_bounds-fill-end-2 c = room_for c.args.s.now c.args.out.now c.in-Some.n (sym c.in-Some.ensures) c.requires

pub returns : goal.returns
returns c = let e = room_for c.args.s.now c.args.out.now c.in-Some.n (sym c.in-Some.ensures) c.requires in
    rw (← c.in-Some.ensures) (page_put c.args.out.now _ c.in-Some.n (rw (← e) at c.fill.ensures))
