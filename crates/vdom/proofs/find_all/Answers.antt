-- `vdom::find_all` meets its contract: what was found so far stands at the front of the buffer (`Walked`).
use Rattle.std.proofs.Common.{◌≡◌, ◌+◌, ◌-◌, arith, rules}
use Rattle.rules.specs.Finds.{passing}
use Rattle.vdom.proofs.Walk.{none_found, rest_after, walk_begin, walk_next, walk_short, walk_end}
use Rattle.vdom.proofs.find_all.Goals as goal

pub loop-h-init : goal.loop-h-init
loop-h-init g c =
    record {
      low = omega arith;
      high = omega (arith, c.requires.rows.0);
      end = search rules;
      walked = λ P f. walk_begin (passing c.args.view P c.args.d.now.table.now) _ (omega arith) (search rules);
    }

pub find_next-requires-clause-rows : goal.find_next-requires-clause-rows
find_next-requires-clause-rows g c = let l = c.loop-h.invariant in omega (arith, l.high, l.end, c.requires.rows.1)

pub returns-then-out-n : goal.returns-then-out-n
returns-then-out-n g c = λ P f.
    rw c.refuse.ensures.is
    (walk_short (c.loop-h.invariant.walked P f) (rest_after _ _ _ _ (c.in-Some.ensures.first P f)) (omega (arith, c.if-out-n.true))
    c.refuse.ensures.left)

pub loop-h-smaller : goal.loop-h-smaller
loop-h-smaller g c = omega (arith, c.in-Some.ensures.within)

pub loop-h-preserved : goal.loop-h-preserved
loop-h-preserved g c =
    let l = c.loop-h.invariant in
    let w = c.in-Some.ensures.within in
    let rest = c.loop-h.rest in
    let left : rest.start + (rest.end - rest.start) - (c.in-Some.h + 1) ≡ rest.end - (c.in-Some.h + 1) = omega (arith, w) in
    record {
      low = omega (arith, w, l.low);
      high = omega (arith, w);
      end = l.end;
      walked = λ P f.
          let next = rw left at (rest_after _ _ _ _ (c.in-Some.ensures.first P f)) in
          walk_next (l.walked P f) next (omega (arith, w, l.low)) (omega arith) (omega (arith, c.if-out-n.false));
    }

pub returns : goal.returns
returns g c = λ P f. walk_end (c.loop-h.invariant.walked P f) (none_found _ (c.in_default.ensures.first P f))
