-- `parser::parse_single` meets its contract: whatever reading was held at first, what is held now has the rest of the steps left.
use mathlib.Core.Path.{◌≡◌}
use Prim.Native.Nat.{◌+◌, ◌-◌}
use native.Mathlib.Omega.{arith}
use Rattle.parser.proofs.Readings.{item_fits, room_of, inner_of}
use Rattle.parser.proofs.Running.{along_on, run_ended, run_last, run_full}
use Rattle.parser.proofs.parse_single.Goals as goal

pub returns-then-page-s : goal.returns-then-page-s
returns-then-page-s c = run_ended c.loop.invariant c.if-page-s.true

pub put-requires : goal.put-requires
put-requires c = let X = c.requires.0 in
    let C = c.loop.invariant.came X.t X.hd X.R X.held X.good in (
      room_of C.held C.good c.requires.1 c.if-page-s.false,
      inner_of C.held C.good,
      rw c.item_at-item.ensures (item_fits _ c.args.page.now _ c.if-page-s.false),
      c.requires.1,
    )

pub returns-in_err-s : goal.returns-in_err-s
returns-in_err-s c = rw c.from_residual.ensures
    (run_full c.loop.invariant (omega arith) c.if-page-s.false c.item_at-item.ensures c.put.ensures c.in_err-s.was)

pub loop-preserved : goal.loop-preserved
loop-preserved c =
    let one : c.args.budget - (c.loop.counter + 1) ≡ (c.args.budget - c.loop.counter) - 1 = omega arith in
    rw one
    (along_on c.loop.invariant (omega arith) c.if-page-s.false c.item_at-item.ensures c.put.ensures c.in_ok-s.was c.put.auto.table)

pub returns : goal.returns
returns c = run_last c.loop.invariant (omega arith)
