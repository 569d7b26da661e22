-- `records::numbers_at` meets its contract. The invariant: the first numbers are read.
use native.Mathlib.Omega.{arith}
use Rattle.records.proofs.Several.{one_number, no_number, all_numbers}
use Rattle.records.proofs.numbers_at.Goals as goal

pub returns-in_err-n : goal.returns-in_err-n
returns-in_err-n g c = let l = c.loop-number in
    rw c.from_residual.ensures
    (no_number g.T.Number.value c.args.s.now c.args.at _ l.numbers l.place l.number-index (omega arith) c.in_err-n.ensures l.invariant)

pub loop-number-preserved : goal.loop-number-preserved
loop-number-preserved g c = let l = c.loop-number in
    one_number g.T.Number.value c.args.s.now c.args.at _ l.numbers l.place l.number-index c.in_ok-n.n c.in_ok-n.next c.of.result
    (omega arith) (omega arith) c.of.ensures c.in_ok-n.ensures l.invariant

pub returns : goal.returns
returns g c = let l = c.loop-number in
    all_numbers g.T.Number.value c.args.s.now c.args.at _ l.numbers l.place l.number-index (omega arith) (omega arith) l.invariant
