-- `scan::may_hold` meets its contract: where k stands, its first and last byte stand at their distance.
use mathlib.Core.Path.{refl}
use native.Mathlib.Omega.{arith}
use Rattle.scan.proofs.Pairs.{hold_none}
use Rattle.scan.proofs.may_hold.Goals as goal

pub returns : goal.returns
returns c = λ z w.
    hold_none c.args.s.now _ _ _ c.args.k.now c.args.from c.args.to (omega arith) (omega arith) refl refl refl (c.may_pair.ensures z) w
