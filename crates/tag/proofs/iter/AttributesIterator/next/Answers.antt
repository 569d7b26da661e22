-- `next` of the attributes meets its contract: what was left is the attribute that was read, and those from the place after it on.
use mathlib.Core.Path.{refl, ap}
use native.Mathlib.Omega.{arith}
use lib.ListN.{length}
use Rattle.tag.proofs.Turns.{next_left, none_left}
use Rattle.tag.proofs.iter.AttributesIterator.next.Goals as goal

pub returns-in_err-a-clause-steps : goal.returns-in_err-a-clause-steps
returns-in_err-a-clause-steps c =
    let n = none_left _ _ _ c.next_attribute.ensures c.in_err-a.was in rw c.from_residual.ensures ((n, n), (refl, refl, tt))

pub returns-clause-steps : goal.returns-clause-steps
returns-clause-steps c = let t = next_left _ _ _ c.next_attribute.ensures _ c.in_ok-a.was in
    (t.cut, (refl, refl, (refl, record { name = t.name; stop = t.stop; next = t.next })))

pub returns-clause-goes : goal.returns-clause-goes
returns-clause-goes c = let t = next_left _ _ _ c.next_attribute.ensures _ c.in_ok-a.was in
    let e = ap length t.cut in grind arith
