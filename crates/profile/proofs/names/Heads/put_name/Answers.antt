-- `profile::names::Heads::put_name` meets its contract: there is no name, or it is put at its slot.
use mathlib.Core.Path.{◌∙◌}
use native.Mathlib.Omega.{arith}
use Rattle.profile.proofs.Slots.{slot_name, put_none, put_some}
use Rattle.profile.proofs.names.Heads.put_name.Goals as goal

pub returns-then-n-eq0 : goal.returns-then-n-eq0
returns-then-n-eq0 c = let k = c.from-k.ensures in
    let z = c.if-n-eq0.true in
    rw (k, z) (put_none c.requires.1 c.requires.0 (rw (k, z) at c.name_len-n.ensures.0))

pub returns : goal.returns
returns c = let k = c.from-k.ensures in
    let i = c.args.i in
    let e = rw k at c.name_len-n.ensures.0 in
    let at = c.slot-s.ensures.0 ∙ slot_name c.args.profile.now.bytes.now i _ _ (omega (arith, k)) e (omega (arith, c.if-n-eq0.false)) in
    rw k (put_some c.requires.1 c.requires.0 c.name_len-n.result c.slot-s.result e c.slot-s.ensures.1 at)
