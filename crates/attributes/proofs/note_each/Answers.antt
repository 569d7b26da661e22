-- `attributes::note_each` meets its contract: the attribute was noted in the words of the first j names.
use Rattle.std.proofs.Common.{arith}
use Rattle.attributes.proofs.Noted.{noting_none, noting_more, noting_all}
use Rattle.attributes.proofs.note_each.Goals as goal

pub loop-j-init : goal.loop-j-init
loop-j-init c = noting_none _ _ _ _ _

pub loop-j-preserved : goal.loop-j-preserved
loop-j-preserved c = noting_more _ _ _ _ _ c.loop-j.invariant c.note_one.ensures

pub returns : goal.returns
returns c = noting_all _ _ _ _ _ c.loop-j.invariant c.requires.0 (omega arith)
