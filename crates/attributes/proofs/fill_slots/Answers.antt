-- `attributes::fill_slots` meets its contract: the first j names have their slots.
use Rattle.std.proofs.Common.{ap, ◌∙◌}
use Rattle.attributes.specs.Slots.{slot_of}
use Rattle.attributes.proofs.Slotted.{slotted_none, slotted_more}
use Rattle.attributes.proofs.fill_slots.Goals as goal

pub loop-j-init : goal.loop-j-init
loop-j-init c = let names = c.args.names.now in rw c.requires (slotted_none names.text.now names.ends.now)

pub loop-j-preserved : goal.loop-j-preserved
loop-j-preserved c =
    let at = c.slot_of-at in
    slotted_more _ _ c.loop-j.invariant at.result c.slot_with.result (at.ensures.0 ∙ ap slot_of c.get.ensures) at.ensures.1 c.slot_with.ensures
