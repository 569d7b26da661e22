-- `attributes::fill_slots` meets its contract: the first j names have their slots.
use Rattle.attributes.specs.Slots.{Slotted}
use Rattle.attributes.proofs.fill_slots.Given as goal

abbrev pub invariant-loop-j : goal.invariant-loop-j
invariant-loop-j l = Slotted l.names.text.now l.names.ends.now l.j l.slots
