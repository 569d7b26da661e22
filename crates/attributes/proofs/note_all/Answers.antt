-- `attributes::note_all` meets its contract: a name to which the slot does not lead is not the attribute's.
use Rattle.attributes.proofs.Slotted.{no_name, one_name, name_inside}
use Rattle.attributes.proofs.Noted.{notes_none, notes_only}
use Rattle.attributes.proofs.note_all.Goals as goal

pub returns-then-c-eq0 : goal.returns-then-c-eq0
returns-then-c-eq0 c =
    notes_none c.args.page.now c.args.a _ _ _ c.requires.0 (no_name _ _ c.args.slots.now.slotted _ c.slot_of-at.ensures.0 c.if-c-eq0.true)

pub note_one-requires-clause-below : goal.note_one-requires-clause-below
note_one-requires-clause-below c = name_inside _ _ c.args.slots.now.slotted _ c.slot_of-at.ensures.0 c.if-c-eq0.false c.if-c-lt-MANY.true

pub returns-then-c-lt-MANY : goal.returns-then-c-lt-MANY
returns-then-c-lt-MANY c =
    notes_only c.args.page.now c.args.a _ _ _ c.requires.0 c.note_one.ensures
    (one_name _ _ c.args.slots.now.slotted _ c.slot_of-at.ensures.0 c.if-c-eq0.false c.if-c-lt-MANY.true)
