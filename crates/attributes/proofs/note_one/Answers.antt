-- `attributes::note_one` meets its contract: the lent part is the words of name j.
use Rattle.attributes.proofs.Noted.{notes_one}
use Rattle.attributes.proofs.note_one.Goals as goal

pub returns : goal.returns
returns c =
    let a = c.args in
    let names = a.names.now in
    notes_one a.page.now a.a names.text.now names.ends.now a.j c.requires.room.0 c.requires.below c.note.new.words c.note.auto.words
    (rw c.get.ensures at c.note.ensures)
