-- `sound::TableRows::other_sound` meets its contract (`other_sound`).
use Rattle.sound.proofs.Rows.{other_sound}
use Rattle.sound.proofs.TableRows.other_sound.Goals as goal

pub returns : goal.returns
returns c = let row = c.row-n.ensures in
    let other = rw (← row) at c.requires.no_tag in
    rw (← row) (other_sound c.args.self.now.len c.args.h c.row-n.result other.0 other.1)
