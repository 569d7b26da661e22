-- `sound::TableRows::tag_ended` meets its contract: by where the tag ends (`ended_usual`, `ended_short`, `ended_never`).
use Rattle.sound.proofs.Rows.{ended_usual, ended_short, ended_never}
use Rattle.sound.proofs.TableRows.tag_ended.Goals as goal

pub returns-then-n-above : goal.returns-then-n-above
returns-then-n-above c = let row = c.row-n.ensures in
    let tag = rw (← row) at c.requires.tag in
    rw (← row) (ended_usual c.args.h c.row-n.result tag.0 tag.1 c.if-n-above.true)

pub returns-then-above-eq1 : goal.returns-then-above-eq1
returns-then-above-eq1 c = let row = c.row-n.ensures in
    let tag = rw (← row) at c.requires.tag in
    rw (← row) (ended_short c.args.h c.row-n.result tag.0 tag.1 c.if-above-eq1.true c.if-n-above.false)

pub returns : goal.returns
returns c = let row = c.row-n.ensures in
    let tag = rw (← row) at c.requires.tag in
    rw (← row) (ended_never c.args.h c.row-n.result tag.0 tag.1 c.if-above-eq1.false c.if-n-above.false)
