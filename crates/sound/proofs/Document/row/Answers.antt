-- `sound::Document::row` meets its contract: what the rows of a sound table are.
use native.Mathlib.Omega.{arith}
use lib.ListN.{length}
use Rattle.rules.proofs.Sound.{sound_rows}
use Rattle.sound.proofs.Document.row.Goals as goal

pub returns-clause-places : goal.returns-clause-places
returns-clause-places c =
    let d = c.args.self.now in
    let r = sound_rows (length d.page.now) d.table.now d.fits c.args.h c.requires in
    rw c.row_at.ensures
    (record { start = r.start_end; end = r.end_len; opening = λ k. let t = r.tag k in (t.opened, omega (arith, t.end, r.end_len)) })

pub returns-clause-last : goal.returns-clause-last
returns-clause-last c =
    let d = c.args.self.now in
    let r = sound_rows (length d.page.now) d.table.now d.fits c.args.h c.requires in
    rw c.row_at.ensures (r.last_low, r.last_high)
