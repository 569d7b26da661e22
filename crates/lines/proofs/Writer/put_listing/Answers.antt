-- `lines::Writer::put_listing` meets its contract. The invariant: after the head line stand the lines of the first h rows.
use native.Mathlib.Omega.{arith}
use mathlib.Core.Path.{◌≡◌}
use Rattle.rules.specs.Lists.{from, each}
use Rattle.rules.specs.Sound.{count_of}
use Rattle.lines.specs.Lines.{listing_text}
use Rattle.lines.proofs.Laws.{none, then}
use Rattle.lines.proofs.Rows.{then_row, row_named}
use Rattle.lines.proofs.Writer.put_listing.Goals as goal
use Rattle.lines.proofs.Writer.put_listing.Invariants.{line}

pub loop-h-init : goal.loop-h-init
unfolding each from
loop-h-init c = none _

pub put_line-requires : goal.put_line-requires
put_line-requires c = let d = c.args.d.now in row_named d.page.now d.table.now c.loop-h.h d.fits (omega (arith, c.count-h-end.ensures.rows)) c.row.ensures.node

pub loop-h-preserved : goal.loop-h-preserved
loop-h-preserved c = let d = c.args.d.now in
    let put = rw c.row.ensures.node at c.put_line.ensures in
    then_row (line d.page.now d.table.now) c.loop-h.h c.loop-h.invariant put

pub returns : goal.returns
unfolding listing_text
returns c = let done : c.loop-h.h ≡ count_of c.args.d.now.table.now = omega arith in
    then (rw (c.count.ensures.rows, c.version.ensures) at c.put_head.ensures) (rw done at c.loop-h.invariant)
