-- `batch::texts::put_text` meets its contract: what is left to be written, if there is room, is the text from row k on.
use Rattle.std.proofs.Common.{arith, refl, sym, length, ◌≡◌, ◌∙◌}
use Rattle.rules.specs.Text.{inner_text}
use Rattle.tag.specs.Tag.{node_text}
use Rattle.tag.proofs.Texts.{from_none}
use Rattle.batch.proofs.Fitting.{fitting_all, fitting_as, fitting_skip, fitting_short, fitting_more, fitting_fits, fitting_none}
use Rattle.batch.proofs.Skipping.{first_row, next_row}
use Rattle.batch.proofs.texts.put_text.Goals as goal

pub loop-k-init : goal.loop-k-init
loop-k-init c =
    let d = c.args.s.now.tags.document in
    let p = d.page.now in
    let ws = d.table.now in
    fitting_as (fitting_all c.args.out.now c.args.at (inner_text p ws c.args.h) c.requires.1)
    (first_row p ws c.args.s.now.passes c.args.h c.next_text-k.ensures)

pub loop-k-preserved-then-not-is_text : goal.loop-k-preserved-then-not-is_text
loop-k-preserved-then-not-is_text c =
    let d = c.args.s.now.tags.document in
    let n = c.row-row.result in
    let cut =
    next_row d.page.now d.table.now c.args.s.now.passes c.args.h c.row-last.ensures.node (omega arith) c.row-row.ensures.node refl
    c.next_text-k-in-loop-k.ensures in
    let none : length (node_text d.page.now n) ≡ 0 = rw (sym c.is_text.ensures ∙ c.if-not-is_text.true) in
    fitting_skip c.loop-k.invariant _ _ cut none

pub returns-then-out-i : goal.returns-then-out-i
returns-then-out-i c =
    let d = c.args.s.now.tags.document in
    let cut =
    next_row d.page.now d.table.now c.args.s.now.passes c.args.h c.row-last.ensures.node (omega arith) c.row-row.ensures.node c.text_of-text.ensures.text
    c.next_text-k-in-loop-k.ensures in
    record { size = c.loop-k.invariant.size; end = fitting_short c.loop-k.invariant c.text_of-text.result.now _ cut (omega arith) }

pub loop-k-preserved : goal.loop-k-preserved
loop-k-preserved c =
    let d = c.args.s.now.tags.document in
    let cut =
    next_row d.page.now d.table.now c.args.s.now.passes c.args.h c.row-last.ensures.node (omega arith) c.row-row.ensures.node c.text_of-text.ensures.text
    c.next_text-k-in-loop-k.ensures in
    fitting_more c.loop-k.invariant _ _ cut c.copy-i.ensures (omega arith)

pub returns : goal.returns
returns c =
    let d = c.args.s.now.tags.document in
    let f = c.loop-k.invariant in
    let none = from_none d.page.now d.table.now c.args.h c.loop-k.k c.row-last.ensures.node (omega arith) in
    record { size = f.size; end = (fitting_none f none, fitting_fits f none) }
