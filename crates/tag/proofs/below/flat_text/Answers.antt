-- `tag::below::flat_text` meets its contract: what is left to be written, from i on, is the text from row k on.
use Rattle.std.proofs.Common.{arith, sym}
use Rattle.rules.proofs.Buffers.{left_all, left_as, left_room, left_more, left_none}
use Rattle.tag.proofs.Texts.{from_all, from_none, from_next}
use Rattle.tag.proofs.below.flat_text.Goals as goal

pub loop-k-init : goal.loop-k-init
loop-k-init c =
    let d = c.args.d.now in
    left_as (left_all c.args.out.now c.args.at _ c.requires.room) (sym (from_all d.page.now d.table.now c.args.h))

pub copy-i-requires : goal.copy-i-requires
copy-i-requires c =
    let d = c.args.d.now in
    left_room c.loop-k.invariant _ _
    (from_next d.page.now d.table.now c.args.h _ c.row-last.ensures.node (omega arith) c.row.ensures.node c.text_of.ensures.text)

pub loop-k-preserved : goal.loop-k-preserved
loop-k-preserved c =
    let d = c.args.d.now in
    left_more c.loop-k.invariant _ _
    (from_next d.page.now d.table.now c.args.h _ c.row-last.ensures.node (omega arith) c.row.ensures.node c.text_of.ensures.text)
    c.copy-i.ensures

pub returns : goal.returns
returns c =
    let d = c.args.d.now in left_none c.loop-k.invariant (from_none d.page.now d.table.now c.args.h _ c.row-last.ensures.node (omega arith))
