-- `tag::below::text_length` meets its contract: the size so far and the length of the text from row k on are the whole length. A text's size
-- and a row's number are below 2^32, so the sum fits.
use Rattle.std.proofs.Common.{◌+◌, arith, ap, length}
use Rattle.std.proofs.lemmas.List.{length-append}
use Rattle.rules.proofs.Text.{text_from}
use Rattle.tag.proofs.Texts.{from_all, from_none, from_next}
use Rattle.tag.proofs.below.text_length.Goals as goal

pub loop-k-init : goal.loop-k-init
loop-k-init c = let d = c.args.d.now in
    let all = ap length (from_all d.page.now d.table.now c.args.h) in (omega arith, omega arith)

pub loop-k-preserved : goal.loop-k-preserved
loop-k-preserved c =
    let d = c.args.d.now in
    let p = d.page.now in
    let ws = d.table.now in
    let cut = ap length (from_next p ws c.args.h _ c.row-last.ensures.node (omega arith) c.row.ensures.node c.text_of.ensures.text) in
    let sum = length-append c.text_of.result.now (text_from p ws c.args.h (c.loop-k.k + 1)) in
    (omega arith, omega arith)

pub returns : goal.returns
returns c = let d = c.args.d.now in
    let none = ap length (from_none d.page.now d.table.now c.args.h c.loop-k.k c.row-last.ensures.node (omega arith)) in omega arith
