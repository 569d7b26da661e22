-- `vdom::query` meets its contract: the walk over the handles.
use Rattle.std.proofs.Common.{rules}
use Rattle.rules.specs.Query.{matches}
use Rattle.scan.specs.Marks.{white_in}
use Rattle.piece.specs.Words.{pieces_from}
use Rattle.vdom.proofs.query.Goals as goal

pub returns : goal.returns
returns c =
    let k = c.args.chain.now in
    let P = matches (white_in c.args.t.now) c.args.d.now.page.now k.text.now (pieces_from k.pieces k.words.now 0) in
    c.find_all.ensures P (λ n b e. search rules)
