-- `lines::listing` meets its contract: the lines are written, and then they are counted.
use borrow.Author.Rules.{rules}
use Rattle.lines.proofs.Endings.{printed}
use Rattle.lines.proofs.listing.Goals as goal

pub returns : goal.returns
returns c =
    let p = printed c.new-writer.ensures.bytes c.new-writer.ensures.place c.put_listing.ensures c.finish.ensures.text in search (rules, p)
