-- `lines::refused` meets its contract: the line is written, and then it is counted.
use borrow.Author.Rules.{rules}
use Rattle.lines.proofs.Endings.{printed}
use Rattle.lines.proofs.refused.Goals as goal

pub returns : goal.returns
returns c =
    let put = rw c.from.ensures at c.put_refused.ensures in
    let p = printed c.new-writer.ensures.bytes c.new-writer.ensures.place put c.finish.ensures.text in search rules
