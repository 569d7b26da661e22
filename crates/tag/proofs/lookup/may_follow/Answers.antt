-- `tag::lookup::may_follow` meets its contract: what is left is too short for the name, or the quick test says it.
use lib.ListN.{length}
use Rattle.rules.proofs.Within.{too_short}
use Rattle.tag.proofs.lookup.may_follow.Goals as goal

pub returns-then-page-i : goal.returns-then-page-i
returns-then-page-i c = λ z.
    too_short c.args.page.now c.args.i (length c.args.page.now) c.requires c.if-page-i.true
