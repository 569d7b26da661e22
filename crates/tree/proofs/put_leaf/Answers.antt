-- `tree::put_leaf` meets its contract: the row was written, or the reading has more nodes than there are rows.
use Rattle.std.proofs.Common.{Some, ap}
use Rattle.tree.proofs.Steps.{step_done, held_leaf}
use Rattle.tree.proofs.put_leaf.Goals as goal

pub returns : goal.returns
returns c = step_done (ap Some c.added.ensures) (λ t hd R H. held_leaf H (c.register_tag.ensures.row c.in_ok-register_tag.was))
