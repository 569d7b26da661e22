-- `sound::TableRows::tag_places` meets its contract (`tag_places`).
use mathlib.Core.Path.{ap, ◌∙◌}
use Rattle.rules.specs.declared.Node.{Node}
use Rattle.sound.proofs.Rows.{tag_places}
use Rattle.sound.proofs.TableRows.tag_places.Goals as goal

pub returns : goal.returns
returns c = let row = c.row-n.ensures in
    rw (← row) (tag_places c.args.self.now.len c.row-n.result (ap (λ (n : Node). n.kind) row ∙ c.requires.tag))
