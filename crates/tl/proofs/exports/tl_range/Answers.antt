-- `tl::tl_range` meets its contract: what the call answers, in numbers.
use mathlib.Core.Path.{refl, ◌∙◌, sym}
use Rattle.rules.specs.Profile.{settings_of}
use Rattle.rules.specs.Refusals.{ranged_numbers}
use Rattle.tl.proofs.Left.{several}
use Rattle.tl.proofs.Ranges.{ascends_at}
use Rattle.tl.proofs.exports.tl_range.Goals as goal

pub map-requires : goal.map-requires
map-requires c = let a = c.args in λ x e. ascends_at (settings_of a.profile.now) a.page.now a.table.now a.h (sym c.range.ensures ∙ e)

pub returns : goal.returns
returns c = several ranged_numbers 3 (λ x. refl) _ c.range.ensures c.map.ensures.cases c.leave.ensures.ok c.leave.ensures.err
