-- `tag::lookup::held` meets its contract: by the two cases of a value.
use mathlib.Core.Path.{ap, sym}
use Rattle.rules.specs.Lookup.{held_as}
use Rattle.tag.proofs.lookup.held.Goals as goal

pub returns-in-Some : goal.returns-in-Some
returns-in-Some c = sym (ap (held_as c.args.bare) c.in-Some.is)
