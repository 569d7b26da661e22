-- `tag::lookup::get` meets its contract: the definition's test of the name is the code's.
use mathlib.Core.Path.{sym, ◌∙◌}
use Rattle.rules.specs.Lookup.{lookup_from}
use Rattle.tag.proofs.lookup.get.Goals as goal

pub returns-then-is_last : goal.returns-then-is_last
unfolding lookup_from
returns-then-is_last c = rw (sym c.is_last.ensures ∙ c.if-is_last.true) c.last_of.ensures

pub returns : goal.returns
unfolding lookup_from
returns c = rw (sym c.is_last.ensures ∙ c.if-is_last.false) c.first_of.ensures
