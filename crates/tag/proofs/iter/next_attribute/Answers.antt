-- `tag::iter::next_attribute` meets its contract: by the test for an attribute after the white.
use mathlib.Core.Path.{sym, ◌∙◌}
use Rattle.tag.specs.Tag.{next_attribute}
use Rattle.tag.proofs.iter.next_attribute.Goals as goal

pub returns-then-not-starts_attribute : goal.returns-then-not-starts_attribute
unfolding next_attribute
returns-then-not-starts_attribute c =
    rw (← c.skip_whitespaces-at.ensures, sym c.starts_attribute.ensures ∙ c.if-not-starts_attribute.true)

pub returns : goal.returns
unfolding next_attribute
returns c =
    rw (← c.skip_whitespaces-at.ensures, sym c.starts_attribute.ensures ∙ c.if-not-starts_attribute.false, c.parse_attribute.ensures)
