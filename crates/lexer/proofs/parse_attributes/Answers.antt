-- `lexer::parse_attributes` meets its contract: none starts after the white, or the loop reads them from there on.
use mathlib.Core.Path.{sym, ◌∙◌}
use native.Mathlib.Omega.{arith}
use Rattle.rules.proofs.Runs.{skip_le}
use Rattle.scan.specs.Marks.{white_in}
use Rattle.lexer.proofs.Attributes.{attributes_stop, attributes_on}
use Rattle.lexer.proofs.parse_attributes.Goals as goal

pub skip_attributes-requires : goal.skip_attributes-requires
skip_attributes-requires c = omega (arith, c.skip_whitespaces-at.ensures, skip_le (white_in c.args.t.now) c.args.s.now c.args.from c.requires)

pub returns-then-starts_attribute : goal.returns-then-starts_attribute
returns-then-starts_attribute c =
    c.skip_attributes.ensures ∙ attributes_on (white_in c.args.t.now) c.args.s.now c.requires c.skip_whitespaces-at.ensures

pub returns : goal.returns
returns c = attributes_stop _ c.args.s.now c.requires c.skip_whitespaces-at.ensures (sym c.starts_attribute.ensures ∙ c.if-starts_attribute.false)
