-- `lexer::skip_attributes` meets its contract: the attributes from `from` on end where those do from a place on after which, past
-- white, the loop stands.
use mathlib.Core.Path.{sym, ◌∙◌}
use native.Mathlib.Omega.{arith}
use Rattle.rules.proofs.Runs.{skip_ge, skip_le}
use Rattle.scan.specs.Marks.{white_in}
use Rattle.lexer.proofs.Attributes.{Further, attributes_stop, attributes_more}
use Rattle.lexer.proofs.skip_attributes.Goals as goal
use Rattle.lexer.proofs.skip_attributes.Goals.{After-parse_attribute-a}

-- the run goes on after the attribute that was read
further : (c : After-parse_attribute-a)
    → Further (white_in c.args.t.now) c.args.s.now c.loop-a.invariant.0 c.loop-a.at c.parse_attribute-a.result.next
further c =
    let l = c.loop-a.invariant in
    attributes_more _ c.args.s.now l.1 l.2 (sym c.starts_attribute.ensures ∙ c.loop-a-test.true) c.parse_attribute-a.ensures

pub loop-a-smaller : goal.loop-a-smaller
loop-a-smaller c = let n = further (goal.at.loop-a-smaller c).After-parse_attribute-a in
    omega (arith, c.skip_whitespaces-at-in-loop-a.ensures, skip_ge, skip_le)

pub loop-a-preserved : goal.loop-a-preserved
loop-a-preserved c = let n = further (goal.at.loop-a-preserved c).After-parse_attribute-a in
    (c.parse_attribute-a.result.next, n.within, c.skip_whitespaces-at-in-loop-a.ensures, c.loop-a.invariant.3 ∙ n.same)

pub returns : goal.returns
returns c = let l = c.loop-a.invariant in
    attributes_stop _ c.args.s.now l.1 l.2 (sym c.starts_attribute.ensures ∙ c.loop-a-test.false) ∙ sym l.3
