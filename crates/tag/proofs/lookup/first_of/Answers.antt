-- `tag::lookup::first_of` meets its contract: the first of that name from `from` on is the first of those that are left.
use mathlib.Core.Path.{sym, ◌∙◌}
use Rattle.rules.specs.Lookup.{first_of}
use Rattle.tag.proofs.lookup.first_of.Goals as goal

pub returns-then-is_named : goal.returns-then-is_named
unfolding first_of
returns-then-is_named c = c.held.ensures
    ∙ sym (c.loop-a.invariant.same ∙ rw (c.in-Some.ensures.steps.0, sym c.is_named.ensures ∙ c.if-is_named.true))

pub loop-a-preserved : goal.loop-a-preserved
unfolding first_of
loop-a-preserved c = let s = c.in-Some.ensures.steps in
    record {
      page = rw s.1.1 c.loop-a.invariant.page;
      same = c.loop-a.invariant.same ∙ rw (s.0, sym c.is_named.ensures ∙ c.if-is_named.false);
    }

pub returns : goal.returns
unfolding first_of
returns c = sym (c.loop-a.invariant.same ∙ rw c.in-None.ensures.steps.0.0)
