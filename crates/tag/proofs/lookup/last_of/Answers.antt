-- `tag::lookup::last_of` meets its contract: the last of that name from `from` on is the last of those that are left, where `found` came before.
-- Where the name stands nowhere in the rest, that is `found`.
use mathlib.Core.Path.{◌≡◌, sym, ◌∙◌}
use lib.ListN.{length}
use Rattle.rules.specs.Lookup.{attributes, last_of}
use Rattle.laws.proofs.Opening.{last_out}
use Rattle.scan.specs.Marks.{white_in}
use Rattle.tag.specs.Tag.{left}
use Rattle.tag.proofs.lookup.last_of.Goals as goal

-- it has the name
pub returns-then-not-may_follow : goal.returns-then-not-may_follow
unfolding last_of attributes
returns-then-not-may_follow c = let s = c.in-Some.ensures.steps in
    let l = c.loop-a.invariant in
    let on : left c.next.new.self ≡ attributes (white_in c.args.t.now) c.args.page.now (length c.args.page.now) c.in-Some.a.next
    = rw (s.1.0, s.1.1, l.marks, l.page, s.1.2.0) in
    sym (l.same ∙ rw (s.0, sym c.is_named.ensures ∙ c.if-is_named.true, ← c.held-found.ensures, on)
    (last_out _ _ _ _ (c.may_follow.ensures c.if-not-may_follow.true) (rw l.page at s.1.2.1.next) _))

pub loop-a-preserved-else-not-may_follow : goal.loop-a-preserved-else-not-may_follow
unfolding last_of attributes
loop-a-preserved-else-not-may_follow c = let s = c.in-Some.ensures.steps in
    let l = c.loop-a.invariant in
    record {
      marks = rw s.1.0 l.marks;
      page = rw s.1.1 l.page;
      same = l.same ∙ rw (s.0, sym c.is_named.ensures ∙ c.if-is_named.true, ← c.held-found.ensures);
    }

-- it has another
pub loop-a-preserved : goal.loop-a-preserved
unfolding last_of attributes
loop-a-preserved c = let s = c.in-Some.ensures.steps in
    let l = c.loop-a.invariant in
    record {
      marks = rw s.1.0 l.marks;
      page = rw s.1.1 l.page;
      same = l.same ∙ rw (s.0, sym c.is_named.ensures ∙ c.if-is_named.false);
    }

pub returns : goal.returns
unfolding last_of
returns c = sym (c.loop-a.invariant.same ∙ rw c.in-None.ensures.steps.0.0)
