-- `attributes::attributes` meets its contract: a tag without what all names begin with has none of them; of another, the attributes before
-- those that are left were noted.
use Rattle.std.proofs.Common.{◌≡◌, rules, arith, ap, ◌∙◌, length}
use Rattle.rules.specs.Lookup.{up_to}
use Rattle.tag.proofs.Looks.{length_up_to}
use Rattle.scan.specs.Marks.{white_in}
use Rattle.attributes.proofs.Alike.{absent_words}
use Rattle.attributes.proofs.Reading.{placed, reading_none, reading_more, reading_all}
use Rattle.attributes.proofs.attributes.Goals as goal

pub returns-then-not-may_have_any : goal.returns-then-not-may_have_any
returns-then-not-may_have_any c =
    let a = c.args in
    let tag = a.tag.now in
    let names = a.slots.now.names in
    c.requires.zeros
    ∙ absent_words (white_in a.t.now) tag.page.now tag.node tag.opening.0 tag.opening.1 names.text.now names.ends.now a.first.now c.requires.alike
    (c.may_have_any.ensures c.if-not-may_have_any.true)

pub loop-a-init : goal.loop-a-init
loop-a-init c =
    let a = c.args in
    let tag = a.tag.now in
    let names = a.slots.now.names in
    let e = c.attributes-attributes.ensures in
    let size = length_up_to tag.page.now tag.node tag.opening.1 in
    let at : c.into_iter-a-iterator.result.at ≡ tag.node.stop = search rules in
    record {
      marks = search rules;
      page = search rules;
      read =
          rw (e.1, at)
          (reading_none (white_in a.t.now) (up_to tag.page.now tag.node) tag.node.stop names.text.now names.ends.now (omega arith) c.requires.zeros);
    }

pub note_all-requires : goal.note_all-requires
note_all-requires c =
    let l = c.loop-a.invariant in
    let s = c.in-Some.ensures.steps in
    let tag = c.args.tag.now in
    let size = ap length c.attributes-attributes.ensures.1 ∙ length_up_to tag.page.now tag.node tag.opening.1 in
    (l.read.size, placed _ _ _ (rw (s.1.0, s.1.1, l.marks, l.page, s.1.2.0) at s.0) (rw l.page at s.1.2.1) (omega (arith, size)))

pub loop-a-preserved : goal.loop-a-preserved
loop-a-preserved c =
    let l = c.loop-a.invariant in
    let s = c.in-Some.ensures.steps in
    record {
      marks = rw s.1.0 l.marks;
      page = rw s.1.1 l.page;
      read =
          rw s.1.2.0
          (reading_more _ _ _ _ _ l.read (rw (s.1.0, s.1.1, l.marks, l.page, s.1.2.0) at s.0) (rw l.page at s.1.2.1) c.note_all.auto.out c.note_all.ensures);
    }

pub returns : goal.returns
returns c =
    let l = c.loop-a.invariant in
    rw c.attributes-attributes.ensures.1 at (reading_all _ _ _ _ _ l.read (rw (l.marks, l.page) at c.in-None.ensures.steps.0.0))
