-- `attributes::attributes` meets its contract: the attributes before those that are left were noted.
use mathlib.Core.Path.{◌≡◌}
use Rattle.scan.specs.Marks.{white_in}
use Rattle.attributes.proofs.Reading.{Reading}
use Rattle.attributes.proofs.attributes.Given as goal

abbrev pub invariant-loop-a : goal.invariant-loop-a
invariant-loop-a l = record {
  marks : l.a-iterator.marks.now ≡ l.t;
  page : l.a-iterator.page.now ≡ l.page;
  read : Reading (white_in l.t) l.page l.fn.tag.node.stop l.slots.names.text.now l.slots.names.ends.now l.a-iterator.at l.out;
}
