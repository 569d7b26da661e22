-- `tag::lookup::first_of` meets its contract: the first of that name from `from` on is the first of those that are left.
use mathlib.Core.Path.{◌≡◌}
use Rattle.rules.specs.Lookup.{attributes, first_of}
use lib.ListN.{length}
use Rattle.scan.specs.Marks.{white_in}
use Rattle.tag.specs.Tag.{left}
use Rattle.tag.proofs.lookup.first_of.Given as goal

abbrev pub invariant-loop-a : goal.invariant-loop-a
invariant-loop-a l = record {
  page : l.a-iterator.page.now ≡ l.page;
  same : first_of (white_in l.t) l.page l.name (attributes (white_in l.t) l.page (length l.page) l.from)
      ≡ first_of (white_in l.t) l.page l.name (left l.a-iterator);
}
