-- `tag::lookup::last_of` meets its contract: the last of that name from `from` on is the last of those that are left, where `found` came before.
use mathlib.Core.Path.{◌≡◌}
use Rattle.rules.specs.Lookup.{attributes, last_of}
use Rattle.rules.specs.declared.Held.TheVariants.{Absent}
use lib.ListN.{length}
use Rattle.scan.specs.Marks.{white_in}
use Rattle.tag.specs.Tag.{left}
use Rattle.tag.proofs.lookup.last_of.Given as goal

abbrev pub invariant-loop-a : goal.invariant-loop-a
invariant-loop-a l = record {
  marks : l.a-iterator.marks.now ≡ l.t;
  page : l.a-iterator.page.now ≡ l.page;
  same : last_of (white_in l.t) l.page l.name Absent (attributes (white_in l.t) l.page (length l.page) l.from)
      ≡ last_of (white_in l.t) l.page l.name l.found (left l.a-iterator);
}
