-- `vdom::find_next` meets its contract: none of the handles that were passed has a node that passes the test.
use Rattle.std.proofs.Common.{◌≡◌, Bool, ◌-◌, ◌≤◌, []}
use Rattle.rules.specs.Lists.{from}
use Rattle.rules.specs.Finds.{passing}
use Rattle.rules.specs.declared.Node.{Node}
use Rattle.vdom.proofs.find_next.Given as goal

abbrev pub invariant-loop-h : goal.invariant-loop-h
invariant-loop-h g l = record {
  low : l.fn.handles.start ≤ l.h-iterator.start;
  high : l.h-iterator.start ≤ l.fn.handles.end;
  end : l.h-iterator.end ≡ l.fn.handles.end;
  none : (P : Node → Bool) → ((n : Node) (b : Bool) → goal.F-post g l.test n b → b ≡ P n)
      → passing l.view P l.d.table.now (from l.fn.handles.start (l.h-iterator.start - l.fn.handles.start)) ≡ [];
}
