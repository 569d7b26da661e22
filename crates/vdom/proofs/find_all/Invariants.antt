-- `vdom::find_all` meets its contract: what was found so far stands at the front of the buffer (`Walked`).
use Rattle.std.proofs.Common.{◌≡◌, Bool, ◌-◌, ◌≤◌}
use Rattle.rules.specs.Lists.{from}
use Rattle.rules.specs.Finds.{passing}
use Rattle.rules.specs.declared.Node.{Node}
use Rattle.vdom.proofs.Walk.{Walked}
use Rattle.vdom.proofs.find_all.Given as goal

abbrev pub invariant-loop-h : goal.invariant-loop-h
invariant-loop-h g l = record {
  low : l.fn.handles.start ≤ l.rest.start;
  high : l.rest.start ≤ l.rest.end;
  end : l.rest.end ≡ l.fn.handles.end;
  walked : (P : Node → Bool) → ((n : Node) (b : Bool) → goal.F-post g l.test n b → b ≡ P n)
      → let ws = l.d.table.now in
      Walked (passing l.view P ws (from l.fn.handles.start (l.fn.handles.end - l.fn.handles.start))) l.initial.out l.out l.n
      (passing l.view P ws (from l.rest.start (l.rest.end - l.rest.start)));
}

abbrev pub decreases-loop-h : goal.decreases-loop-h
decreases-loop-h g l = l.rest.end - l.rest.start
