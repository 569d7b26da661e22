-- `vdom::find_next` meets its contract: the first handle whose node passes, or none.
use Rattle.std.proofs.Common.{◌≡◌, true, false, ◌&&◌, ◌+◌, ◌-◌, arith, rules, sym, ◌∙◌}
use Rattle.std.proofs.lemmas.Bool.{and_left, and_right}
use Rattle.rules.specs.Table.{node_at}
use Rattle.rules.specs.Finds.{shows}
use Rattle.vdom.proofs.Walk.{nothing, passed, found_after, none_passed}
use Rattle.vdom.proofs.find_next.Goals.{else-shows-via-then-shows+else-test, else-shows-via-else-shows}
use Rattle.vdom.proofs.find_next.Goals as goal

pub loop-h-init : goal.loop-h-init
loop-h-init g c =
    let none : c.args.handles.start - c.args.handles.start ≡ 0 = omega arith in
    rw c.into_iter-h-iterator.ensures.into_iter_gives
    (record { low = omega arith; high = c.requires.rows.0; end = search rules; none = λ P f. rw none (nothing _ _) })

pub row-row-requires : goal.row-row-requires
row-row-requires g c =
    let l = c.loop-h.invariant in let s = c.in-Some.ensures.steps in omega (arith, s, l.low, l.end, c.requires.rows.1)

pub returns-then-test : goal.returns-then-test
returns-then-test g c =
    let l = c.loop-h.invariant in
    let s = c.in-Some.ensures.steps in
    record {
      within = omega (arith, s, l.low, l.end, c.row-row.ensures.last);
      first = λ P f.
          let n = node_at c.args.d.now.table.now c.in-Some.h in
          let seen : shows c.args.view n ≡ true = sym (rw c.row-row.ensures.node at c.shows.ensures) ∙ c.if-shows.true in
          let tested : P n ≡ true = sym (rw c.row-row.ensures.node at (f _ _ c.test.ensures)) ∙ c.if-test.true in
          let hit : (shows c.args.view n && P n) ≡ true = rw seen tested in
          found_after _ _ _ _ _ (omega (arith, s, l.low)) (omega (arith, s, l.low, l.end)) (l.none P f) hit;
    }

pub loop-h-preserved : goal.loop-h-preserved
loop-h-preserved g c =
    let l = c.loop-h.invariant in
    let s = c.in-Some.ensures.steps in
    let next : c.next.new.self.start - c.args.handles.start ≡ c.loop-h.h-iterator.start - c.args.handles.start + 1 = omega (arith, s, l.low) in
    record {
      low = omega (arith, s, l.low);
      high = omega (arith, s, l.end);
      end = omega (arith, s, l.end);
      none = λ P f.
          let n = node_at c.args.d.now.table.now c.in-Some.h in
          let miss : (shows c.args.view n && P n) ≡ false =
          elim c.else-shows.branch [
            | else-shows-via-then-shows+else-test w ↦
                and_right (shows c.args.view n) (P n) (sym (rw c.row-row.ensures.node at (f _ _ w.test.ensures)) ∙ w.if-test.false)
            | else-shows-via-else-shows w ↦ and_left (shows c.args.view n) (P n) (sym (rw c.row-row.ensures.node at c.shows.ensures) ∙ w.if-shows.false)
          ] in
          let h : c.in-Some.h ≡ c.args.handles.start + (c.loop-h.h-iterator.start - c.args.handles.start) = omega (arith, s, l.low) in
          rw next (passed _ _ _ (l.none P f) (rw h at miss));
    }

pub returns : goal.returns
returns g c =
    let l = c.loop-h.invariant in
    let all : c.loop-h.h-iterator.start ≡ c.args.handles.end = omega (arith, c.in-None.ensures.steps, l.high, l.end) in
    record { within = tt; first = λ P f. none_passed (rw all at (l.none P f)) }
