-- `calls::query_selector_below` meets its contract: the refusals first, then the walk over the handles after h up to its last.
use Rattle.std.proofs.Common.{◌≡◌, ◌+◌, ◌-◌, arith, sym, ap, ◌∙◌, add-one, length}
use Rattle.rules.specs.Profile.{settings_of}
use Rattle.rules.specs.Query.{below_tag}
use Rattle.rules.specs.Sound.{last_at}
use Rattle.rules.specs.Answers.{selected, query_below_answer, query_below_buffer}
use Rattle.rules.specs.declared.Node.{Node}
use Rattle.rules.proofs.Asking.{was_fine_tag, answered_tag, refused_tag, leaves_refused}
use Rattle.calls.proofs.query_selector_below.Goals as goal

pub returns-in-Err : goal.returns-in-Err
unfolding query_below_answer query_below_buffer
returns-in-Err c =
    let a = c.args in
    let e = refused_tag (settings_of a.profile.now) a.page.now a.table.now a.h (sym c.in-Err.ensures.answer) _ in
    leaves_refused a.out.now _ e c.refuse.ensures

pub returns-in-Ok : goal.returns-in-Ok
unfolding query_below_answer query_below_buffer
returns-in-Ok c =
    let f = settings_of c.args.profile.now in
    let p = c.args.page.now in
    let ws = c.args.table.now in
    let h = c.args.h in
    let lent = c.in-Ok.ensures.lent in
    let node = rw lent.2 at c.row-last.ensures.node in
    let last : c.row-last.result.last ≡ last_at ws h = ap (λ (n : Node). n.last) node in
    let below : c.row-last.result.last + 1 - (h + 1) ≡ last_at ws h - h = omega arith in
    let w = rw (lent.0, lent.1, lent.2, below, add-one) at c.select.ensures in
    let found = selected (below_tag f.white p ws c.args.view c.args.s.now h) c.args.s.now (length c.args.out.now) in
    let e = answered_tag f p ws h found (was_fine_tag f p ws h (sym c.in-Ok.ensures.answer)) in
    record { is = w.is ∙ sym e; left = w.left ∙ rw (e, w.is) }
