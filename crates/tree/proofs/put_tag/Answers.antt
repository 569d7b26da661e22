-- `tree::put_tag` meets its contract: the row was written, or the reading has more nodes than there are rows.
use Rattle.std.proofs.Common.{Some, ap}
use mathlib.Core.Bool.{◌||◌}
use Rattle.rules.specs.Scan.{part}
use Rattle.rules.specs.Profile.{void_of}
use Rattle.rules.specs.Reader.{tag_node, put}
use Rattle.tree.proofs.Steps.{step_done, step_full, held_tag, full_next}
use Rattle.tree.proofs.put_tag.Goals as goal

pub returns-then-shut : goal.returns-then-shut
returns-then-shut c = let shut = c.if-shut.true in
    step_done (ap Some c.added.ensures)
    (λ t hd R H. held_tag H _ c.args.page.now _ (rw c.is_void.ensures at shut)
    (rw (c.ended_new-ended.ensures, shut) at (c.register_tag.ensures.row c.in_ok-register_tag.was)))

pub returns : goal.returns
returns c = let opened = c.if-shut.false in
    step_done (ap Some c.added-2.ensures)
    (λ t hd R H. held_tag H _ c.args.page.now _ (rw c.is_void.ensures at opened)
    (rw (c.ended_new-ended.ensures, opened) at (c.register_tag.ensures.row c.in_ok-register_tag.was)))

pub returns-in_err-register_tag : goal.returns-in_err-register_tag
unfolding put
returns-in_err-register_tag c = let a = c.args in
    rw c.from_residual.ensures
    (step_full
    (λ t hd R H. full_next H (tag_node R a.a a.e a.next (a.slash || void_of a.void.now.profile.bytes.now (part a.page.now a.a a.e)))
    (c.register_tag.ensures.full c.in_err-register_tag.was)))
