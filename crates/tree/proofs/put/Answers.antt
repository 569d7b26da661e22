-- `tree::put` meets its contract: by the item.
use Rattle.std.proofs.Common.{Some}
use mathlib.Core.Path.{sym, ap}
use Rattle.rules.specs.Profile.{void_of}
use Rattle.rules.specs.Reader.{put}
use Rattle.tree.proofs.Steps.{held_moved, held_version, step_as, step_done}
use Rattle.tree.proofs.put.Goals as goal

pub returns-in-Text : goal.returns-in-Text
unfolding put
returns-in-Text c = step_as (λ t hd R H. rw (c.in-Text.is, ← H.at)) c.put_leaf.ensures

pub returns-in-Close : goal.returns-in-Close
returns-in-Close c =
    let void = void_of c.args.void.now.profile.bytes.now in
    step_as (λ t hd R H. ap (put void c.args.page.now R) (sym c.in-Close.is)) (c.close_tag.ensures void)

pub returns-in-Comment : goal.returns-in-Comment
unfolding put
returns-in-Comment c = step_as (λ t hd R H. rw c.in-Comment.is) c.put_leaf-in-Comment.ensures

pub returns-in-Doctype : goal.returns-in-Doctype
returns-in-Doctype c = step_done (ap Some c.set_version.ensures)
    (λ t hd R H. rw c.in-Doctype.is (held_version H _ c.args.page.now _ _))

pub returns-in-Tag : goal.returns-in-Tag
returns-in-Tag c = step_as (λ t hd R H. ap (put (void_of c.args.void.now.profile.bytes.now) c.args.page.now R) (sym c.in-Tag.is))
    c.put_tag.ensures

pub returns-in-Nothing : goal.returns-in-Nothing
unfolding put
returns-in-Nothing c = step_done (ap Some c.moved.ensures) (λ t hd R H. rw c.in-Nothing.is (held_moved H _))
