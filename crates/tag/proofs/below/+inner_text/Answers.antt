-- The cycle of calls {inner_text}: what is left to be written, from i on, is the text after row k; a child's piece of it is what lies
-- below the child, or its own text.
use Rattle.std.proofs.Common.{arith, ◌≡◌, ◌+◌, sym, ap, ◌∙◌}
use Rattle.rules.specs.Sound.{last_at}
use Rattle.rules.specs.Text.{inner_text}
use Rattle.rules.specs.declared.Node.{Node}
use Rattle.rules.proofs.Buffers.{left_all, left_as, left_room, left_more, left_none}
use Rattle.tag.proofs.Texts.{after, after_all, after_none, after_tag, after_leaf, walk, walk_child}
use Rattle.tag.proofs.below.+inner_text.Goals as goal
use Rattle.tag.proofs.below.+inner_text.Goals.{then-is_tag, else-is_tag}

pub loop-k-init : goal.loop-k-init
loop-k-init t c =
    let d = c.args.d.now in
    let all = left_all c.args.out.now c.args.at _ c.requires.room in (
      walk d.page.now d.table.now d.fits c.requires.handle c.row-last.ensures.node,
      left_as all (sym (after_all d.page.now d.table.now c.args.h)),
    )

pub inner_text-i-requires : goal.inner_text-i-requires
inner_text-i-requires t c =
    let p = c.args.d.now.page.now in
    let ws = c.args.d.now.table.now in
    let fits = c.args.d.now.fits in
    let l = c.loop-k in
    let w = l.invariant.0 in
    let more = c.loop-k-test.true in
    let n = c.row-n in
    let up = walk_child p ws fits w more n.ensures.node in
    let own : n.result.last ≡ last_at ws (l.k + 1) = ap (λ (n : Node). n.last) n.ensures.node in
    let cut = after_tag p ws fits w more n.ensures.node (sym c.is_tag.ensures ∙ c.if-is_tag.true) in (
      omega (arith, c.decreases, w.top, w.low, up.high),
      (omega (arith, w.count), left_room l.invariant.1 (inner_text p ws (l.k + 1)) (after p ws c.args.h n.result.last) cut),
    )

pub copy-i-requires : goal.copy-i-requires
copy-i-requires t c =
    let p = c.args.d.now.page.now in
    let ws = c.args.d.now.table.now in
    let l = c.loop-k in
    let cut = after_leaf p ws c.args.d.now.fits l.invariant.0 c.loop-k-test.true c.row-n.ensures.node (sym c.is_tag.ensures ∙ c.if-is_tag.false) in
    left_room l.invariant.1 _ _ (rw (← c.text_of.ensures.text) at cut)

pub loop-k-preserved : goal.loop-k-preserved
loop-k-preserved t c =
    let p = c.args.d.now.page.now in
    let ws = c.args.d.now.table.now in
    let l = c.loop-k in
    let w = l.invariant.0 in
    let more = c.loop-k-test.true in
    let n = c.row-n.ensures.node in
    let s = c.args.d.now.fits in (
      walk_child p ws s w more n,
      elim c.if-is_tag.branch [
        | then-is_tag w' ↦ rw (w'.out-is, w'.i-is)
            (left_more l.invariant.1 _ _ (after_tag p ws s w more n (sym c.is_tag.ensures ∙ w'.if-is_tag.true)) w'.inner_text-i.ensures)
        | else-is_tag w' ↦ rw (w'.out-is, w'.i-is)
            (left_more l.invariant.1 _ _
            (rw (← w'.text_of.ensures.text) at (after_leaf p ws s w more n (sym c.is_tag.ensures ∙ w'.if-is_tag.false)))
            w'.copy-i.ensures)
      ],
    )

pub returns : goal.returns
returns t c =
    left_none c.loop-k.invariant.1 (after_none c.args.d.now.page.now c.args.d.now.table.now c.loop-k.invariant.0 (omega (arith, c.loop-k-test.false)))
