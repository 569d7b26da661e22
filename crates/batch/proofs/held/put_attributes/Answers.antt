-- `batch::held::put_attributes` meets its contract: what is left to be written, from `at` on, is what the handles that are left hold.
use Rattle.std.proofs.Common.{arith, get_or}
use Rattle.rules.specs.Lists.{each}
use Rattle.rules.specs.Batch.{attributes_found}
use Rattle.rules.proofs.Buffers.{left_all}
use Rattle.checks.proofs.Passed.{tags_short}
use Rattle.batch.proofs.Handles.{room_next, left_next, left_end, length_each}
use Rattle.batch.proofs.Three.{three, three_length, three_held, held_inside}
use Rattle.batch.proofs.held.put_attributes.Goals as goal

pub loop-h-init : goal.loop-h-init
loop-h-init c =
    let d = c.args.tags.now.document in
    let hs = c.args.tags.now.handles.now in
    let F = three c.args.tags.now.profile.bytes.now d.page.now d.table.now c.args.name.now in
    let n = length_each F 3 (three_length c.args.tags.now.profile.bytes.now d.page.now d.table.now c.args.name.now) hs in
    left_all c.args.out.now 0 (each F hs) (omega arith)

pub put_held-at-requires : goal.put_held-at-requires
put_held-at-requires c =
    let t = c.args.tags.now in
    let q = t.profile.bytes.now in
    let p = t.document.page.now in
    let ws = t.document.table.now in
    let k = c.args.name.now in
    let l = c.loop-h in
    let h = get_or t.handles.now l.h-index 0 in
    let room = room_next t.handles.now l.h-index (three q p ws k) l.invariant (omega arith) in
    let size = three_length q p ws k h in
    (held_inside (rw c.of.ensures.0 at c.attribute.ensures.held) (tags_short t), omega arith)

pub loop-h-preserved : goal.loop-h-preserved
loop-h-preserved c =
    let t = c.args.tags.now in
    let q = t.profile.bytes.now in
    let p = t.document.page.now in
    let ws = t.document.table.now in
    let k = c.args.name.now in
    let l = c.loop-h in
    let h = get_or t.handles.now l.h-index 0 in
    let held = three_held q p ws k h c.marks-t.ensures c.of.ensures.1 (rw c.of.ensures.0 at c.attribute.ensures.held) in
    left_next t.handles.now l.h-index (three q p ws k) l.invariant (omega arith) (rw held c.put_held-at.ensures)

pub returns : goal.returns
unfolding attributes_found
returns c =
    let t = c.args.tags.now in
    let d = t.document in
    left_end t.handles.now c.loop-h.h-index (three t.profile.bytes.now d.page.now d.table.now c.args.name.now) c.loop-h.invariant (omega arith)
