-- `batch::names::read_names` meets its contract: the words of the handles that were passed are written, the others are zero yet.
use Rattle.std.proofs.Common.{rules, refl, arith, ◌∙◌, ◌*◌, length}
use Rattle.rules.specs.Batch.{names_found}
use Rattle.checks.proofs.Passed.{tags_short}
use Rattle.batch.proofs.Words.{words, words_length, words_held}
use Rattle.batch.proofs.Cleared.{done_none, done_all, done_zeros, done_more}
use Rattle.batch.proofs.names.read_names.Goals as goal

pub loop-h-init : goal.loop-h-init
loop-h-init c =
    let a = c.args in
    let names = a.names.now in
    let q = a.tags.now.profile.bytes.now in
    let d = a.tags.now.document in (
      refl,
      done_none (words q d.page.now d.table.now names.text.now names.ends.now) (3 * length names.ends.now)
          (words_length q d.page.now d.table.now names.text.now names.ends.now) a.tags.now.handles.now a.out.now c.requires.zeros,
    )

pub attributes-requires-clause-inside : goal.attributes-requires-clause-inside
attributes-requires-clause-inside c =
    rw c.of-tag.ensures.0 (tags_short c.args.tags.now)

pub attributes-requires-clause-zeros : goal.attributes-requires-clause-zeros
attributes-requires-clause-zeros c = rw c.len.ensures (done_zeros _ _ _ _ c.loop-h.invariant.1 (omega arith))

pub loop-h-preserved : goal.loop-h-preserved
loop-h-preserved c =
    let a = c.args in
    let names = a.names.now in
    let q = a.tags.now.profile.bytes.now in
    let d = a.tags.now.document in
    let held = words_held q d.page.now d.table.now names.text.now names.ends.now _ c.marks-t.ensures c.of-tag.ensures.1 in
    (search rules, rw c.len.ensures (done_more _ _ _ _ c.loop-h.invariant.1 (omega arith) _ (rw c.of-tag.ensures.0 at c.attributes.ensures ∙ held)))

pub returns : goal.returns
unfolding names_found
returns c = done_all _ _ _ _ c.loop-h.invariant.1 (omega arith)
