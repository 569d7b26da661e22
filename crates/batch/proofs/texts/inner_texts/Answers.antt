-- `batch::texts::inner_texts` meets its contract: the answer and the two buffers, as they are defined.
use Rattle.std.proofs.Common.{rules, sym, ◌∙◌}
use Rattle.rules.specs.Profile.{settings_of}
use Rattle.rules.specs.Batch.{some, batch_answer, texts_answer, texts_buffer, ends_buffer}
use Rattle.rules.specs.Refusals.{not_a_tag}
use Rattle.rules.proofs.Asking.{refused_also}
use Rattle.batch.proofs.texts.inner_texts.Goals as goal

pub returns-in-Err : goal.returns-in-Err
unfolding batch_answer texts_answer texts_buffer ends_buffer
returns-in-Err c =
    let a = c.args in
    let r = c.refuse_texts.ensures in
    let t = some (not_a_tag a.table.now) a.handles.now in
    let e = refused_also (settings_of a.profile.now) a.page.now a.table.now t (sym c.in-Err.ensures.answer) _ in
    record { is = r.is ∙ sym e; ends_left = r.ends_left ∙ rw e; out_left = r.out_left ∙ rw e }

pub returns-in-Ok : goal.returns-in-Ok
unfolding batch_answer texts_answer texts_buffer ends_buffer
returns-in-Ok c = search rules
