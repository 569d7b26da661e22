-- `calls::inner_text` meets its contract: what the check refused.
use Rattle.std.proofs.Common.{sym}
use Rattle.rules.specs.Profile.{settings_of}
use Rattle.rules.specs.Answers.{text_answer, text_buffer}
use Rattle.rules.proofs.Asking.{refused_tag, leaves_refused}
use Rattle.calls.proofs.inner_text.Goals as goal

pub returns-in-Err : goal.returns-in-Err
unfolding text_answer text_buffer
returns-in-Err c =
    let a = c.args in
    let e = refused_tag (settings_of a.profile.now) a.page.now a.table.now a.h (sym c.in-Err.ensures.answer) _ in
    leaves_refused a.out.now _ e c.refuse.ensures
