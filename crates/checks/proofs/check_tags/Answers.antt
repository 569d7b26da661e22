-- `checks::check_tags` meets its contract: what `check` answered, and then the test of the handles.
use Rattle.rules.specs.Profile.{settings_of}
use Rattle.checks.proofs.Testing.{tags_told}
use Rattle.checks.proofs.check_tags.Goals as goal

pub invariant_of-result-clause-each : goal.invariant_of-result-clause-each
invariant_of-result-clause-each c = c.all_tags.ensures.0 c.if-all_tags.true

pub returns-then-all_tags-clause-answer : goal.returns-then-all_tags-clause-answer
returns-then-all_tags-clause-answer c =
    let a = c.args in
    let d = c.in_ok-c.ensures in
    tags_told a.table.now (settings_of a.profile.now) a.page.now a.handles.now _ d.answer d.lent.2 c.if-all_tags.ensures

pub returns-clause-answer : goal.returns-clause-answer
returns-clause-answer c =
    let a = c.args in
    let d = c.in_ok-c.ensures in
    tags_told a.table.now (settings_of a.profile.now) a.page.now a.handles.now _ d.answer d.lent.2 c.if-all_tags.ensures
