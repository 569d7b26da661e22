-- `lexer::end_tag` meets its contract: by what was expected.
use Rattle.rules.proofs.Places.{was_next, was_other}
use Rattle.lexer.proofs.end_tag.Goals as goal

pub returns-in_default : goal.returns-in_default
returns-in_default c = rw (was_other 62 c.args.s.now _ _ c.expect_and_skip.ensures c.in_default.is)

pub returns : goal.returns
returns c = let S = was_next 62 c.args.s.now _ _ c.expect_and_skip.ensures _ c.in-Some.is in
    rw (S.there, S.after)
