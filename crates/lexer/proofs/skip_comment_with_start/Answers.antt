-- `lexer::skip_comment_with_start` meets its contract: by the end at `at`, or the search.
use Rattle.lexer.proofs.Comment.{comment_at_once}
use Rattle.lexer.proofs.skip_comment_with_start.Goals as goal

pub returns-then-is_at : goal.returns-then-is_at
returns-then-is_at c = comment_at_once c.args.s.now _ _ c.is_comment.ensures c.if-is_comment.true c.is_at.ensures c.if-is_at.true
