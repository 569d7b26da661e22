-- `lexer::read_markdown` meets its contract: by the test for `--`.
use Rattle.lexer.proofs.Markup.{bang_comment, bang_other}
use Rattle.lexer.proofs.read_markdown.Goals as goal

pub returns-then-is_comment : goal.returns-then-is_comment
returns-then-is_comment c = bang_comment _ c.args.s.now c.requires.1 c.is_comment.ensures c.if-is_comment.true c.skip_comment_with_start.ensures

pub returns : goal.returns
returns c = bang_other _ c.args.s.now c.requires.1 c.is_comment.ensures c.if-is_comment.false c.read_doctype.ensures
