-- `lexer::item_at` meets its contract: by the test for `<`.
use Rattle.lexer.proofs.Markup.{item_markup, item_text}
use Rattle.lexer.proofs.item_at.Goals as goal

pub returns-then-is_at : goal.returns-then-is_at
returns-then-is_at c = item_markup _ c.args.s.now _ c.is_at.ensures c.if-is_at.true c.parse_tag.ensures

pub returns : goal.returns
returns c = item_text _ c.args.s.now _ c.is_at.ensures c.if-is_at.false c.find.ensures
