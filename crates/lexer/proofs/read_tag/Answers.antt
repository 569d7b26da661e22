-- `lexer::read_tag` meets its contract: by the test for `/`.
use Rattle.rules.specs.Bytes.{is_ident}
use Rattle.rules.proofs.Runs.{skip_le}
use Rattle.lexer.proofs.Markup.{tag_slash, tag_plain}
use Rattle.lexer.proofs.read_tag.Goals as goal

pub parse_attributes-a-requires : goal.parse_attributes-a-requires
parse_attributes-a-requires c = rw c.search_non_ident-e.ensures (skip_le is_ident c.args.s.now _ c.requires)

pub returns-then-is_at : goal.returns-then-is_at
returns-then-is_at c = tag_slash _ c.args.s.now _ c.search_non_ident-e.ensures c.parse_attributes-a.ensures c.is_at.ensures
    c.if-is_at.true c.end_tag.ensures

pub returns : goal.returns
returns c = tag_plain _ c.args.s.now _ c.search_non_ident-e.ensures c.parse_attributes-a.ensures c.is_at.ensures
    c.if-is_at.false c.end_tag-2.ensures
