-- `lexer::parse_tag` meets its contract: by the byte that was read after white.
use native.Mathlib.Omega.{arith}
use Rattle.rules.proofs.Places.{Read, was_byte, was_end}
use Rattle.lexer.proofs.Markup.{markup_end, markup_close, markup_bang, markup_tag}
use Rattle.lexer.proofs.parse_tag.Goals as goal
use Rattle.lexer.proofs.parse_tag.Goals.{In-Some}

pub returns-in_default : goal.returns-in_default
returns-in_default c = let p = c.args.s.now in
    markup_end _ p c.requires c.skip_whitespaces-q.ensures (was_end p _ _ c.current_cpy.ensures c.in_default.is)

-- the byte after white
byte : (c : In-Some)
    → Read c.args.s.now c.skip_whitespaces-q.result c.in-Some.b
byte c =
    was_byte c.args.s.now _ _ c.current_cpy.ensures _ c.in-Some.is

pub overflow_add-q : goal.overflow_add-q
overflow_add-q c = omega (arith, (byte (goal.at.overflow_add-q c).In-Some).below)

pub returns-then-b-eq47 : goal.returns-then-b-eq47
returns-then-b-eq47 c =
    markup_close _ c.args.s.now c.requires c.skip_whitespaces-q.ensures (byte (goal.at.returns-then-b-eq47 c).In-Some) c.if-b-eq47.true c.read_end.ensures

pub read_markdown-requires : goal.read_markdown-requires
read_markdown-requires c = (rw c.skip_whitespaces-q.ensures (omega arith), (byte (goal.at.read_markdown-requires c).In-Some).below)

pub returns-then-b-eq33 : goal.returns-then-b-eq33
returns-then-b-eq33 c =
    markup_bang _ c.args.s.now c.requires c.skip_whitespaces-q.ensures (byte (goal.at.returns-then-b-eq33 c).In-Some) c.if-b-eq47.false c.if-b-eq33.true
    c.read_markdown.ensures

pub read_tag-requires : goal.read_tag-requires
read_tag-requires c = omega (arith, (byte (goal.at.read_tag-requires c).In-Some).below)

pub returns : goal.returns
returns c = markup_tag _ c.args.s.now c.requires c.skip_whitespaces-q.ensures (byte (goal.at.returns c).In-Some) c.if-b-eq47.false c.if-b-eq33.false
    c.read_tag.ensures
