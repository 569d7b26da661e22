-- `lexer::parse_value` meets its contract: by what was expected and read.
use mathlib.Core.Path.{◌∙◌}
use native.Mathlib.Omega.{arith}
use Rattle.rules.proofs.Places.{Read, Stood, was_byte, was_end, was_next, was_other}
use Rattle.lexer.proofs.Attributes.{value_end_lem, value_quoted, value_bare}
use Rattle.lexer.proofs.parse_value.Goals as goal
use Rattle.lexer.proofs.parse_value.Goals.{In_ok-from, In-Some}

pub returns-in_err-from : goal.returns-in_err-from
returns-in_err-from c =
    c.from_residual.ensures ∙ rw (was_other 61 c.args.s.now _ _ c.expect_and_skip.ensures c.in_err-from.was)

-- the `=` stood there
stood : (c : In_ok-from) → Stood 61 c.args.s.now c.args.eq c.in_ok-from.from
stood c = was_next 61 c.args.s.now _ _ c.expect_and_skip.ensures _ c.in_ok-from.was

pub returns-in_default : goal.returns-in_default
returns-in_default c = let p = c.args.s.now in
    value_end_lem _ p (stood (goal.at.returns-in_default c).In_ok-from) c.skip_whitespaces-v.ensures
    (was_end p _ _ c.current_cpy.ensures c.in_default.is)

-- the byte after white
byte : (c : In-Some) → Read c.args.s.now c.skip_whitespaces-v.result c.in-Some.q
byte c = was_byte c.args.s.now _ _ c.current_cpy.ensures _ c.in-Some.is

pub overflow_add-start : goal.overflow_add-start
overflow_add-start c = omega (arith, (byte (goal.at.overflow_add-start c).In-Some).below)

pub returns-then-q : goal.returns-then-q
returns-then-q c =
    value_quoted _ c.args.s.now (stood (goal.at.returns-then-q c).In_ok-from) c.skip_whitespaces-v.ensures _
    (byte (goal.at.returns-then-q c).In-Some) c.if-q.true c.find-end.ensures

pub returns : goal.returns
returns c = value_bare _ c.args.s.now (stood (goal.at.returns c).In_ok-from) c.skip_whitespaces-v.ensures _
    (byte (goal.at.returns c).In-Some) c.if-q.false c.search_non_value-end.ensures
