-- `parser::parse` meets its contract: the refusals in order, then the reading of the page from its beginning.
use Rattle.std.proofs.Common.{◌≤◌, length, refl, ap, sym, ◌∙◌, arith}
use Rattle.rules.specs.Profile.{page_limit, white_of, void_of, settings_of}
use Rattle.rules.proofs.Asking.{Readable, page_fine, page_short}
use Rattle.parser.proofs.Answering.{reads_begin, holds_read, parses_refused, parses_short, parses_full, parses_read}
use Rattle.parser.proofs.parse.Goals as goal
use Rattle.parser.proofs.parse.Goals.{In-Ok}

pub returns-in-Err : goal.returns-in-Err
returns-in-Err c =
    let a = c.args in
    parses_refused (settings_of a.profile.now) a.page.now a.table.now c.in-Err.ensures.answer c.refuse.ensures

-- neither 14 nor 1
readable : (c : In-Ok) → Readable (settings_of c.args.profile.now) c.args.page.now
readable c = page_fine (settings_of c.args.profile.now) c.args.page.now (sym c.in-Ok.ensures.answer)

short : (c : In-Ok) → length c.args.page.now ≤ page_limit
short c = page_short c.args.profile.now c.args.page.now (readable c)

pub returns-then-table-lt-HEAD : goal.returns-then-table-lt-HEAD
returns-then-table-lt-HEAD c =
    let i = (goal.at.returns-then-table-lt-HEAD c).In-Ok in
    let a = c.args in
    parses_short (settings_of a.profile.now) a.page.now a.table.now (readable i) c.if-table-lt-HEAD.true c.refuse-then-table-lt-HEAD.ensures

pub parse_single-requires : goal.parse_single-requires
parse_single-requires c =
    let a = c.args in
    (reads_begin a.page.now a.table.now c.if-table-lt-HEAD.false, short (goal.at.parse_single-requires c).In-Ok)

pub returns-in_default : goal.returns-in_default
returns-in_default c =
    let i = (goal.at.returns-in_default c).In-Ok in
    let white = c.marks-t.ensures ∙ ap white_of c.in-Ok.ensures.lent in
    let void = ap void_of (c.void_names-void.ensures ∙ c.in-Ok.ensures.lent) in
    let a = c.args in
    parses_full (settings_of a.profile.now) a.page.now a.table.now (readable i) c.if-table-lt-HEAD.false white void c.parse_single.ensures
    c.in_default.is c.parse_single.auto.table c.refuse-in_default.ensures

pub overflow_cast-len : goal.overflow_cast-len
overflow_cast-len c = let l = short (goal.at.overflow_cast-len c).In-Ok in omega (arith, l)

pub finish-requires : goal.finish-requires
finish-requires c = holds_read (short (goal.at.finish-requires c).In-Ok) c.if-table-lt-HEAD.false c.parse_single.ensures c.in-Some.is

pub returns : goal.returns
returns c =
    let i = (goal.at.returns c).In-Ok in
    let white = c.marks-t.ensures ∙ ap white_of c.in-Ok.ensures.lent in
    let void = ap void_of (c.void_names-void.ensures ∙ c.in-Ok.ensures.lent) in
    let a = c.args in
    parses_read (settings_of a.profile.now) a.page.now a.table.now (readable i) c.if-table-lt-HEAD.false white void c.parse_single.ensures
    c.in-Some.is c.finish.ensures refl
