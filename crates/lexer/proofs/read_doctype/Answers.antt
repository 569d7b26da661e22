-- `lexer::read_doctype` meets its contract: each name that was read ends in the page.
use native.Mathlib.Omega.{arith}
use Rattle.rules.proofs.Runs.{skip_le}
use Rattle.lexer.proofs.read_doctype.Goals as goal

pub slice_bounds-is_doctype-end : goal.slice_bounds-is_doctype-end
slice_bounds-is_doctype-end c = omega (arith, c.search_non_ident-e.ensures, skip_le)

pub slice_bounds-is_html-end : goal.slice_bounds-is_html-end
slice_bounds-is_html-end c = omega (arith, c.search_non_ident-e.ensures, c.skip_whitespaces-w.ensures, c.search_non_ident-f.ensures, skip_le)
