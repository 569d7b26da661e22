-- `words::is_word` meets its contract: w is empty, or compared.
use mathlib.Core.Path.{sym, ◌∙◌}
use borrow.Author.Tests.{eqb-true, eqb-false}
use Rattle.std.proofs.Common.{rules}
use Rattle.words.proofs.Walk.{times_one, told_none}
use Rattle.words.proofs.is_word.Goals as goal

pub returns-then-not-is_empty : goal.returns-then-not-is_empty
returns-then-not-is_empty c =
    rw c.is_same.ensures (times_one _ _ (eqb-false _ _ (sym c.is_empty.ensures ∙ c.if-not-is_empty.true)))

pub returns-else-not-is_empty : goal.returns-else-not-is_empty
returns-else-not-is_empty c =
    told_none _ _ (search rules) (eqb-true _ _ (sym c.is_empty.ensures ∙ c.if-not-is_empty.false))
