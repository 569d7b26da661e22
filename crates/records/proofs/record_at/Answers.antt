-- `records::record_at` meets its contract: a number lies in the input, so the sum of its end and its value fits.
use native.Mathlib.Omega.{arith}
use mathlib.Core.Path.{sym}
use Rattle.records.proofs.Within.{before_within}
use Rattle.records.proofs.record_at.Goals as goal

pub overflow_add-start : goal.overflow_add-start
overflow_add-start c = let w = before_within c.args.s.now _ 10 _ (sym c.in_ok-n.ensures) in omega arith
