-- `words::gap` meets its contract: past the end there is no separator.
use native.Mathlib.Omega.{arith}
use Rattle.words.specs.Separators.{separators}
use Rattle.words.proofs.Gaps.{past_end}
use Rattle.words.proofs.gap.Goals as goal

pub returns-in_err-get : goal.returns-in_err-get
returns-in_err-get c = rw c.from_residual.ensures (past_end (separators c.args.white) c.args.v.now c.args.i (omega (arith, c.in_err-get.ensures.lookup)))
