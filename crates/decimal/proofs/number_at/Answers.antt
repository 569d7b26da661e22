-- `decimal::number_at` meets its contract: the digits at the place say the number.
use mathlib.Core.Path.{sym, ◌∙◌}
use Rattle.decimal.specs.Digits.{number_at}
use Rattle.decimal.proofs.Numbers.{part_digits, outside}
use Rattle.decimal.proofs.number_at.Goals as goal

pub returns-in_err-get : goal.returns-in_err-get
returns-in_err-get c = c.from_residual.ensures ∙ sym (outside c.args.s.now c.args.at _ c.skip_digits-end.ensures c.in_err-get.ensures.lookup.0)

pub number_of-requires : goal.number_of-requires
number_of-requires c =
    rw c.in_ok-get.ensures.lookup.0.2 (part_digits c.args.s.now c.args.at c.skip_digits-end.result c.skip_digits-end.ensures)

pub returns-in_err-n : goal.returns-in_err-n
unfolding number_at
returns-in_err-n c =
    c.from_residual-in_err-n.ensures ∙ rw (← c.skip_digits-end.ensures, ← c.in_ok-get.ensures.lookup.0.2, ← c.in_err-n.ensures)

pub returns : goal.returns
unfolding number_at
returns c = rw (← c.skip_digits-end.ensures, ← c.in_ok-get.ensures.lookup.0.2, ← c.in_ok-n.ensures)
