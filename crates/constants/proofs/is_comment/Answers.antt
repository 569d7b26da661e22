-- `constants::is_comment` meets its contract: where two bytes are left, they are compared with `--`.
use mathlib.Core.Path.{◌∙◌}
use native.Mathlib.Omega.{arith}
use Rattle.constants.proofs.Pairs.{pair_same}
use Rattle.constants.proofs.is_comment.Goals as goal

pub returns : goal.returns
returns c = let a = c.args in
    c.is_same.ensures ∙ pair_same 45 45 a.s.now a.at (omega arith)
