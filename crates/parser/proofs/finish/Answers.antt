-- `parser::finish` meets its contract: the open tags are settled, then the header is written.
use mathlib.Core.Path.{◌≡◌}
use Prim.Native.Nat.{pred}
use native.Mathlib.Omega.{arith}
use Rattle.rules.proofs.Table.{filled_size}
use Rattle.parser.proofs.Answering.{held_end}
use Rattle.parser.proofs.finish.Goals as goal

pub put_head-requires : goal.put_head-requires
put_head-requires c = let F = c.requires.held.rows.filled in omega (arith, F.fits, filled_size F, c.settle.auto.table)

pub returns : goal.returns
returns c = let len = c.args.len in
    let last : c.saturating_sub-last.result ≡ pred c.args.s.count = omega arith in
    record { words = λ t hd R H. held_end H _ len last c.settle.ensures c.put_head.ensures }
