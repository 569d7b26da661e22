-- `tag::buffer::copy_each` meets its contract: the first i bytes are copied, and behind them stands what stood there.
use mathlib.Core.Path.{◌≡◌}
use mathlib.Core.List.{◌++◌}
use lib.ListN.{take, drop}
use Rattle.tag.proofs.buffer.copy_each.Given as goal

abbrev pub invariant-loop-i : goal.invariant-loop-i
invariant-loop-i l = l.to ≡ take l.i l.bytes ++ drop l.i l.initial.to
