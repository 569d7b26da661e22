-- `maxnodes::fill` meets its contract: `Filling` is the invariant.
use Rattle.maxnodes.proofs.Filling.{Filling}
use Rattle.maxnodes.proofs.fill.Given as goal

abbrev pub invariant-loop-byte : goal.invariant-loop-byte
invariant-loop-byte l = Filling l.fn.out l.byte-items l.b l.byte-index
