-- `maxnodes::fill` meets its contract: `Filling` is the invariant.
use native.Mathlib.Omega.{arith}
use Rattle.maxnodes.proofs.Filling.{none_filled, byte_filled, all_filled}
use Rattle.maxnodes.proofs.fill.Goals as goal

pub loop-byte-init : goal.loop-byte-init
loop-byte-init c = none_filled c.args.out.now

pub loop-byte-preserved : goal.loop-byte-preserved
loop-byte-preserved c = byte_filled c.following-b.result c.loop-byte.invariant (omega arith) c.following-b.ensures

pub returns : goal.returns
returns c = all_filled c.loop-byte.invariant (omega arith)
