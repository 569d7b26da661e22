-- `matching::chain::matches` meets its contract: what the chain means, the pieces from i on mean.
use mathlib.Core.Path.{◌≡◌}
use Prim.Native.Nat.{◌-◌}
use Rattle.rules.specs.Query.{node_fits, meaning}
use Rattle.scan.specs.Marks.{white_in}
use Rattle.piece.specs.Words.{pieces_from}
use Rattle.matching.proofs.chain.matches.Given as goal

abbrev pub invariant-loop-i : goal.invariant-loop-i
invariant-loop-i l =
    let k = l.chain in
    let fit = node_fits (white_in l.t) l.page k.text.now l.n in
    meaning fit (pieces_from k.pieces k.words.now 0) ≡ meaning fit (pieces_from (k.pieces - l.i) k.words.now l.i)
