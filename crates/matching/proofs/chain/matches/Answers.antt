-- `matching::chain::matches` meets its contract: what the chain means, the pieces from i on mean.
use mathlib.Core.Path.{sym, ◌∙◌}
use native.Mathlib.Omega.{arith}
use Rattle.piece.proofs.Back.{mean_none}
use Rattle.matching.proofs.Settling.{chain_answer, chain_rest}
use Rattle.matching.proofs.chain.matches.Goals as goal

pub returns-in-Some : goal.returns-in-Some
returns-in-Some c =
    let told = sym c.settle.ensures ∙ c.in-Some.is in
    sym (c.loop-i.invariant
    ∙ chain_answer _ c.args.chain.now.pieces c.args.chain.now.words.now c.loop-i.i c.loop-i-test.true _
    (rw (c.fits-fit.ensures, c.piece-p.ensures) at told))

pub loop-i-preserved : goal.loop-i-preserved
loop-i-preserved c =
    let told = sym c.settle.ensures ∙ c.in_default.is in
    c.loop-i.invariant
    ∙ chain_rest _ c.args.chain.now.pieces c.args.chain.now.words.now c.loop-i.i c.loop-i-test.true
    (rw (c.fits-fit.ensures, c.piece-p.ensures) at told)

pub returns : goal.returns
returns c = sym (c.loop-i.invariant ∙ mean_none _ _ _ c.loop-i.i (omega arith))
