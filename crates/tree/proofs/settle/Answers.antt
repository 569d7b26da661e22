-- `tree::settle` meets its contract: whatever tags were open at first, some of them are left.
use borrow.Author.Rules.{rules}
use native.Mathlib.Omega.{arith}
use Rattle.tree.proofs.Settling.{Left, left_none, left_row, left_lower, left_more}
use Rattle.tree.proofs.settle.Goals as goal
use Rattle.tree.proofs.settle.Goals.{At-loop-p}

-- what is left of the tags that the caller showed
shown : (c : At-loop-p) → Left c.args.last c.loop-p.table c.requires.t c.requires.hd c.loop-p.p c.requires.ns c.requires.hs
shown c = let X = c.requires in c.loop-p.invariant.left X.t X.hd X.ns X.hs X.rows

pub row_at-n-requires : goal.row_at-n-requires
row_at-n-requires c = left_row (shown (goal.at.row_at-n-requires c).At-loop-p) c.loop-p-test.true

pub close_row-requires : goal.close_row-requires
close_row-requires c = left_row (shown (goal.at.close_row-requires c).At-loop-p) c.loop-p-test.true

pub loop-p-smaller : goal.loop-p-smaller
loop-p-smaller c = rw c.row_at-n.ensures (left_lower (shown (goal.at.loop-p-smaller c).At-loop-p) c.loop-p-test.true)

pub loop-p-preserved : goal.loop-p-preserved
loop-p-preserved c = record {
  size = search rules;
  left = λ t hd ns hs S.
      left_more (c.loop-p.invariant.left t hd ns hs S) c.loop-p-test.true c.row_at-n.ensures c.close_row.ensures;
}

pub returns : goal.returns
returns c = record { filled = λ t hd ns hs S. left_none (c.loop-p.invariant.left t hd ns hs S) (omega (arith, c.loop-p-test.false)) }
