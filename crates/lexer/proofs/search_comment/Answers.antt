-- `lexer::search_comment` meets its contract: the search from `at` is the search from i.
use lib.ListN.{get_or}
use borrow.Author.Tests.{ne_eqb}
use Rattle.lexer.proofs.Comment.{comment_ends, comment_three, comment_one, comment_two, comment_far, comment_over}
use Rattle.lexer.proofs.search_comment.Goals as goal

pub returns-then-s-i-eq62 : goal.returns-then-s-i-eq62
returns-then-s-i-eq62 c = comment_ends c.args.s.now c.saturating_sub-top.ensures _ _ c.loop-i.invariant c.loop-i-test.true
    _ (rw (c.if-s-i-eq45-2.true, c.if-s-i-eq45.true)) c.if-s-i-eq62.true

pub loop-i-preserved-then-s-i-eq45-2 : goal.loop-i-preserved-then-s-i-eq45-2
loop-i-preserved-then-s-i-eq45-2 c = comment_three c.args.s.now c.saturating_sub-top.ensures _ _ c.loop-i.invariant c.loop-i-test.true
    (rw (c.if-s-i-eq45-2.true, c.if-s-i-eq45.true)) c.if-s-i-eq62.false

pub loop-i-preserved-else-s-i-eq45-2 : goal.loop-i-preserved-else-s-i-eq45-2
loop-i-preserved-else-s-i-eq45-2 c = comment_one c.args.s.now c.saturating_sub-top.ensures _ _ c.loop-i.invariant c.loop-i-test.true
    (rw (ne_eqb (get_or c.args.s.now c.loop-i.i 0) 45 c.if-s-i-eq45-2.false))

pub loop-i-preserved-then-s-i-eq45-3 : goal.loop-i-preserved-then-s-i-eq45-3
loop-i-preserved-then-s-i-eq45-3 c = comment_two c.args.s.now c.saturating_sub-top.ensures _ _ c.loop-i.invariant c.loop-i-test.true
    c.if-s-i-eq45.false

pub loop-i-preserved : goal.loop-i-preserved
loop-i-preserved c = rw c.find-i.ensures
    (comment_far c.args.s.now c.saturating_sub-top.ensures _ _ c.loop-i.invariant c.loop-i-test.true c.if-s-i-eq45.false)

pub returns : goal.returns
returns c = comment_over c.args.s.now c.saturating_sub-top.ensures _ _ c.loop-i.invariant _ c.loop-i-test.false
