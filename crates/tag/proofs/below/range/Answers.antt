-- `tag::below::range` meets its contract: the definition's test is the code's.
use borrow.Author.Tests.{lt-ltb, le-ltb}
use native.Mathlib.Numerals.{add-one}
use Rattle.tag.proofs.below.range.Goals as goal

pub returns-then-h-last : goal.returns-then-h-last
returns-then-h-last c = rw (lt-ltb _ _ c.if-h-last.true, add-one)

pub returns : goal.returns
returns c = rw (le-ltb _ _ c.if-h-last.false)
