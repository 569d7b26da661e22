-- The cycle of calls {inner_text}: it calls itself for a child, whose range is shorter. What is left to be written, from i on, is the
-- text after row k, as in the flat walk; a child's piece of it is what lies below the child, or its own text.
use Rattle.std.proofs.Common.{◌-◌}
use Rattle.rules.specs.Sound.{last_at}
use Rattle.rules.specs.Text.{inner_text}
use Rattle.rules.proofs.Buffers.{Left}
use Rattle.tag.proofs.Texts.{Walk, after}
use Rattle.tag.proofs.below.+inner_text.Given as goal

-- the handles left in the range of h
abbrev pub decreases-inner_text : goal.decreases-inner_text
decreases-inner_text l = last_at l.d.now.table.now l.h - l.h

abbrev pub invariant-loop-k : goal.invariant-loop-k
invariant-loop-k l =
    Walk l.d.table.now l.h l.last l.k × Left l.initial.out l.at (inner_text l.d.page.now l.d.table.now l.h) l.out l.i (after l.d.page.now l.d.table.now l.h l.k)

abbrev pub decreases-loop-k : goal.decreases-loop-k
decreases-loop-k l = l.last - l.k
