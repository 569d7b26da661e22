-- `queryselector::parse_combinator` and `queryselector::selector` call each other. The measure is twice the bytes that are left, and one
-- more in `parse_combinator`.
use Rattle.std.proofs.Common.{◌+◌, ◌-◌, ◌*◌, length}
use Rattle.queryselector.proofs.+parse_combinator_selector.Given as goal

abbrev pub decreases-selector : goal.decreases-selector
decreases-selector l = 2 * (length l.stream.now.«data».now - l.stream.now.idx)

abbrev pub decreases-parse_combinator : goal.decreases-parse_combinator
decreases-parse_combinator l = 2 * (length l.stream.now.«data».now - l.stream.now.idx) + 1
