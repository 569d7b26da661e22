-- `tag::below::text_length` meets its contract: the size so far and the length of the text from row k on are the whole length. A text's size
-- and a row's number are below 2^32, so the sum fits.
use Rattle.std.proofs.Common.{◌≡◌, ◌+◌, ◌*◌, ◌≤◌, length}
use Rattle.rules.specs.Text.{inner_text}
use Rattle.rules.proofs.Text.{text_from}
use Rattle.tag.proofs.below.text_length.Given as goal

abbrev pub invariant-loop-k : goal.invariant-loop-k
invariant-loop-k l =
    (l.size + length (text_from l.d.page.now l.d.table.now l.h l.k) ≡ length (inner_text l.d.page.now l.d.table.now l.h))
    × (l.size ≤ 4294967295 * l.k)
