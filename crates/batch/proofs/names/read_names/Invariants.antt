-- `batch::names::read_names` meets its contract: the words of the handles that were passed are written, the others are zero yet.
use Rattle.std.proofs.Common.{◌≡◌, ◌*◌, length}
use Rattle.batch.proofs.Words.{words, words_length}
use Rattle.batch.proofs.Cleared.{Done}
use Rattle.batch.proofs.names.read_names.Given as goal

abbrev pub invariant-loop-h : goal.invariant-loop-h
invariant-loop-h l =
    let q = l.tags.profile.bytes.now in
    let p = l.d.page.now in
    let ws = l.d.table.now in
    (length l.out ≡ length l.initial.out)
    × Done (words q p ws l.names.text.now l.names.ends.now) (3 * length l.names.ends.now) (words_length q p ws l.names.text.now l.names.ends.now)
    l.tags.handles.now l.h-index l.at l.out
