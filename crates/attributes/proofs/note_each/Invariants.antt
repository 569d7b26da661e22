-- `attributes::note_each` meets its contract: the attribute was noted in the words of the first j names.
use Rattle.attributes.proofs.Noted.{Noting}
use Rattle.attributes.proofs.note_each.Given as goal

abbrev pub invariant-loop-j : goal.invariant-loop-j
invariant-loop-j l = Noting l.page l.a l.names.text.now l.names.ends.now l.initial.out l.j l.out
