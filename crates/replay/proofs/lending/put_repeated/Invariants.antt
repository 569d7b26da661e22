-- `replay::lending::put_repeated` meets its contract. The invariant: the text is written so many times.
use Rattle.lines.specs.Writer.{Puts}
use Rattle.replay.specs.Lending.{repeated}
use Rattle.replay.proofs.lending.put_repeated.Given as goal

abbrev pub invariant-loop-i : goal.invariant-loop-i
invariant-loop-i l = Puts l.initial.writer (repeated l._i l.text) l.writer
