-- `replay::lending::put_repeated` meets its contract. The invariant: the text is written so many times.
use mathlib.Core.Path.{sym, ◌∙◌}
use Rattle.lines.proofs.Laws.{none}
use Rattle.replay.specs.Lending.{repeated}
use Rattle.replay.proofs.Repeated.{repeated_none, then_again}
use Rattle.replay.proofs.lending.put_repeated.Goals as goal

pub returns-then-is_empty : goal.returns-then-is_empty
returns-then-is_empty c = rw (repeated_none c.args.times c.args.text.now (sym c.is_empty.ensures ∙ c.if-is_empty.true)) (none _)

pub loop-i-init : goal.loop-i-init
unfolding repeated
loop-i-init c = none _

pub loop-i-preserved : goal.loop-i-preserved
loop-i-preserved c = then_again c.args.text.now c.loop-i._i c.loop-i.invariant c.put.ensures
