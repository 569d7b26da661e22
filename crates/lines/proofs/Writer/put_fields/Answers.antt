-- `lines::Writer::put_fields` meets its contract. The invariant: the first numbers are written.
use native.Mathlib.Omega.{arith}
use Rattle.lines.specs.Lines.{field}
use Rattle.lines.proofs.Laws.{then_item}
use Rattle.lines.proofs.Writer.put_fields.Goals as goal

pub loop-n-preserved : goal.loop-n-preserved
loop-n-preserved g c =
    let n = c.n-item.result in
    then_item (λ k. field (g.I.Integer.text k)) c.args.numbers.now c.loop-n.n-index n (omega arith) c.loop-n.invariant
    (rw c.n-item.is at c.put_field.ensures)
