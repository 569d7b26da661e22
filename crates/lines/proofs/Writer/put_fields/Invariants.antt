-- `lines::Writer::put_fields` meets its contract. The invariant: the first numbers are written.
use lib.ListN.{take}
use Rattle.std.specs.Prelude.{flat_map}
use Rattle.lines.specs.Lines.{field}
use Rattle.lines.specs.Writer.{Puts}
use Rattle.lines.proofs.Writer.put_fields.Given as goal

abbrev pub invariant-loop-n : goal.invariant-loop-n
invariant-loop-n g l = Puts l.initial.self (flat_map (λ n. field (g.I.Integer.text n)) (take l.n-index l.numbers)) l.self
