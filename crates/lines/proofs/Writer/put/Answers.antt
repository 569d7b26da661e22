-- `lines::Writer::put` meets its contract: as much of the text as there is room for is copied.
use native.Mathlib.Omega.{arith}
use mathlib.Core.Path.{refl}
use Rattle.lines.proofs.Laws.{copied, beyond}
use Rattle.lines.proofs.Writer.put.Goals as goal

pub returns-then-at-self : goal.returns-then-at-self
returns-then-at-self c =
    let w = c.args.self.now in
    record {
      written = record {
        bytes = copied w.out.now w.at c.args.text.now c.min-size.result (omega arith) (omega arith) c.copy.ensures;
        place = omega arith;
      };
      same = refl;
    }

pub returns-else-at-self : goal.returns-else-at-self
returns-else-at-self c = beyond c.args.self.now c.args.text.now (omega arith)
