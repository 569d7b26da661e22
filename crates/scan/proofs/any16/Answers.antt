-- Where none of the 16 is q, the run goes over them.
use mathlib.Core.Path.{ap}
use mathlib.Core.Bool.{not}
use Rattle.rules.specs.Bytes.{other}
use Rattle.rules.proofs.Runs.{skip_over}
use Rattle.scan.proofs.Lanes.{none_same}
use Rattle.scan.proofs.any16.Goals as goal

pub returns : goal.returns
returns c = λ z. let a = c.args in
    skip_over (other a.q) a.s.now 16 a.i c.requires (λ x l h. ap not (none_same a.s.now a.i a.q c.requires z x l h))
