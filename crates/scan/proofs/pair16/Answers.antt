-- Where no pair of lanes is set, no pair stands at the 16 places.
use Rattle.scan.proofs.Lanes.{none_pair}
use Rattle.scan.proofs.pair16.Goals as goal

pub returns : goal.returns
returns c = λ z. let a = c.args in none_pair a.s.now a.i a.d a.a a.b c.requires z
