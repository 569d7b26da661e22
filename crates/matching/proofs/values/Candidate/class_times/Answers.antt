-- `matching::values::Candidate::class_times` meets its contract: where the opening does not have k, the class does not hold it.
use Rattle.matching.proofs.Openings.{no_times}
use Rattle.matching.proofs.values.Candidate.class_times.Goals as goal

pub returns-then-not-may_have_class : goal.returns-then-not-may_have_class
returns-then-not-may_have_class c =
    no_times _ _ _ _ c.args.self.now.tag.opening (c.may_have_class.ensures c.if-not-may_have_class.true) _
