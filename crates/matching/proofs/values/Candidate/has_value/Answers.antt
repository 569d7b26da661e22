-- `matching::values::Candidate::has_value` meets its contract: where the opening does not have k, no value fits; else the value is tested.
use Rattle.std.proofs.Common.{rules, ◌∙◌}
use Rattle.matching.proofs.Openings.{no_value}
use Rattle.matching.proofs.values.Candidate.has_value.Goals as goal
use Rattle.matching.proofs.values.Candidate.has_value.Goals.{then-may_have, else-may_have}

pub returns : goal.returns
returns g c = λ P f none.
    elim c.if-may_have.branch [
      | then-may_have w ↦ w.result-is ∙ w.check_attribute.ensures P (λ v b e. f v b (search rules))
      | else-may_have w ↦
          w.result-is ∙ w.if-may_have.false ∙ no_value _ _ _ _ c.args.self.now.tag.opening (c.may_have.ensures w.if-may_have.false) _ P none
    ]
