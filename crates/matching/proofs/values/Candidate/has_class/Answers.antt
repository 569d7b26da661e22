-- `matching::values::Candidate::has_class` meets its contract: where the opening does not have k, no value has that word; else the class is looked at.
use Rattle.std.proofs.Common.{◌∙◌}
use Rattle.rules.specs.Words.{ascii_white}
use Rattle.matching.proofs.Openings.{no_value, word_none}
use Rattle.matching.proofs.values.Candidate.has_class.Goals as goal

pub returns-else-may_have_class : goal.returns-else-may_have_class
returns-else-may_have_class c =
    let no = c.if-may_have_class.false in
    no ∙ no_value _ _ _ _ c.args.self.now.tag.opening (c.may_have_class.ensures no) _ _ (word_none _ ascii_white)
