-- `matching::simple::has_id` meets its contract: of a tag, the id is compared.
use Rattle.std.proofs.Common.{rules, sym, ◌∙◌}
use Rattle.rules.specs.Scan.{same}
use Rattle.rules.proofs.Within.{same_within}
use Rattle.matching.proofs.Openings.{passes_none}
use Rattle.matching.proofs.simple.has_id.Goals as goal

pub returns : goal.returns
returns c =
    let k = c.args.name.now in
    rw (sym c.is_tag.ensures ∙ c.if-not-is_tag.false) (c.has_value.ensures (λ v. same v k) (λ v b e. search rules) (passes_none k _ (same_within k)))
