-- `lexer::parse_attribute` meets its contract: what follows goes by the value.
use mathlib.Core.Path.{◌≡◌, sym, ◌∙◌}
use Rattle.rules.specs.Attributes.{onward, next_from}
use Rattle.scan.specs.Marks.{white_in}
use Rattle.lexer.proofs.Attributes.{next_missing, next_given, attribute_is}
use Rattle.lexer.proofs.parse_attribute.Goals as goal
use Rattle.lexer.proofs.parse_attribute.Goals.{in-Some, in-None}

pub returns : goal.returns
returns c = let p = c.args.s.now in
    let v = c.parse_value-value.ensures in
    let n : onward p c.match-value.end ≡ next_from (white_in c.args.t.now) p c.skip_whitespaces-eq.result
    = elim c.match-value.branch [
      | in-Some w ↦ rw w.end-is (next_given _ p _ _ _ (sym v ∙ w.in-Some.is))
      | in-None w ↦ rw w.end-is (next_missing _ p _ (sym v ∙ w.in-None.is))
    ] in
    attribute_is _ p c.search_non_ident-stop.ensures c.skip_whitespaces-eq.ensures v (c.onward-next.ensures ∙ n)
