-- `queryselector::parse_combinator` and `queryselector::selector` meet their contracts, which call each other.
use Rattle.queryselector.proofs.Returns.{count_fits, combinator_ended, combinator_chained}
use Rattle.queryselector.proofs.+parse_combinator_selector.Goals as goal

pub parse_combinator-returns-in_default : goal.parse_combinator-returns-in_default
parse_combinator-returns-in_default t c = search combinator_ended

pub parse_combinator-overflow_add-result : goal.parse_combinator-overflow_add-result
parse_combinator-overflow_add-result t c = search (count_fits, c.in_ok-rest.was)

pub parse_combinator-returns : goal.parse_combinator-returns
parse_combinator-returns t c = search (combinator_chained, c.in_ok-rest.was)
