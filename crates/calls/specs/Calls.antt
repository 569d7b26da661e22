-- What a query's walk leaves, by the chain that its selector is.
use Rattle.std.specs.Prelude.{List, ℕ, length, Result}
use Rattle.rules.specs.Chain.{read_selector}
use Rattle.rules.specs.Refusals.{filled_by, Leaves}
use Rattle.rules.specs.Answers.{finds_of, selected}
use Rattle.rules.specs.declared.Piece.{Piece}
use Rattle.rules.specs.declared.Refusal.{Refusal}

-- refusals 5, 6 and 7, or what the chain finds, in the lent words b
abbrev pub Selects : (List Piece → List ℕ) → List ℕ → List ℕ → Result ℕ Refusal → List ℕ → Type 0
Selects finds s b r out = Leaves (selected finds s (length b)) (filled_by b (finds_of finds (read_selector s)) r) r out
