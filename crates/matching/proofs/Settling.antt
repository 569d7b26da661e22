-- A piece that settles its chain gives its answer, and one that does not leaves it to the rest.
use Rattle.std.proofs.Common.{Option, Some, None, Bool}
use mathlib.Core.Path.{◌≡◌, ◌∙◌}
use mathlib.Core.Bool.{Bool, true, false}
use mathlib.Core.List.{List}
use Prim.Native.Nat.{ℕ, ◌+◌, ◌-◌, ◌<◌}
use Rattle.rules.specs.Query.{joined, meaning}
use Rattle.rules.specs.declared.Simple.{Simple}
use Rattle.rules.specs.declared.Joiner.{Joiner}
use Rattle.rules.specs.declared.Joiner.TheVariants.{End, And, Or, Descendant, Parent}
use Rattle.piece.specs.Words.{piece_at, pieces_from}
use Rattle.piece.proofs.Back.{mean_next}
use Rattle.matching.specs.Matching.{decided}

settled_answer : (j : Joiner) (fits rest b : Bool) → decided j fits ≡ Some b → joined j fits rest ≡ b
settled_answer End fits rest b e = cc
settled_answer And true rest b e = cc
settled_answer And false rest b e = cc
settled_answer Or true rest b e = cc
settled_answer Or false rest b e = cc
settled_answer Descendant fits rest b e = cc
settled_answer Parent fits rest b e = cc

settled_rest : (j : Joiner) (fits rest : Bool) → decided j fits ≡ None → joined j fits rest ≡ rest
settled_rest End fits rest e = cc
settled_rest And true rest e = cc
settled_rest And false rest e = cc
settled_rest Or true rest e = cc
settled_rest Or false rest e = cc
settled_rest Descendant fits rest e = cc
settled_rest Parent fits rest e = cc

-- piece i, and what the n pieces from it on mean
module _ (fits : Simple → Bool) (n : ℕ) (ws : List ℕ) (i : ℕ) (l : i < n) where
  abbrev settles : Option Bool
  settles = decided (piece_at ws i).joiner (fits (piece_at ws i).simple)

  abbrev rest : Bool
  rest = meaning fits (pieces_from (n - (i + 1)) ws (i + 1))

  pub chain_answer : (b : Bool) → settles ≡ Some b → meaning fits (pieces_from (n - i) ws i) ≡ b
  chain_answer b e = mean_next fits n ws i l ∙ settled_answer (piece_at ws i).joiner (fits (piece_at ws i).simple) rest b e

  pub chain_rest : settles ≡ None → meaning fits (pieces_from (n - i) ws i) ≡ rest
  chain_rest e = mean_next fits n ws i l ∙ settled_rest (piece_at ws i).joiner (fits (piece_at ws i).simple) rest e
