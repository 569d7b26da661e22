-- Worked examples, by computing: the first lengths, 7, and the longest page.
use mathlib.Core.Path.{◌≡◌, refl}
use mathlib.Core.List.{[], ◌∷◌, map}
use Rattle.rules.specs.Ascii.{bytes}
use Rattle.rules.specs.Profile.{page_limit}
use Rattle.maxnodes.specs.Bound.{max_nodes, cycle, densest}

most : map max_nodes (0 ∷ 1 ∷ 2 ∷ 3 ∷ 7 ∷ page_limit ∷ []) ≡ 0 ∷ 1 ∷ 1 ∷ 2 ∷ 5 ∷ 43691 ∷ []
most = refl

pages : map densest (0 ∷ 1 ∷ 2 ∷ 3 ∷ 7 ∷ []) ≡ [] ∷ bytes "a" ∷ bytes "a<" ∷ bytes "a<>" ∷ bytes "a<>a<>a" ∷ []
unfolding cycle
pages = refl
