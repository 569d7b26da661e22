-- `words::contains` meets its contract: it tries the starts at which k fits.
use mathlib.Core.Path.{◌∙◌, refl}
use native.Mathlib.Omega.{arith}
use Rattle.std.proofs.Common.{rules, tests}
use Rattle.std.proofs.lemmas.Iterator.{YieldsList-from_range}
use Rattle.std.proofs.lemmas.Iterator.Search.{any_from_yields_List}
use Rattle.words.proofs.Fits.{stands, at_starts}
use Rattle.words.proofs.contains.Goals as goal

pub returns : goal.returns
returns c = let a = c.args in
    any_from_yields_List (stands a.k.now a.v.now) _ _ _ c.any.ensures.ran
    (YieldsList-from_range 0 _ c.saturating_sub-starts.result refl (omega arith)) (λ x b q k. search (rules, tests))
    ∙ at_starts a.k.now a.v.now _ c.saturating_sub-starts.ensures
