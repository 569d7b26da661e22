-- `words::ends_with` meets its contract: by std's.
use mathlib.Core.Path.{◌∙◌}
use Rattle.words.proofs.Fits.{std_same, at_end}
use Rattle.words.proofs.ends_with.Goals as goal

pub returns : goal.returns
returns c = let a = c.args in c.ends_with.ensures.value ∙ std_same _ _ ∙ at_end a.k.now a.v.now
