-- `words::starts_with` meets its contract: by std's.
use mathlib.Core.Path.{◌∙◌}
use Rattle.words.proofs.Fits.{std_same}
use Rattle.words.proofs.starts_with.Goals as goal

pub returns : goal.returns
returns c = c.starts_with.ensures.value ∙ std_same _ _
