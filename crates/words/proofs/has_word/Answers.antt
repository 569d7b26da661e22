-- `words::has_word` meets its contract: by what `times` answers.
use Rattle.words.proofs.has_word.Goals as goal

pub returns : goal.returns
returns c = rw c.times.ensures
