-- `listing::list` meets its contract: an accepted page leaves a sound table, which is all that the lines ask.
use mathlib.Core.Path.{sym, ◌∙◌}
use Rattle.rules.specs.Profile.{settings_of, tl_profile}
use Rattle.laws.proofs.Tables.{parsed_sound}
use Rattle.listing.proofs.list.Goals as goal

pub answer-requires : goal.answer-requires
answer-requires c = λ n e. let a = c.args in
    let read = rw c.tl.ensures at c.parse-read.ensures in
    rw read.left (parsed_sound (settings_of tl_profile) a.page.now a.table.now n (sym read.is ∙ e))

pub returns : goal.returns
returns c = let read = rw c.tl.ensures at c.parse-read.ensures in
    record { table = read.left; text = rw (read.left, read.is) at c.answer.ensures }
