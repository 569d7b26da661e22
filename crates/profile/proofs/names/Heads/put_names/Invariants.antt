-- `profile::names::Heads::put_names` meets its contract: the table has the first i names.
use Rattle.profile.specs.Made.{HasNames}
use Rattle.profile.proofs.names.Heads.put_names.Given as goal

abbrev pub invariant-loop-i : goal.invariant-loop-i
invariant-loop-i l = HasNames l.profile.bytes.now l.self l.i
