-- `profile::runs::is_run` meets its contract: of the bytes before j.
use mathlib.Core.Path.{◌≡◌}
use Rattle.profile.specs.Made.{same_run}
use Rattle.profile.proofs.runs.is_run.Given as goal

abbrev pub invariant-loop-j : goal.invariant-loop-j
invariant-loop-j l = l.ok ≡ same_run l.p l.a l.q l.c l.j
