-- `sound::TableRows::rows_sound` meets its contract: the rows below h are sound, so their parents are right and the climb for h may trust them.
use mathlib.Core.Path.{◌≡◌}
use mathlib.Core.Bool.{true}
use Rattle.rules.specs.Sound.{all, row_sound}
use Rattle.sound.specs.Row.{ClimbStart}
use Rattle.sound.proofs.TableRows.rows_sound.Given as goal

abbrev pub invariant-loop-h : goal.invariant-loop-h
invariant-loop-h l = (all (row_sound l.self.len l.self.table.now l.self.count) l.h ≡ true) × ClimbStart l.self.table.now l.h l.from
