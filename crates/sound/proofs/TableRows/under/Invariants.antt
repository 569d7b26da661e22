-- `sound::TableRows::under` meets its contract: what reaches h among all lower rows is what reaches it among those below p.
use mathlib.Core.Path.{◌≡◌}
use Prim.Native.Nat.{◌≤◌}
use Rattle.rules.specs.Sound.{reaching, last_at, parent_at}
use Rattle.sound.proofs.TableRows.under.Given as goal

-- A row that does not reach h hands p to its parent, and nothing between the two reaches h (`climb_step`).
abbrev pub invariant-loop-p : goal.invariant-loop-p
invariant-loop-p l = (l.p ≤ l.h) × (reaching (last_at l.self.table.now) l.h l.p ≡ parent_at l.self.table.now l.h)

abbrev pub decreases-loop-p : goal.decreases-loop-p
decreases-loop-p l = l.p
