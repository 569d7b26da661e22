-- `lines::Writer::put_listing` meets its contract. The invariant: after the head line stand the lines of the first h rows.
use Prim.Native.Nat.{ℕ}
use mathlib.Core.List.{List}
use Rattle.rules.specs.Lists.{from, each}
use Rattle.rules.specs.Table.{node_at}
use Rattle.lines.specs.Lines.{node_line}
use Rattle.lines.specs.Writer.{Puts}
use Rattle.lines.proofs.Writer.put_listing.Given as goal

-- the line of row h
abbrev pub line : List ℕ → List ℕ → ℕ → List ℕ
line p ws h = node_line p h (node_at ws h)

abbrev pub invariant-loop-h : goal.invariant-loop-h
invariant-loop-h l = Puts l.initial.self (each (line l.d.page.now l.d.table.now) (from 0 l.h)) l.self
