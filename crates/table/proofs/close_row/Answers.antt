-- `table::close_row` meets its contract: a row is its words one by one, and the three stores compute on those.
use mathlib.Core.Path.{ap}
use mathlib.Core.List.{List}
use Prim.Native.Nat.{ℕ, ◌+◌}
use native.Mathlib.Omega.{arith}
use lib.ListN.{set, length-take, length-drop, drop}
use Rattle.rules.specs.Reader.{closed}
use Rattle.rules.specs.Scan.{part}
use Rattle.rules.specs.Table.{row_at, row_words}
use Rattle.rules.specs.declared.Node.{Node}
use Rattle.rules.proofs.Table.{row_words_lem}
use Rattle.table.proofs.Rows.{row_put}
use Rattle.table.proofs.close_row.Goals as goal

pub returns : goal.returns
returns c = let a = c.args in
    let t = a.table.now in
    row_put t a.h (λ (n : Node). closed n a.end a.last a.ended) _
    (ap (λ (l : List ℕ). set (set (set l 2 a.end) 7 a.last) 8 a.ended)
    (row_words_lem (part t (row_at a.h) (row_at a.h + row_words)) (omega (arith, length-take row_words (drop (row_at a.h) t), length-drop (row_at a.h) t))))
