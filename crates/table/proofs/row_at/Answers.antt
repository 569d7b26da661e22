-- `table::row_at` meets its contract: what the row's part says, said of the table.
use Rattle.table.proofs.Rows.{row_node}
use Rattle.table.proofs.row_at.Goals as goal

pub returns : goal.returns
returns c = let a = c.args in row_node a.table.now a.h
