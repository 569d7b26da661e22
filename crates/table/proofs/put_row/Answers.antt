-- `table::put_row` meets its contract: the row's part of the table is now the node's words.
use Rattle.table.proofs.Rows.{row_put}
use Rattle.table.proofs.put_row.Goals as goal

pub returns : goal.returns
returns c = let a = c.args in
    row_put a.table.now a.h (λ _. a.n) _ c.copy_from_slice.ensures.after
