-- `vdom::id_scan` meets its contract: the walk over all handles, as far as the first tag with the id.
use Rattle.std.proofs.Common.{◌≡◌, ◌-◌, arith, rules}
use Rattle.rules.specs.Finds.{node_has_id}
use Rattle.rules.specs.Sound.{count_of}
use Rattle.scan.specs.Marks.{white_in}
use Rattle.vdom.proofs.id_scan.Goals as goal

pub returns : goal.returns
returns c =
    let P = node_has_id (white_in c.args.t.now) c.args.d.now.page.now c.args.name.now in
    let all : c.count.result - 0 ≡ count_of c.args.d.now.table.now = omega (arith, c.count.ensures.rows) in
    rw all at (c.find_next.ensures.first P (λ n b e. search rules))
