-- `vdom::class_scan` meets its contract: the walk over all handles.
use Rattle.std.proofs.Common.{◌≡◌, ◌-◌, arith, rules, not, nat_eq}
use Rattle.rules.specs.Finds.{node_class_times}
use Rattle.rules.specs.Sound.{count_of}
use Rattle.rules.specs.declared.Node.{Node}
use Rattle.scan.specs.Marks.{white_in}
use Rattle.vdom.proofs.class_scan.Goals as goal

pub returns : goal.returns
returns c =
    let P = λ (n : Node). not (nat_eq (node_class_times (white_in c.args.t.now) c.args.d.now.page.now c.args.name.now n) 0) in
    let all : c.count.result - 0 ≡ count_of c.args.d.now.table.now = omega (arith, c.count.ensures.rows) in
    rw all at (c.find_all.ensures P (λ n b e. search rules))
