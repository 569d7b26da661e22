-- `batch::names::none_named` meets its contract: what all names begin with stands in the opening of no handle that was passed.
use Rattle.std.proofs.Common.{◌≡◌, rules, arith, ℕ, true}
use Rattle.std.proofs.lemmas.Bool.{not-true}
use Rattle.std.proofs.lemmas.List.{get_or_read}
use Rattle.std.proofs.lemmas.Iterator.{cases_from_any, YieldsList-from_slice}
use Rattle.std.proofs.lemmas.Iterator.Adapters.{serves_from_places}
use Rattle.rules.specs.Scan.{part}
use Rattle.rules.specs.Words.{Within}
use Rattle.rules.specs.Sound.{is_tag}
use Rattle.rules.specs.Table.{node_at}
use Rattle.batch.proofs.names.none_named.Goals as goal

pub any-requires-clause-callable : goal.any-requires-clause-callable
any-requires-clause-callable c =
    let t = c.args.tags.now in
    serves_from_places (YieldsList-from_slice t.handles.now (search rules)) (λ x q k. search rules)
    (λ x k l e.
    let its : is_tag t.document.table.now x.now ≡ true = rw (get_or_read t.handles.now k x.now l e 0) (t.each k l) in
    search rules)

pub returns : goal.returns
returns c = λ e.
    let t = c.args.tags.now in
    let hs = t.handles.now in
    let No : ℕ → Type 0 =
    λ h. let n = node_at t.document.table.now h in Within c.args.first.now (part t.document.page.now n.stop n.opened) → ⊥ in
    let none =
    rw (not-true c.any.result e) at
    (cases_from_any _ _ _ (λ h. Unit {0}) No c.any.ensures.ran (YieldsList-from_slice hs (search rules)) (λ x q k. tt)
    (λ x q k. (search rules, search rules))) in
    λ i l. none i 0 (omega arith) l
