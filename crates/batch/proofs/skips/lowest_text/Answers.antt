-- `batch::skips::lowest_text` meets its contract: the rows before the first with text have none.
use Rattle.std.proofs.Common.{◌≡◌, rules, tests, []}
use Rattle.std.proofs.lemmas.Iterator.{first_from_Range}
use Rattle.rules.specs.Text.{text_at}
use Rattle.batch.proofs.Skipping.{no_text, lowest}
use Rattle.batch.proofs.skips.lowest_text.Goals as goal

pub returns : goal.returns
returns c =
    let d = c.args.d.now in
    let p = d.page.now in
    let ws = d.table.now in
    let first =
    first_from_Range _ _ _ _ (λ k. Unit {0}) (λ k. text_at p ws k ≡ []) c.find.ensures.ran (λ k q e. tt)
    (λ k q e. (search rules, search (rules, tests, no_text p ws k))) in
    rw c.unwrap_or.ensures (lowest p ws c.find.result c.requires.0 c.requires.1 first)
