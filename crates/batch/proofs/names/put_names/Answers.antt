-- `batch::names::put_names` meets its contract: as many words are cleared as the names of all handles want, and these are written. Where no
-- tag may have any of the names, they are zero as they are.
use Rattle.std.proofs.Common.{◌≡◌, ℕ, ◌*◌, rules, length, ap, sym, ◌∙◌}
use native.Mathlib.Nat.{mul_assoc}
use lib.ListN.{take, replicate}
use Rattle.rules.specs.Lists.{each}
use Rattle.rules.specs.Batch.{names_found}
use Rattle.checks.proofs.Passed.{tag_at}
use Rattle.batch.proofs.Words.{words, words_all, words_none}
use Rattle.batch.proofs.Cleared.{cleared, cleared_first}
use Rattle.batch.proofs.names.put_names.Goals as goal

pub returns-then-none_named : goal.returns-then-none_named
unfolding names_found
returns-then-none_named c =
    let a = c.args in
    let names = a.names.now in
    let q = a.tags.now.profile.bytes.now in
    let p = a.tags.now.document.page.now in
    let ws = a.tags.now.document.table.now in
    let hs = a.tags.now.handles.now in
    let all : ℕ = 3 * (length names.ends.now * length hs) in
    let fills : c.fill.new.self ≡ replicate (length (take all a.out.now)) 0 = search rules in
    let zeros = cleared a.out.now c.fill.new.self all c.requires fills in
    let size = ap (λ (k : ℕ). replicate k 0) (sym (mul_assoc 3 (length names.ends.now) (length hs))) in
    let none : c.fill.new.self ≡ each (words q p ws names.text.now names.ends.now) hs =
    zeros ∙ size
    ∙ words_none q p ws names.text.now names.ends.now hs _ (tag_at a.tags.now) c.begun_alike-first.ensures.alike
    (c.none_named.ensures c.if-none_named.true) in
    rw (c.len.ensures, none, words_all q p ws names.text.now names.ends.now hs)

pub read_names-requires-clause-zeros : goal.read_names-requires-clause-zeros
read_names-requires-clause-zeros c =
    let a = c.args in
    let names = a.names.now in
    let hs = a.tags.now.handles.now in
    let all : ℕ = 3 * (length names.ends.now * length hs) in
    let fills : c.fill.new.self ≡ replicate (length (take all a.out.now)) 0 = search rules in
    let size = ap (λ (k : ℕ). replicate k 0) (sym (mul_assoc 3 (length names.ends.now) (length hs))) in
    rw c.len.ensures (cleared_first a.out.now c.fill.new.self all c.requires fills ∙ size)
