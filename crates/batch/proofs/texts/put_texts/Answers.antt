-- `batch::texts::put_texts` meets its contract: the texts of the first i handles stand in the lent bytes, and their ends in the lent places.
use Rattle.std.proofs.Common.{ℕ, ap, ◌∙◌, length, replicate}
use borrow.Author.Tests.{lt-ltb, le-ltb}
use Rattle.rules.specs.Text.{inner_text}
use Rattle.rules.specs.Lists.{each}
use Rattle.rules.specs.Batch.{texts_found, ends_found}
use Rattle.batch.proofs.Joined.{texts_none, texts_short, texts_more, texts_fit, texts_bytes, texts_ends}
use Rattle.batch.proofs.texts.put_texts.Goals as goal

pub loop-i-init : goal.loop-i-init
loop-i-init c =
    let t = c.args.s.now.tags in
    texts_none (inner_text t.document.page.now t.document.table.now) t.handles.now c.args.ends.now c.args.out.now c.requires

pub returns-in_default : goal.returns-in_default
unfolding texts_found
returns-in_default c =
    let d = c.args.s.now.tags.document in
    let T = inner_text d.page.now d.table.now in
    let hs = c.args.s.now.tags.handles.now in
    let w = c.refuse_texts.ensures in
    let short = texts_short T hs c.loop-i.invariant c.loop-i-test.true c.in_default.ensures.end in
    record {
      is = rw (lt-ltb (length c.args.out.now) (length (each T hs)) short) w.is;
      ends_left = rw w.is (w.ends_left ∙ ap (λ (n : ℕ). replicate n 0) c.loop-i.auto.ends);
      out_left = rw w.is (w.out_left ∙ ap (λ (n : ℕ). replicate n 0) (c.put_text.ensures.size ∙ c.loop-i.auto.out));
    }

pub loop-i-preserved : goal.loop-i-preserved
loop-i-preserved c =
    let d = c.args.s.now.tags.document in
    let end = c.in-Some.ensures.end in
    texts_more (inner_text d.page.now d.table.now) c.args.s.now.tags.handles.now c.loop-i.invariant c.loop-i-test.true end.0 end.1

pub returns : goal.returns
unfolding texts_found ends_found
returns c =
    let d = c.args.s.now.tags.document in
    let T = inner_text d.page.now d.table.now in
    let hs = c.args.s.now.tags.handles.now in
    let t = c.loop-i.invariant in
    let done = c.loop-i-test.false in
    record {
      is = rw (le-ltb (length c.args.out.now) (length (each T hs)) (texts_fit T hs t done));
      ends_left = texts_ends T hs t done;
      out_left = texts_bytes T hs t done;
    }
