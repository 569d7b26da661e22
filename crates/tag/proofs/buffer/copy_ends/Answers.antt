-- `tag::buffer::copy_ends` meets its contract: the first K bytes and the last K, laid over each other, are the bytes.
use Rattle.std.proofs.Common.{◌≡◌, ◌-◌, ◌++◌, length, take, drop, sym, ap, ap₂, ◌∙◌, arith, length-take-le, length-drop, take-take, take_all, take-append-drop}
use Rattle.std.proofs.lemmas.Simd.{take_more_put_chunk, length-put_chunk}
use lib.Lanes.{put_chunk}
use Rattle.tag.proofs.buffer.copy_ends.Goals as goal

pub returns : goal.returns
returns g c =
    let K = g.row.K in
    let s = c.args.bytes.now in
    let to = c.args.to.now in
    let last = length s - K in
    let head = take K s in
    let tail = take K (drop last s) in
    let once = put_chunk 0 to head in
    let twice = put_chunk last once tail in
    let head-long : length head ≡ K = length-take-le K s c.requires.covers.0 in
    let tail-all : tail ≡ drop last s = take_all K (drop last s) (omega (arith, length-drop last s)) in
    let once-long : length once ≡ length s = length-put_chunk 0 to head ∙ c.requires.size in
    -- before the last K bytes stand the first ones
    let front : take last once ≡ take last s = sym (take-take last K once (omega arith))
    ∙ ap (take last) (take_more_put_chunk 0 to head K (omega arith) (omega arith)) ∙ take-take last K s (omega arith) in
    sym (take_all (length s) twice (omega (arith, length-put_chunk last once tail)))
    ∙ take_more_put_chunk last once tail (length s) (omega (arith, ap length tail-all, length-drop last s)) (omega arith)
    ∙ ap₂ (λ a b. a ++ b) front tail-all ∙ take-append-drop last s
