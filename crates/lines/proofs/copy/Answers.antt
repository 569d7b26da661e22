-- `lines::copy` meets its contract. The invariant: the first bytes are copied.
use native.Mathlib.Omega.{arith}
use mathlib.Core.Path.{◌≡◌, ap, ◌∙◌}
use mathlib.Core.List.{append-nil}
use Prim.Native.Nat.{ℕ, ◌+◌}
use lib.ListN.{get_or, set}
use lib.Seq.{paste}
use Rattle.std.proofs.lemmas.List.{drop_all}
use Rattle.std.proofs.lemmas.List.Edits.{paste_none, paste_more, paste_all}
use Rattle.lines.proofs.copy.Goals as goal

pub loop-i-init : goal.loop-i-init
loop-i-init c = paste_none c.args.to.now 0 c.args.bytes.now

pub loop-i-preserved : goal.loop-i-preserved
loop-i-preserved c =
    let to = c.args.to.now in
    let bytes = c.args.bytes.now in
    let i = c.loop-i.i in
    let e : i ≡ 0 + i = omega arith in
    rw c.loop-i.invariant (ap (λ (k : ℕ). set (paste to 0 bytes i) k (get_or bytes i 0)) e
    ∙ paste_more to 0 bytes i 0 (omega arith) (omega arith))

pub returns : goal.returns
returns c =
    let i = c.loop-i.i in
    let e : 0 + i ≡ i = omega arith in
    c.loop-i.invariant ∙ paste_all c.args.to.now 0 c.args.bytes.now i (omega arith)
    ∙ rw (e, drop_all i c.args.to.now (omega arith), append-nil)
