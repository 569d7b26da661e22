-- `tag::buffer::copy_each` meets its contract: the first i bytes are copied, and behind them stands what stood there.
use mathlib.Core.Path.{◌≡◌, refl, ap, ◌∙◌}
use mathlib.Core.List.{List, ◌++◌, append-nil}
use Prim.Native.Nat.{ℕ, suc, ◌+◌, ◌≤◌, ◌<◌}
use native.Mathlib.Numerals.{add-one}
use native.Mathlib.Nat.{zero-add}
use native.Mathlib.Omega.{arith}
use lib.ListN.{length, take, drop, set, get_or, drop_of_length-le}
use lib.Seq.{paste-suc, take-length}
use Rattle.tag.proofs.buffer.copy_each.Goals as goal

-- one byte more is copied
copied : (to bytes : List ℕ) (i : ℕ) → i < length to → i < length bytes
    → set (take i bytes ++ drop i to) i (get_or bytes i 0) ≡ take (i + 1) bytes ++ drop (i + 1) to
copied to bytes i h k =
    let z : 0 + i < length to = omega arith in rw (zero-add i, zero-add (suc i), ← add-one i) at (paste-suc to 0 bytes i 0 z k)

pub loop-i-init : goal.loop-i-init
loop-i-init c = refl

pub loop-i-preserved : goal.loop-i-preserved
loop-i-preserved c = let l = c.loop-i in
    let a = c.args in
    ap (λ d. set d l.i (get_or a.bytes.now l.i 0)) l.invariant ∙ copied a.to.now a.bytes.now l.i (omega arith) (omega arith)

pub returns : goal.returns
returns c = let l = c.loop-i in
    let s = c.args.bytes.now in
    let done : l.i ≡ length s = omega arith in
    let whole : length c.args.to.now ≤ length s = omega arith in
    l.invariant ∙ rw (done, take-length, drop_of_length-le c.args.to.now whole) (append-nil s)
