-- Byte by byte.
use mathlib.Core.Path.{◌≡◌, ap, ◌∙◌}
use mathlib.Core.Bool.{Bool, true, false}
use mathlib.Core.List.{List}
use Prim.Native.Nat.{ℕ, ◌+◌, ◌<◌}
use native.Mathlib.Numerals.{add-one}
use native.Mathlib.Omega.{arith}
use lib.ListN.{length, get_or, take, drop, length-take}
use Rattle.rules.specs.Bytes.{is}
use Rattle.rules.specs.Scan.{pick}
use Rattle.rules.specs.Profile.{white_of}
use Rattle.rules.proofs.Profile.{fine_facts}
use Rattle.profile.proofs.White.{among, white_byte, white_low, cleared, one_more, laid}
use Rattle.profile.proofs.valid.Profile.marks.Goals as goal

pub loop-b-init : goal.loop-b-init
loop-b-init c = λ b.
    let base = ap (λ (f : ℕ → Bool). f b) c.new-t.ensures.white in
    c.set_white-2.ensures b ∙ ap (pick (is 32 b) false) (c.set_white.ensures b ∙ ap (pick (is 10 b) false) base) ∙ cleared (is 32 b) (is 10 b)

-- the white bytes are four
inside : (q : List ℕ) (k : ℕ) → k < length (take 4 (drop 4 q)) → k < 4
inside q k h = omega (arith, h, length-take 4 (drop 4 q))

pub set_white-requires-in-loop-b : goal.set_white-requires-in-loop-b
set_white-requires-in-loop-b c =
    let q = c.args.self.now.bytes.now in
    let k = c.loop-b.b-index in
    let h = inside q k c.loop-b-test.true in
    rw (white_byte q k h) (white_low (fine_facts q c.args.self.now.fine) k h)

pub loop-b-preserved : goal.loop-b-preserved
loop-b-preserved c = λ b.
    let q = c.args.self.now.bytes.now in
    let k = c.loop-b.b-index in
    let next = is (get_or q (4 + k) 0) b in
    let set = rw (white_byte q k (inside q k c.loop-b-test.true)) at (c.set_white-in-loop-b.ensures b) in
    rw add-one (set ∙ ap (pick next true) (c.loop-b.invariant b) ∙ one_more next _)

pub returns : goal.returns
unfolding white_of
returns c = λ i b.
    let q = c.args.self.now.bytes.now in
    let all : c.loop-b.b-index ≡ 4 = omega arith in
    (c.set_white-3.ensures b
    ∙ ap (pick (is 0 b) false) (c.loop-b.invariant b ∙ ap (λ (k : ℕ). among q k b) all)
    ∙ laid (is 0 b) (is (get_or q 4 0) b) (is (get_or q 5 0) b) (is (get_or q 6 0) b) (is (get_or q 7 0) b))
    i
