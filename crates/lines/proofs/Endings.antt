-- A text that was written from the start of the buffer is all that is printed, or it found no room.
use Rattle.std.proofs.Common.{Result}
use mathlib.Core.Path.{◌≡◌, refl, ◌∙◌}
use mathlib.Core.Bool.{Bool, true, false}
use mathlib.Core.List.{List}
use Prim.Native.Nat.{ℕ, ◌+◌, ◌≤◌, ◌<◌}
use native.Mathlib.Omega.{arith}
use lib.Dec.{ltb}
use lib.ListN.{length}
use lib.Seq.{sets-eq}
use borrow.Author.Tests.{ltb-true, ltb-false, lt-ltb, le-ltb}
use Rattle.rules.specs.Refusals.{Counts, counted}
use Rattle.lines.specs.Writes.{Writes, Ends}
use Rattle.lines.specs.Writer.{Puts}
use Rattle.lines.specs.declared.Writer.{Writer}
use Rattle.lines.proofs.Laws.{same_size}
use Rattle.rules.specs.declared.Refusal.{Refusal}

written : {out text o left : List ℕ} {at : ℕ} {r : Result ℕ Refusal} → Writes out 0 text o at → Ends o at left r → Counts text out r left
written {out} {text} {o} {left} {at} {r} w e = go (ltb (length out) (length text)) refl
  where
    size : length o ≡ length out
    size = same_size w

    go : (b : Bool) → ltb (length out) (length text) ≡ b → Counts text out r left
    go true q =
        let l : length out < length text = ltb-true (length out) (length text) q in
        let f : ltb (length o) at ≡ true = lt-ltb (length o) at (omega (arith, w.place, size)) in
        let answer : r ≡ counted (length out) (length text) = e.answer ∙ rw (f, q) in
        record { is = answer; left = e.bytes ∙ rw (e.answer, f, size) }
    go false q =
        let l : length text ≤ length out = ltb-false (length out) (length text) q in
        let p : at ≡ length text = omega (arith, w.place) in
        let f : ltb (length o) at ≡ false = le-ltb (length o) at (omega (arith, size)) in
        let answer : r ≡ counted (length out) (length text) = e.answer ∙ rw (f, q, p) in
        let z : 0 + length text ≡ length text = omega arith in
        record { is = answer; left = e.bytes ∙ rw (e.answer, f) (w.bytes ∙ rw z at (sets-eq text out 0 (omega arith))) }

-- by a writer that was made for the buffer
pub printed : {out text left : List ℕ} {u v : Writer} {r : Result ℕ Refusal} → u.out.now ≡ out → u.at ≡ 0 → Puts u text v → Ends v.out.now v.at left r
    → Counts text out r left
printed d e p = written (rw (d, e) at p.written)
