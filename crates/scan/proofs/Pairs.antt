-- What stands within a part has a pair of bytes there: its first and its last.
use mathlib.Core.Path.{◌≡◌, sym, ◌∙◌}
use mathlib.Core.Bool.{true≢false}
use mathlib.Core.List.{List}
use Prim.Native.Nat.{ℕ, ◌+◌, ◌-◌, ◌≤◌, ◌<◌}
use native.Mathlib.Omega.{arith}
use lib.ListN.{length, get_or}
use borrow.Author.Tests.{eq-eqb}
use Rattle.rules.specs.Scan.{part}
use Rattle.rules.specs.Words.{Within}
use Rattle.rules.proofs.Within.{stands}
use Rattle.scan.specs.Pairs.{Nowhere, pair_at}

-- the test of k's first and last byte
pub hold_none : (s : List ℕ) (d a b : ℕ) (k : List ℕ) (from to : ℕ) → from ≤ to → 0 < length k → d ≡ length k - 1 → a ≡ get_or k 0 0
    → b ≡ get_or k d 0 → Nowhere (pair_at s d a b) from (to - d) → Within k (part s from to) → ⊥
hold_none s d a b k from to l m q e f none w =
    let t = stands s from to l w in
    let z : t.at + 0 ≡ t.at = omega arith in
    let one = eq-eqb (get_or s t.at 0) a (rw z at (t.byte 0 m) ∙ sym e) in
    let other = eq-eqb (get_or s (t.at + d) 0) b (t.byte d (omega arith) ∙ sym f) in
    true≢false (rw (one, other) at (none t.at t.low (omega (arith, t.high))))
