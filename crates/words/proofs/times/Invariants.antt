-- `words::times` meets its contract: n words before `start` are k, and from there to i stands the word so far.
use mathlib.Core.Path.{◌≡◌}
use Prim.Native.Nat.{zero, ◌+◌, ◌-◌, ◌≤◌}
use lib.ListN.{length, drop}
use Rattle.rules.specs.Scan.{part}
use Rattle.rules.specs.Words.{words, words_from, times}
use Rattle.words.specs.Separators.{separators}
use Rattle.words.proofs.times.Given as goal

abbrev pub invariant-loop-i : goal.invariant-loop-i
invariant-loop-i l =
    (l.start ≤ l.i)
    × (l.i ≤ length l.v)
    × (l.n ≤ l.i)
    × (times l.k (words (separators l.white) l.v) ≡ l.n + times l.k (words_from (separators l.white) (part l.v l.start l.i) zero (drop l.i l.v)))

abbrev pub decreases-loop-i : goal.decreases-loop-i
decreases-loop-i l = length l.v - l.i
