-- `decimal::number_of` meets its contract. The invariant: with the digits left, n says the same number, both kept at 2^32.
use Rattle.std.proofs.Common.{◌≡◌, ◌≤◌}
use Prim.Native.Nat.{min}
use lib.ListN.{drop}
use Rattle.decimal.specs.Digits.{value_from, limit}
use Rattle.decimal.proofs.number_of.Given as goal

abbrev pub invariant-loop-digit : goal.invariant-loop-digit
invariant-loop-digit l = (l.n ≤ limit) × (min (value_from 0 l.digits) limit ≡ min (value_from l.n (drop l.digit-index l.digits)) limit)
