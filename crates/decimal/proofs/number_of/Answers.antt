-- `decimal::number_of` meets its contract. The invariant: with the digits left, n says the same number, both kept at 2^32.
use mathlib.Core.Path.{◌≡◌, sym, ◌∙◌}
use native.Mathlib.Omega.{arith}
use lib.ListN.{length, drop_of_length-le}
use Prim.Native.Nat.{◌≤◌, min}
use borrow.Author.Tests.{eqb-true, eqb-false}
use Rattle.decimal.specs.Digits.{value_from, limit}
use Rattle.decimal.proofs.Numbers.{digit_least, digit_more, said, too_long, too_short}
use Rattle.decimal.proofs.number_of.Goals as goal

pub returns-then-is_empty : goal.returns-then-is_empty
returns-then-is_empty c =
    sym (too_short c.args.digits.now (omega (arith, eqb-true (length c.args.digits.now) 0 (sym c.is_empty.ensures ∙ c.if-is_empty.true))))

pub returns-then-digits-gt10 : goal.returns-then-digits-gt10
returns-then-digits-gt10 c = sym (too_long c.args.digits.now (omega (arith, c.if-digits-gt10.true)))

pub overflow_sub-digit : goal.overflow_sub-digit
overflow_sub-digit c = digit_least c.args.digits.now c.loop-digit.digit-index c.requires c.loop-digit-test.true

pub loop-digit-preserved : goal.loop-digit-preserved
loop-digit-preserved c =
    let l = c.loop-digit in
    let more = digit_more c.args.digits.now l.digit-index l.n c.from.result c.min-n.result c.loop-digit-test.true c.from.ensures c.min-n.ensures in
    (omega (arith, c.min-n.ensures), l.invariant.1 ∙ more)

pub returns : goal.returns
unfolding value_from
returns c =
    let l = c.loop-digit in
    let h : length c.args.digits.now ≤ l.digit-index = omega (arith, c.loop-digit-test.false) in
    let e = drop_of_length-le c.args.digits.now h in
    let some = eqb-false (length c.args.digits.now) 0 (sym c.is_empty.ensures ∙ c.if-is_empty.false) in
    let kept : l.n ≡ min (value_from 0 c.args.digits.now) limit = omega (arith, rw e at l.invariant.1) in
    c.ok.ensures.value ∙ said c.args.digits.now l.n _ (omega (arith, some)) (omega (arith, c.if-digits-gt10.false)) kept c.try_from.ensures
