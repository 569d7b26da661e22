-- `attributes::Names::begun_alike` meets its contract: what each name starts with is within it.
use Rattle.std.proofs.Common.{rules, arith, ◌≡◌, ℕ, ◌∙◌, length, get_or, take}
use Rattle.std.proofs.lemmas.Iterator.{cases_from_all, YieldsList-from_range}
use Rattle.std.proofs.lemmas.List.FromFn.{length-range_with_len, get_or-range_with_len}
use Rattle.std.specs.List.{range_with_len}
use Rattle.rules.specs.Words.{Within}
use Rattle.attributes.specs.Slots.{name_at}
use Rattle.attributes.proofs.Alike.{starts_within}
use Rattle.attributes.proofs.Names.begun_alike.Goals as goal

pub returns-then-all-clause-alike : goal.returns-then-all-clause-alike
returns-then-all-clause-alike c =
    let s = c.args.self.now.text.now in
    let es = c.args.self.now.ends.now in
    let n : ℕ = length es in
    let begun : ℕ → Type 0 = λ j. Within (take 2 s) (name_at s es j) in
    let each =
    rw c.if-all.true at
    (cases_from_all _ _ _ begun (λ j. Unit {0}) c.all.ensures.ran (YieldsList-from_range 0 n n (search rules) (omega arith))
    (λ j q k. (search rules, starts_within (name_at s es j) (take 2 s) (search rules))) (λ j q k. tt)) in
    λ j l.
    let z : get_or (range_with_len 0 n) j 0 ≡ j = get_or-range_with_len 0 n j 0 l ∙ omega arith in
    rw z at (each j 0 (omega arith) (omega (arith, length-range_with_len 0 n)))
