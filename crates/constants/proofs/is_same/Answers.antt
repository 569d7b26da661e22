-- `constants::is_same` meets its contract: the lists are as long, and each pair of bytes is equal; or they are not as long.
use mathlib.Core.Path.{◌∙◌}
use Prim.Native.Nat.{ℕ}
use lib.Dec.{eqb}
use borrow.Author.Tests.{ne_eqb}
use Rattle.std.proofs.Common.{rules, tests}
use Rattle.std.proofs.lemmas.Iterator.{YieldsList-from_slice, YieldsList-from_zip}
use Rattle.std.proofs.lemmas.Iterator.Search.{all_from_yields_List}
use Rattle.rules.proofs.Names.{agree_uneven}
use Rattle.constants.proofs.Pairs.{all_pairs}
use Rattle.constants.proofs.is_same.Goals as goal

pub returns-then-x-y : goal.returns-then-x-y
returns-then-x-y c =
    let x = c.args.x.now in
    let y = c.args.y.now in
    all_from_yields_List {s = c.zip.result} (λ (p : ℕ × ℕ). eqb p.0 p.1) c.all.new.self _ _ c.all.ensures.ran
    (YieldsList-from_zip (YieldsList-from_slice x (cc)) (YieldsList-from_slice y (cc))) (λ p b q k. search (rules, tests))
    ∙ all_pairs (λ b. b) x y c.if-x-y.true

pub returns-else-x-y : goal.returns-else-x-y
returns-else-x-y c =
    ne_eqb _ _ c.if-x-y.false ∙ agree_uneven (λ b. b) _ _ c.if-x-y.false
