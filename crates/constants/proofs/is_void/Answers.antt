-- `constants::is_void` meets its contract: only a name as long as x can be x, and the code compares x with all of those.
use mathlib.Core.Path.{◌≡◌, sym, ap₂, ◌∙◌}
use mathlib.Core.Bool.{Bool, false, ◌||◌}
use mathlib.Core.List.{List}
use Prim.Native.Nat.{ℕ}
use native.Mathlib.Omega.{arith}
use borrow.Author.Tests.{ne_eqb}
use lib.ListN.{length}
use Rattle.rules.specs.Names.{one_of, void_names, is_void}
use Rattle.rules.proofs.Names.{or_any, of_length, one_of_length, of_length_lem}
use Rattle.constants.proofs.is_void.Goals as goal

-- of k bytes, x is void where it is one of the void names of k bytes
as_long : (k : ℕ) (x : List ℕ) → length x ≡ k → or_any false x (of_length k void_names) ≡ is_void x
as_long k x e = sym (one_of_length k x void_names e)

-- what two answers say, joined
infixl 40 ◌or◌
◌or◌ : {a b c d : Bool} → a ≡ b → c ≡ d → (a || c) ≡ (b || d)
p or q = ap₂ ◌||◌ p q

pub returns-in-2 : goal.returns-in-2
unfolding or_any of_length
returns-in-2 c = (c.is_same.ensures or c.is_same-in-2.ensures) ∙ as_long 2 c.args.x.now c.in-2.is

pub returns-in-3 : goal.returns-in-3
unfolding or_any of_length
returns-in-3 c = (c.is_same-in-3.ensures or c.is_same-in-3-2.ensures or c.is_same-in-3-3.ensures)
    ∙ as_long 3 c.args.x.now c.in-3.is

pub returns-in-4 : goal.returns-in-4
unfolding or_any of_length
returns-in-4 c = (c.is_same-in-4.ensures or c.is_same-in-4-2.ensures or c.is_same-in-4-3.ensures or c.is_same-in-4-4.ensures)
    ∙ as_long 4 c.args.x.now c.in-4.is

pub returns-in-5 : goal.returns-in-5
unfolding or_any of_length
returns-in-5 c = (c.is_same-in-5.ensures or c.is_same-in-5-2.ensures or c.is_same-in-5-3.ensures or c.is_same-in-5-4.ensures)
    ∙ as_long 5 c.args.x.now c.in-5.is

pub returns-in-6 : goal.returns-in-6
unfolding or_any of_length
returns-in-6 c = (c.is_same-in-6.ensures or c.is_same-in-6-2.ensures)
    ∙ as_long 6 c.args.x.now c.in-6.is

-- no name has another length
pub returns-in_default : goal.returns-in_default
unfolding of_length one_of
returns-in_default c = let x = c.args.x.now in
    simp (
      of_length_lem x void_names,
      ne_eqb (length x) 2 (λ e. omega arith),
      ne_eqb (length x) 3 (λ e. omega arith),
      ne_eqb (length x) 4 (λ e. omega arith),
      ne_eqb (length x) 5 (λ e. omega arith),
      ne_eqb (length x) 6 (λ e. omega arith),
    )
