-- `tree::settle` meets its contract: whatever tags were open at first, some of them are left.
use mathlib.Core.Path.{◌≡◌}
use mathlib.Core.List.{List}
use Prim.Native.Nat.{ℕ}
use lib.ListN.{length}
use Rattle.rules.specs.declared.Node.{Node}
use Rattle.tree.specs.Held.{Rows}
use Rattle.tree.proofs.Settling.{Left}
use Rattle.tree.proofs.settle.Given as goal

pub record Along (last : ℕ) (t₀ : List ℕ) (inner : ℕ) (t₁ : List ℕ) (p : ℕ) : Type 0 where
  pub size : length t₁ ≡ length t₀
  pub left : (t hd : List ℕ) (ns : List Node) (hs : List ℕ) → Rows t₀ t hd ns hs inner → Left last t₁ t hd p ns hs

abbrev pub invariant-loop-p : goal.invariant-loop-p
invariant-loop-p l = Along l.last l.initial.table l.inner l.table l.p

-- a tag that is open stands after those around it
abbrev pub decreases-loop-p : goal.decreases-loop-p
decreases-loop-p l = l.p
