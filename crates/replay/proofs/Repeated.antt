-- A text, so many times.
use mathlib.Core.Path.{◌≡◌, refl, ap}
use mathlib.Core.List.{List, [], ◌∷◌, ◌++◌}
use Prim.Native.Nat.{ℕ, zero, suc, ◌+◌}
use native.Mathlib.Numerals.{add-one}
use native.Mathlib.Omega.{arith}
use lib.ListN.{length}
use borrow.Author.Tests.{eqb-true}
use Rattle.lines.specs.declared.Writer.{Writer}
use Rattle.lines.specs.Writer.{Puts}
use Rattle.lines.proofs.Laws.{then}
use Rattle.std.specs.Prelude.{◌==◌, true}
use Rattle.replay.specs.Lending.{repeated}

-- an empty text, however often, is no text
pub repeated_none : (k : ℕ) (text : List ℕ) → (length text == 0) ≡ true → repeated k text ≡ []
unfolding repeated
repeated_none zero text e = refl
repeated_none (suc k) [] e = ap (λ (t : List ℕ). t ++ []) (repeated_none k [] refl)
repeated_none (suc k) (b ∷ bs) e = let z : suc (length bs) ≡ 0 = eqb-true (suc (length bs)) 0 e in absurd (omega arith)

-- the text once more
pub then_again : {u v w : Writer} (text : List ℕ) (i : ℕ) → Puts u (repeated i text) v → Puts v text w → Puts u (repeated (i + 1) text) w
unfolding repeated
then_again text i a b = rw add-one (then a b)
