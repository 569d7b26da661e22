-- What is lent lies in the buffers.
use mathlib.Core.Path.{◌≡◌, refl, subst}
use mathlib.Core.Bool.{Bool, true, false, ◌&&◌}
use Prim.Native.Nat.{ℕ, ◌*◌}
use native.Mathlib.Omega.{arith}
use lib.Dec.{leb}
use borrow.Author.Tests.{leb-true}
use Rattle.std.proofs.Common.{Some, None}
use Rattle.rules.specs.Scan.{pick}
use Rattle.records.specs.declared.Question.{Question}
use Rattle.records.specs.declared.Question.TheVariants.{Parse}
use Rattle.replay.specs.Lending.{lent_by, IsWithin}
use Rattle.replay.specs.declared.lending.Lent.{Lent}

-- what is lent lies in the page's and the table's buffer
pub lent_within : (q : Question) (n page table : ℕ) (before lent : Lent) → IsWithin before page table → Some lent ≡ lent_by q n page table before
    → IsWithin lent page table
lent_within (Parse words times) n page table before lent w e = go (leb (n * times) page) (leb words table) refl refl e
  where
    go : (x y : Bool) → leb (n * times) page ≡ x → leb words table ≡ y
        → Some lent ≡ pick (x && y) (Some (record { bytes = n * times; words = words })) None → IsWithin lent page table
    go true true f g d =
        let p : n * times ≡ lent.bytes = cc in
        let q : words ≡ lent.words = cc in
        record { bytes = omega (arith, leb-true (n * times) page f); words = omega (arith, leb-true words table g) }
    go true false f g d = cc
    go false y f g d = cc
lent_within q n page table before lent w e = let p : before ≡ lent = cc in subst (λ (l : Lent). IsWithin l page table) p w
