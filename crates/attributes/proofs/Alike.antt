-- Names that begin alike: a tag in whose opening that byte does not stand has none of them.
use mathlib.Core.Path.{◌≡◌, refl, ap, sym, ◌∙◌}
use mathlib.Core.Bool.{Bool, true}
use Rattle.std.specs.List.{starts_with}
use Rattle.std.proofs.lemmas.Bool.Decides.{Decides-eqb}
use Rattle.std.proofs.lemmas.Slice.Eq.{starts_is}
use lib.Dec.{eqb}
use mathlib.Core.List.{List, []}
use Prim.Native.Nat.{ℕ, ◌*◌, ◌≤◌, ◌<◌}
use native.Mathlib.Omega.{arith}
use lib.ListN.{length, drop, replicate}
use lib.Seq.{length-take-le}
use Rattle.rules.specs.Scan.{part}
use Rattle.rules.specs.Words.{Within}
use Rattle.rules.specs.Lookup.{lookup, up_to}
use Rattle.rules.specs.Refusals.{held_numbers}
use Rattle.rules.specs.declared.Node.{Node}
use Rattle.rules.specs.declared.Held.TheVariants.{Absent}
use Rattle.rules.proofs.Within.{within_within}
use Rattle.laws.proofs.CutLexer.{part_cut}
use Rattle.laws.proofs.Opening.{lookup_out}
use Rattle.attributes.specs.Noting.{held_words}
use Rattle.attributes.specs.Slots.{name_at, AllHave}
use Rattle.attributes.proofs.Words.{names_at, names_absent}

-- what xs starts with is within it
pub starts_within : (xs k : List ℕ) → true ≡ starts_with eqb xs k → Within k xs
starts_within xs k e =
    record { before = []; after = drop (length k) xs; is = (starts_is Decides-eqb xs k true e).0 refl }

module _ (white : ℕ → Bool) (p : List ℕ) (n : Node) (l : n.stop < n.opened) (h : n.opened ≤ length p) where
  q : List ℕ
  q = up_to p n

  size : length q ≡ n.opened
  unfolding q
  size = length-take-le n.opened p h

  pub absent_words : (s es k : List ℕ) → AllHave s es k → (Within k (part p n.stop n.opened) → ⊥)
      → replicate (3 * length es) 0 ≡ held_words (lookup white p n) s es
  unfolding q
  absent_words s es k alike out =
      let none : (j : ℕ) → j < length es → held_numbers Absent ≡ held_numbers (lookup white p n (name_at s es j)) =
      λ j m.
      let apart : Within (name_at s es j) (part q n.stop (length q)) → ⊥ =
      λ w. out (within_within (alike j m) (rw (size, part_cut p n.opened n.stop n.opened (omega arith)) at w)) in
      sym (ap held_numbers (lookup_out white q n.stop (name_at s es j) apart (omega (arith, size)))) in
      names_absent s 0 es ∙ names_at s (λ k. held_numbers Absent) (λ k. held_numbers (lookup white p n k)) 0 es none
