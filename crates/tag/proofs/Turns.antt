-- One turn of a walk over a tag's attributes. What those from i on hold is what the next one holds, or what those after it hold.
use Rattle.std.proofs.Common.{Option, Some, None}
use mathlib.Core.Path.{◌≡◌, refl, sym, ◌∙◌}
use mathlib.Core.Bool.{Bool, true, false}
use mathlib.Core.List.{List, [], ◌∷◌}
use Prim.Native.Nat.{ℕ, ◌≤◌, ◌<◌}
use native.Mathlib.Omega.{arith}
use lib.ListN.{length}
use Rattle.rules.specs.Bytes.{is_ident}
use Rattle.rules.specs.Scan.{pick, skip, here}
use Rattle.rules.specs.Attributes.{not_closing, attribute_at, attribute_next}
use Rattle.rules.specs.declared.Attribute.{Attribute}
use Rattle.rules.proofs.Runs.{skip_ge, skip_le}
use Rattle.rules.proofs.Places.{here_below}
use Rattle.tag.proofs.Fuel.{from, from_none, from_more, from_on}
use Rattle.tag.specs.Tag.{next_attribute}

module _ (white : ℕ → Bool) (p : List ℕ) where
  -- the attributes from i on are a and those after it; its name lies in the page, and the walk goes on later in the page
  pub record Turn (i : ℕ) (a : Attribute) : Type 0 where
    pub cut : from white p i ≡ a ∷ from white p a.next
    pub name : a.name ≤ a.stop
    pub stop : a.stop ≤ length p
    pub later : i < a.next
    pub next : a.next ≤ length p

  module _ (i : ℕ) where
    abbrev at : ℕ
    at = skip white p i

    there : here not_closing p at ≡ true → Turn i (attribute_at white p at)
    unfolding attribute_at attribute_next
    there y =
        let b : at < length p = here_below not_closing p at _ refl y in
        let on = from_on white p i at refl y in
        record {
          cut = from_more white p i at refl y;
          name = skip_ge is_ident p at;
          stop = skip_le is_ident p at (omega arith);
          later = on.0;
          next = on.1;
        }

    module _ {r : Option Attribute} (e : r ≡ next_attribute white p i) where
      -- the next one was found
      pub next_left : (a : Attribute) → r ≡ Some a → Turn i a
      unfolding next_attribute
      next_left a f = go (here not_closing p at) refl (sym e ∙ f)
        where
          go : (b : Bool) → here not_closing p at ≡ b → pick b (Some (attribute_at white p at)) None ≡ Some a → Turn i a
          go true y q = let z : attribute_at white p at ≡ a = cc in rw (← z) (there y)
          go false y q = let z : ◌≡◌ {A = ℕ} 0 1 = cc in absurd (omega arith)

      -- there is none
      pub none_left : r ≡ None → from white p i ≡ []
      unfolding next_attribute
      none_left f = go (here not_closing p at) refl (sym e ∙ f)
        where
          go : (b : Bool) → here not_closing p at ≡ b → pick b (Some (attribute_at white p at)) None ≡ None → from white p i ≡ []
          go true y q = let z : ◌≡◌ {A = ℕ} 0 1 = cc in absurd (omega arith)
          go false y q = from_none white p i at refl y

  pub turn : {i : ℕ} → i ≤ length p → {r : Option Attribute} → r ≡ next_attribute white p i → (a : Attribute) → r ≡ Some a → Turn i a
  turn h e a f = next_left _ e a f

  pub none : {i : ℕ} → i ≤ length p → {r : Option Attribute} → r ≡ next_attribute white p i → r ≡ None → from white p i ≡ []
  none h e f = none_left _ e f
