-- The reading of a tag's attributes, each noted before the next is read.
use Rattle.std.proofs.Common.{Option, Some, None}
use mathlib.Core.Path.{◌≡◌, refl, ap, sym, ◌∙◌}
use mathlib.Core.Bool.{Bool}
use mathlib.Core.List.{List, [], ◌∷◌}
use Prim.Native.Nat.{ℕ, ◌*◌, ◌≤◌}
use native.Mathlib.Omega.{arith}
use lib.ListN.{length, replicate, length-replicate}
use Rattle.rules.specs.Lookup.{InsideAssigned, lookup_from}
use Rattle.rules.specs.Profile.{page_limit}
use Rattle.rules.specs.Refusals.{held_numbers}
use Rattle.rules.specs.declared.Attribute.{Attribute}
use Rattle.rules.specs.declared.Held.{Held}
use Rattle.rules.specs.declared.Held.TheVariants.{Absent}
use Rattle.rules.proofs.Lookup.{AllInside, attributes_inside}
use Rattle.tag.proofs.Fuel.{from}
use Rattle.tag.specs.Tag.{InPage}
use Rattle.attributes.specs.Noting.{held_words, noted, NotesAll, FitsWords}
use Rattle.attributes.proofs.Notes.{all_noted, all_noted_lem}
use Rattle.attributes.proofs.Words.{names_absent, names_same}

inside_page : (n : ℕ) (v : Option (ℕ × ℕ)) → n ≤ page_limit → InsideAssigned n v → InsideAssigned page_limit v
inside_page n None l i = tt
inside_page n (Some (a, e)) l i = (i.0, omega (arith, i.1))

module _ (white : ℕ → Bool) (p : List ℕ) where
  -- a is the first attribute from i on
  abbrev pub First : ℕ → Attribute → Type 0
  First i a = from white p i ≡ a ∷ from white p a.next

  pub placed : (i : ℕ) {a : Attribute} → First i a → InPage (length p) a → length p ≤ page_limit → FitsWords (length p) a
  placed i {a} cut in_page l =
      let all : AllInside white p (a ∷ from white p a.next) = rw cut at (attributes_inside white p (length p) i) in
      record { name = in_page.name; stop = in_page.stop; value = inside_page (length p) a.value l all.0 }

  module _ (start : ℕ) (s es : List ℕ) where
    -- the attributes from `start` up to i were noted, and the words are w
    pub record Reading (i : ℕ) (w : List ℕ) : Type 0 where
      pub inside : i ≤ length p
      pub size : length w ≡ 3 * length es
      pub held : List ℕ → Held
      pub words : w ≡ held_words held s es
      pub rest : (k : List ℕ) → all_noted p k (held k) (from white p i) ≡ all_noted p k Absent (from white p start)

    pub reading_none : start ≤ length p → {w : List ℕ} → w ≡ replicate (3 * length es) 0 → Reading start w
    reading_none l e =
        record {
          inside = l;
          size = ap length e ∙ length-replicate (3 * length es) 0;
          held = λ k. Absent;
          words = e ∙ names_absent s 0 es;
          rest = λ k. refl;
        }

    module _ {i : ℕ} {w : List ℕ} (r : Reading i w) where
      pub reading_more : {a : Attribute} → First i a → InPage (length p) a → {w₁ : List ℕ} → length w₁ ≡ length w
          → NotesAll p a s es w w₁ → Reading a.next w₁
      reading_more {a} cut in_page {w₁} m notes =
          record {
            inside = in_page.next;
            size = m ∙ r.size;
            held = λ k. noted p a k (r.held k);
            words = notes r.held r.words;
            rest = λ k. sym (ap (all_noted p k (r.held k)) cut) ∙ r.rest k;
          }

      held_all : from white p i ≡ [] → (k : List ℕ) → r.held k ≡ lookup_from white p start k
      unfolding lookup_from
      held_all e k = sym (ap (all_noted p k (r.held k)) e) ∙ r.rest k ∙ all_noted_lem white p k (from white p start)

      pub reading_all : from white p i ≡ [] → w ≡ held_words (lookup_from white p start) s es
      reading_all e =
          r.words
          ∙ names_same s (λ k. held_numbers (r.held k)) (λ k. held_numbers (lookup_from white p start k))
          (λ k. ap held_numbers (held_all e k)) 0 es
