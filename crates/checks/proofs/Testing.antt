-- The test of all handles says whether each is a tag's.
use mathlib.Core.Path.{◌≡◌, refl, sym}
use mathlib.Core.Bool.{Bool, true, false, not, ◌||◌}
use mathlib.Core.List.{List, [], ◌∷◌}
use Prim.Native.Nat.{ℕ, zero, suc}
use native.Mathlib.Omega.{arith}
use borrow.Author.Tests.{not-false}
use Rattle.std.specs.Prelude.{⊤}
use Rattle.std.proofs.Common.{IsTrue, ◌↔◌, Ok, Err}
use Rattle.rules.specs.Profile.{Settings}
use Rattle.rules.specs.Scan.{pick}
use Rattle.rules.specs.Sound.{is_tag}
use Rattle.rules.specs.Refusals.{asking, not_a_tag}
use Rattle.rules.specs.Batch.{some}
use Rattle.rules.specs.declared.Refusal.TheVariants.{NotATag}
use Rattle.rules.proofs.Asking.{was_fine}
use Rattle.checks.specs.Checks.{tags_checked, AllTags}

or_none : (a b : Bool) → (a || b) ≡ false → (a ≡ false) × (b ≡ false)
or_none true b e = absurd (let z : ◌≡◌ {A = ℕ} 0 1 = cc in omega arith)
or_none false b e = (refl, e)

module _ (ws : List ℕ) where
  some_none : (hs : List ℕ) → AllTags ws hs → some (not_a_tag ws) hs ≡ false
  unfolding some
  some_none [] a = refl
  some_none (h ∷ hs) a = rw (a 0 (omega arith)) (some_none hs (λ i l. a (suc i) (omega arith)))

  none_each : (hs : List ℕ) → some (not_a_tag ws) hs ≡ false → AllTags ws hs
  unfolding some
  none_each [] e i l = absurd (omega arith)
  none_each (h ∷ hs) e zero l = not-false (is_tag ws h) (or_none (not_a_tag ws h) (some (not_a_tag ws) hs) e).0
  none_each (h ∷ hs) e (suc i) l = none_each hs (or_none (not_a_tag ws h) (some (not_a_tag ws) hs) e).1 i (omega arith)

  tags_test : (hs : List ℕ) (b : Bool) → (IsTrue b ↔ AllTags ws hs) → some (not_a_tag ws) hs ≡ not b
  tags_test hs true t = some_none hs (t.0 refl)
  tags_test hs false t = go (some (not_a_tag ws) hs) refl
    where
      go : (s : Bool) → some (not_a_tag ws) hs ≡ s → s ≡ true
      go true e = refl
      go false e = t.1 (none_each hs e)

  -- once 14, 1 and 3 are past, the test tells the rest; vs are the words that were tested
  pub tags_told : (f : Settings) (p hs : List ℕ) {vs : List ℕ} (b : Bool) → Ok tt ≡ asking {A = ⊤} f p ws (Ok tt) → vs ≡ ws
      → (IsTrue b ↔ AllTags vs hs) → pick (not b) (Err NotATag) (Ok tt) ≡ tags_checked f p ws hs
  tags_told f p hs b e v t =
      let s = was_fine f p ws (sym e) in rw (s.fine, s.short, s.table, tags_test hs b (rw v at t))
