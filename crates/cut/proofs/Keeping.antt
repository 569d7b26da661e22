-- Finds among the finished tags of a table, as those of other finds that are kept.
use Prim.Native.Nat.{ℕ, suc, ◌+◌, ◌-◌, ◌≤◌, ◌<◌}
use native.Mathlib.Omega.{arith}
use mathlib.Core.Bool.{Bool, true, ◌&&◌}
use mathlib.Core.Path.{◌≡◌, refl}
use mathlib.Core.List.{List, []}
use lib.Dec.{ltb}
use borrow.Author.Tests.{lt-ltb}
use Rattle.std.proofs.lemmas.Bool.{and_parts}
use Rattle.rules.specs.Lists.{from, only}
use Rattle.rules.specs.Table.{node_at}
use Rattle.rules.specs.Sound.{count_of, last_at, sound}
use Rattle.rules.specs.Finds.{shows, passing}
use Rattle.rules.specs.declared.Node.{Node}
use Rattle.rules.specs.declared.View.{View}
use Rattle.rules.specs.declared.View.TheVariants.{Finished}
use Rattle.rules.proofs.Sound.{sound_rows}
use Rattle.cut.specs.View.{is_finished, Left, Keeps}
use Rattle.cut.proofs.Finds.{kept_finds}
use Rattle.cut.proofs.Selected.{Both}

module _ (kept : ℕ → Bool) where
  -- fs are those of gs that are kept
  abbrev pub KeptOf : List ℕ → List ℕ → Type 0
  KeptOf fs gs = fs ≡ only kept gs

  pub none_kept : KeptOf [] []
  unfolding only
  none_kept = refl

  pub keeps : (a b : Left) → Both KeptOf a.0 a.1 b.0 b.1 → Keeps kept a b
  keeps a b s = record { refused = s.refused; finds = s.finds }

-- A walk over rows of ws finds finished tags, by one test; of those that the view v shows, another walk finds rows of vs by another test.
-- Where the tests agree on the finished tags of ws, and the walks go over the same of these, the first keeps them of the second.
pub finished_among : (ws vs : List ℕ) (v : View) (f g : Node → Bool) (lo k m : ℕ) → ((h : ℕ) → lo ≤ h → h < lo + k → h < count_of ws)
    → ((h : ℕ) → is_finished ws h ≡ true → f (node_at ws h) ≡ (shows v (node_at vs h) && g (node_at vs h)))
    → ((h : ℕ) → is_finished ws h ≡ true → lo ≤ h → h < lo + k → h < lo + m)
    → ((h : ℕ) → is_finished ws h ≡ true → lo ≤ h → h < lo + m → h < lo + k)
    → KeptOf (is_finished ws) (passing Finished f ws (from lo k)) (passing v g vs (from lo m))
finished_among ws vs v f g lo k m rows alike F G =
    kept_finds (is_finished ws) (λ h. shows Finished (node_at ws h) && f (node_at ws h)) (λ h. shows v (node_at vs h) && g (node_at vs h)) lo k m
    (λ h l b e. rw (lt-ltb h (count_of ws) (rows h l b)) (and_parts (shows Finished (node_at ws h)) (f (node_at ws h)) e).0)
    (λ h e. let q = and_parts (ltb h (count_of ws)) (shows Finished (node_at ws h)) e in rw q.1 (alike h e)) F G

-- below a tag of a sound table stand rows of it
pub below_rows : (len : ℕ) (ws : List ℕ) (h : ℕ) → sound len ws ≡ true → h < count_of ws → suc h + (last_at ws h - h) ≤ count_of ws
below_rows len ws h s l = let r = sound_rows len ws s h l in omega (arith, r.last_low, r.last_high)
