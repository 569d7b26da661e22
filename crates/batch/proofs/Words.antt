-- The words of a handle for several names.
use mathlib.Core.Path.{◌≡◌, refl, sym, ◌∙◌}
use mathlib.Core.Bool.{Bool}
use mathlib.Core.List.{List, [], ◌∷◌}
use Prim.Native.Nat.{ℕ, suc, ◌+◌, ◌*◌, ◌≤◌, ◌<◌}
use native.Mathlib.Nat.{mul-suc}
use native.Mathlib.Omega.{arith}
use lib.ListN.{length, get_or, replicate, replicate-append-replicate}
use Rattle.rules.specs.Profile.{Settings, white_of, settings_of}
use Rattle.rules.specs.Table.{node_at}
use Rattle.rules.specs.Lookup.{lookup}
use Rattle.rules.specs.Lists.{each}
use Rattle.rules.specs.Batch.{each_name, three_of}
use Rattle.rules.specs.declared.Node.{Node}
use Rattle.rules.proofs.Asking.{SoundTag}
use Rattle.rules.proofs.Sound.{sound_rows}
use Rattle.attributes.specs.Noting.{held_words}
use Rattle.attributes.specs.Slots.{AllHave}
use Rattle.attributes.proofs.Words.{length_names}
use Rattle.attributes.proofs.Alike.{absent_words}
use Rattle.batch.specs.Names.{Unnamed}
use Rattle.batch.proofs.Handles.{length_each}
use Rattle.batch.proofs.Three.{three_length}

-- the name of a tag ends before its opening does, which lies in the page
opening : {f : Settings} (p ws : List ℕ) {h : ℕ} → SoundTag f p ws h
    → ((node_at ws h).stop < (node_at ws h).opened) × ((node_at ws h).opened ≤ length p)
opening p ws {h} s =
    let r = sound_rows (length p) ws s.sound_table.table h s.below in
    let t = r.tag s.tag in (omega arith, omega (arith, r.end_len))

module _ (q p ws s es : List ℕ) where
  abbrev pub words : ℕ → List ℕ
  words h = each_name (three_of (settings_of q) p ws h) s 0 es

  pub words_length : (h : ℕ) → length (words h) ≡ 3 * length es
  words_length h = length_names s (three_of (settings_of q) p ws h) 3 (λ k. three_length q p ws k h) 0 es

  pub words_all : (hs : List ℕ) → length (each words hs) ≡ 3 * (length es * length hs)
  words_all hs = length_each words (3 * length es) words_length hs ∙ omega arith

  -- they are what is looked up for each
  pub words_held : (h : ℕ) {white : ℕ → Bool} → white ≡ white_of q → {n : Node} → n ≡ node_at ws h
      → held_words (lookup white p n) s es ≡ words h
  words_held h w e = rw (w, e)

  -- where k is within each name and in no handle's opening, nothing is held
  zeros_each : (hs : List ℕ) → ((i : ℕ) → i < length hs → words (get_or hs i 0) ≡ replicate (3 * length es) 0)
      → replicate (3 * length es * length hs) 0 ≡ each words hs
  unfolding each
  zeros_each [] e = let z : 3 * length es * 0 ≡ 0 = omega arith in rw z
  zeros_each (h ∷ hs) e =
      let z : 3 * length es * suc (length hs) ≡ 3 * length es + 3 * length es * length hs = mul-suc (3 * length es) (length hs) ∙ omega arith in
      rw (
        z,
        ← replicate-append-replicate {A = ℕ} (3 * length es) (3 * length es * length hs) 0,
        e 0 (omega arith),
        zeros_each hs (λ i l. e (suc i) (omega arith)),
      )

  pub words_none : (hs k : List ℕ) → ((i : ℕ) → i < length hs → SoundTag (settings_of q) p ws (get_or hs i 0)) → AllHave s es k
      → Unnamed p ws k hs → replicate (3 * length es * length hs) 0 ≡ each words hs
  words_none hs k t alike none =
      zeros_each hs
      (λ i l.
      let o = opening p ws (t i l) in
      sym (absent_words (white_of q) p (node_at ws (get_or hs i 0)) o.0 o.1 s es k alike (none i l) ∙ words_held (get_or hs i 0) refl refl))
