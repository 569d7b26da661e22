-- What a check of refusals 14, 1 and 3, and of 4, tells of the answers that come after it.
use Rattle.std.specs.Prelude.{⊤}
use Rattle.std.proofs.Common.{Result, Ok, Err}
use mathlib.Core.Path.{◌≡◌, refl, sym, ◌∙◌}
use mathlib.Core.Bool.{Bool, true, false, ◌&&◌}
use mathlib.Core.List.{List}
use Prim.Native.Nat.{ℕ, ◌≤◌, ◌<◌}
use native.Mathlib.Omega.{arith}
use borrow.Author.Tests.{ltb-true, ltb-false, eqb-true, not-false}
use lib.Dec.{ltb}
use lib.ListN.{length}
use Rattle.rules.specs.Profile.{page_limit, limit_of, profile_fine, Settings, settings_of}
use Rattle.rules.specs.Scan.{pick}
use Rattle.rules.specs.Table.{node_at}
use Rattle.rules.specs.Sound.{count_of, sound, tagged}
use Rattle.rules.specs.Refusals.{Sound, profile_not_fine, page_too_long, table_not_sound, not_a_tag, on_page, asking, asking_tag, filled_by, Leaves, Refuses}
use Rattle.rules.specs.declared.Refusal.{Refusal}
use Rattle.rules.specs.declared.Refusal.TheVariants.{ProfileNotFine, PageTooLong, TableNotSound, NotATag}
use Rattle.rules.proofs.Profile.{fine_facts}
use Rattle.std.proofs.lemmas.Bool.{and_parts}

abbrev fine : Result ⊤ Refusal
fine = Ok tt

-- one test before others: where the check is fine, the test failed; where it is refused, so is every answer
after_fine : (t : Bool) (x : Refusal) (c : Result ⊤ Refusal) → pick t (Err x) c ≡ fine → (t ≡ false) × (c ≡ fine)
after_fine true x c e = let z : ◌≡◌ {A = ℕ} 0 1 = cc in absurd (omega arith)
after_fine false x c e = (refl, e)

-- where it is refused so is an answer, if it is where the rest is
refused_then : (t : Bool) (y x : Refusal) {c : Result ⊤ Refusal} {A : Type 0} {b : Result A Refusal} → (c ≡ Err x → b ≡ Err x)
    → pick t (Err y) c ≡ Err x → pick t (Err y) b ≡ Err x
refused_then true y x f e = cc
refused_then false y x f e = f e

none_refused : (x : Refusal) {A : Type 0} (b : Result A Refusal) → fine ≡ Err x → b ≡ Err x
none_refused x b e = let z : ◌≡◌ {A = ℕ} 0 1 = cc in absurd (omega arith)

-- neither 14 nor 1: the profile is within its limits, and the page is not too long
pub record Readable (f : Settings) (p : List ℕ) : Type 0 where
  pub fine : profile_not_fine f ≡ false
  pub short : page_too_long f p ≡ false

module _ (f : Settings) (p : List ℕ) where
  -- c is checked after the two, and b answered after them
  page_then : (c : Result ⊤ Refusal) → on_page f p c ≡ fine → Readable f p × (c ≡ fine)
  page_then c e =
      let a = after_fine (profile_not_fine f) ProfileNotFine (pick (page_too_long f p) (Err PageTooLong) c) e in
      let b = after_fine (page_too_long f p) PageTooLong c a.1 in (record { fine = a.0; short = b.0 }, b.1)

  pub page_fine : on_page f p fine ≡ fine → Readable f p
  page_fine e = (page_then fine e).0

  -- where the check is refused, so is every answer
  pub page_refused : {x : Refusal} → on_page f p fine ≡ Err x → {A : Type 0} (b : Result A Refusal) → on_page f p b ≡ Err x
  page_refused {x} e b =
      refused_then (profile_not_fine f) ProfileNotFine x (refused_then (page_too_long f p) PageTooLong x (none_refused x b)) e

-- the page is short enough for the words of a table
pub page_short : (q p : List ℕ) → Readable (settings_of q) p → length p ≤ page_limit
page_short q p s =
    let F = fine_facts q (not-false (profile_fine q) s.fine) in omega (arith, ltb-false (limit_of q) (length p) s.short, F.limit)

module _ (f : Settings) (p ws : List ℕ) where
  -- the same for the three
  fine_then : (c : Result ⊤ Refusal) → asking f p ws c ≡ fine → Sound f p ws × (c ≡ fine)
  fine_then c e =
      let a = page_then f p (pick (table_not_sound p ws) (Err TableNotSound) c) e in
      let b = after_fine (table_not_sound p ws) TableNotSound c a.1 in
      (record { fine = a.0.fine; short = a.0.short; table = not-false (sound (length p) ws) b.0 }, b.1)

  pub was_fine : asking f p ws fine ≡ fine → Sound f p ws
  was_fine e = (fine_then fine e).0

  -- the same with a test of refusal 4
  module _ (t : Bool) where
    pub was_fine_also : asking f p ws (pick t (Err NotATag) fine) ≡ fine → Sound f p ws × (t ≡ false)
    was_fine_also e =
        let a = fine_then (pick t (Err NotATag) fine) e in (a.0, (after_fine t NotATag fine a.1).0)

    pub answered_also : {A : Type 0} (b : Result A Refusal) → Sound f p ws → t ≡ false → asking f p ws (pick t (Err NotATag) b) ≡ b
    answered_also b s g = rw (s.fine, s.short, s.table, g)

    pub refused_also : {x : Refusal} → asking f p ws (pick t (Err NotATag) fine) ≡ Err x → {A : Type 0} (b : Result A Refusal)
        → asking f p ws (pick t (Err NotATag) b) ≡ Err x
    refused_also {x} e b =
        refused_then (profile_not_fine f) ProfileNotFine x
        (refused_then (page_too_long f p) PageTooLong x
        (refused_then (table_not_sound p ws) TableNotSound x (refused_then t NotATag x (none_refused x b)))) e

  -- the test of one handle
  module _ (h : ℕ) where
    pub record SoundTag : Type 0 where
      pub sound_table : Sound f p ws
      pub tag_test : not_a_tag ws h ≡ false
      pub below : h < count_of ws
      pub tag : (node_at ws h).kind ≡ 1

    pub sound_tag : Sound f p ws → not_a_tag ws h ≡ false → SoundTag
    sound_tag s g =
        let t : (ltb h (count_of ws) && tagged (node_at ws h)) ≡ true = not-false (ltb h (count_of ws) && tagged (node_at ws h)) g in
        record {
          sound_table = s;
          tag_test = g;
          below = ltb-true h (count_of ws) (and_parts (ltb h (count_of ws)) (tagged (node_at ws h)) t).0;
          tag = eqb-true (node_at ws h).kind 1 (and_parts (ltb h (count_of ws)) (tagged (node_at ws h)) t).1;
        }

    pub was_fine_tag : asking_tag f p ws h fine ≡ fine → SoundTag
    was_fine_tag e = let a = was_fine_also (not_a_tag ws h) e in sound_tag a.0 a.1

    pub answered_tag : {A : Type 0} (b : Result A Refusal) → SoundTag → asking_tag f p ws h b ≡ b
    answered_tag b s = answered_also (not_a_tag ws h) b s.sound_table s.tag_test

    pub refused_tag : {x : Refusal} → asking_tag f p ws h fine ≡ Err x → {A : Type 0} (b : Result A Refusal) → asking_tag f p ws h b ≡ Err x
    refused_tag e b = refused_also (not_a_tag ws h) e b

-- what a call leaves that the check refused, and that cleared its buffer b
pub leaves_refused : (b found : List ℕ) {answer r : Result ℕ Refusal} {out : List ℕ} {x : Refusal} → answer ≡ Err x → Refuses 0 b x r out
    → Leaves answer (filled_by b found answer) r out
leaves_refused b found e w = record { is = w.is ∙ sym e; left = w.left ∙ rw e }
