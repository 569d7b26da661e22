-- In one page and table: what is found among the finished tags is what of all the finds is such a tag.
use Rattle.std.proofs.Common.{Result, Err}
use Prim.Native.Nat.{ℕ, suc, ◌+◌, ◌-◌, ◌≤◌}
use native.Mathlib.Omega.{arith}
use mathlib.Core.Bool.{Bool, true, false, not}
use mathlib.Core.Path.{◌≡◌, refl}
use mathlib.Core.List.{List, []}
use lib.Dec.{eqb, ltb}
use lib.ListN.{length}
use borrow.Author.Tests.{not-false, ltb-true}
use Rattle.std.proofs.lemmas.Bool.{and_parts}
use Rattle.rules.specs.Scan.{pick}
use Rattle.rules.specs.Lists.{from}
use Rattle.rules.specs.Profile.{Settings}
use Rattle.rules.specs.Sound.{count_of, last_at, tagged, is_tag, sound}
use Rattle.rules.specs.Table.{node_at}
use Rattle.rules.specs.Text.{below}
use Rattle.rules.specs.Finds.{handles, passing, node_class_times, by_class}
use Rattle.rules.specs.Query.{matches, over_page, below_tag}
use Rattle.rules.specs.Chain.{read_selector}
use Rattle.rules.specs.Refusals.{profile_not_fine, page_too_long, table_not_sound, not_a_tag, asking, asking_tag}
use Rattle.rules.specs.Answers.{finds_of, class_answer, class_buffer, query_answer, query_buffer, query_below_answer, query_below_buffer}
use Rattle.rules.specs.declared.Node.{Node}
use Rattle.rules.specs.declared.Refusal.{Refusal}
use Rattle.rules.specs.declared.Refusal.TheVariants.{ProfileNotFine, PageTooLong, TableNotSound, NotATag}
use Rattle.rules.specs.declared.Manner.TheVariants.{Scan}
use Rattle.rules.specs.declared.View.TheVariants.{All, Finished}
use Rattle.cut.specs.View.{is_finished, class_left, query_left, below_left, Kept, FinishedShown}
use Rattle.cut.proofs.Selected.{Answered, both_tested, both_counted, both_selected}
use Rattle.cut.proofs.Keeping.{KeptOf, none_kept, keeps, finished_among, below_rows}

module _ (f : Settings) (p ws : List ℕ) where
  abbrev kept : ℕ → Bool
  kept = is_finished ws

  abbrev K : List ℕ → List ℕ → Type 0
  K = KeptOf kept

  none : K [] []
  none = none_kept kept

  -- of rows of the table
  among : (test : Node → Bool) (lo k : ℕ) → lo + k ≤ count_of ws → K (passing Finished test ws (from lo k)) (passing All test ws (from lo k))
  among test lo k l = finished_among ws ws All test test lo k k (λ h a b. omega arith) (λ h e. refl) (λ h e a b. b) (λ h e a b. b)

  over : (test : Node → Bool) → K (passing Finished test ws (handles ws)) (passing All test ws (handles ws))
  over test = among test 0 (count_of ws) (omega arith)

  -- below a tag, in a sound table
  under : (h : ℕ) → sound (length p) ws ≡ true → is_tag ws h ≡ true → (test : Node → Bool)
      → K (passing Finished test ws (below ws h)) (passing All test ws (below ws h))
  under h s t test =
      let l = ltb-true h (count_of ws) (and_parts (ltb h (count_of ws)) (tagged (node_at ws h)) t).0 in
      among test (suc h) (last_at ws h - h) (below_rows (length p) ws h s l)

  module _ (out out' fs gs : List ℕ) where
    abbrev Same : Result ℕ Refusal → Result ℕ Refusal → Type 0
    Same = Answered K none out out' fs gs

    tested : (b : Bool) (x : Refusal) {a c : Result ℕ Refusal} → (b ≡ false → Same a c) → Same (pick b (Err x) a) (pick b (Err x) c)
    tested = both_tested K none out out' fs gs

    -- refusals 14, 1 and 3, and 4
    asked : {a c : Result ℕ Refusal} → (sound (length p) ws ≡ true → Same a c) → Same (asking f p ws a) (asking f p ws c)
    asked r =
        tested (profile_not_fine f) ProfileNotFine
        (λ x. tested (page_too_long f p) PageTooLong
        (λ y. tested (table_not_sound p ws) TableNotSound (λ z. r (not-false (sound (length p) ws) z))))

    asked_tag : (h : ℕ) {a c : Result ℕ Refusal} → (sound (length p) ws ≡ true → is_tag ws h ≡ true → Same a c)
        → Same (asking_tag f p ws h a) (asking_tag f p ws h c)
    asked_tag h r = asked (λ s. tested (not_a_tag ws h) NotATag (λ z. r s (not-false (is_tag ws h) z)))

  class_shown : (k out out' : List ℕ) → Kept kept (class_left f p ws Finished k out) (class_left f p ws All k out')
  unfolding class_answer class_buffer
  class_shown k out out' d e =
      let fs = by_class f.white p ws (Scan Finished) k in
      let gs = by_class f.white p ws (Scan All) k in
      keeps kept (class_left f p ws Finished k out) (class_left f p ws All k out')
      (asked out out' fs gs (λ s. both_counted K none out out' fs gs (over (λ n. not (eqb (node_class_times f.white p k n) 0)))) d e)

  query_shown : (s out out' : List ℕ) → Kept kept (query_left f p ws Finished s out) (query_left f p ws All s out')
  unfolding query_answer query_buffer
  query_shown s out out' d e =
      let F = over_page f.white p ws Finished s in
      let G = over_page f.white p ws All s in
      keeps kept (query_left f p ws Finished s out) (query_left f p ws All s out')
      (asked out out' (finds_of F (read_selector s)) (finds_of G (read_selector s))
      (λ t. both_selected K none out out' F G (λ ps. over (matches f.white p s ps)) s) d e)

  below_shown : (h : ℕ) (s out out' : List ℕ) → Kept kept (below_left f p ws Finished h s out) (below_left f p ws All h s out')
  unfolding query_below_answer query_below_buffer
  below_shown h s out out' d e =
      let F = below_tag f.white p ws Finished s h in
      let G = below_tag f.white p ws All s h in
      keeps kept (below_left f p ws Finished h s out) (below_left f p ws All h s out')
      (asked_tag out out' (finds_of F (read_selector s)) (finds_of G (read_selector s)) h
      (λ t i. both_selected K none out out' F G (λ ps. under h t i (matches f.white p s ps)) s) d e)

-- the theorem on one table
pub finished_shown : FinishedShown
finished_shown f p ws = record { class = class_shown f p ws; query = query_shown f p ws; below = below_shown f p ws }
