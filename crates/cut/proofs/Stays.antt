-- A page cut off, and the finished tags: they stay as they are, and so do the finds among them.
use Prim.Native.Nat.{ℕ, suc, ◌-◌, ◌≤◌}
use native.Mathlib.Omega.{arith}
use mathlib.Core.Bool.{Bool, true, not}
use mathlib.Core.Path.{◌≡◌, refl, ap, sym, ◌∙◌}
use mathlib.Core.List.{List, []}
use lib.Dec.{eqb, ltb}
use lib.ListN.{length, take}
use borrow.Author.Tests.{eq-eqb, lt-ltb, ltb-true}
use Rattle.std.proofs.lemmas.Bool.{and_parts}
use Rattle.rules.specs.Profile.{Settings}
use Rattle.rules.specs.Lookup.{class_name}
use Rattle.rules.specs.Sound.{count_of, last_at}
use Rattle.rules.specs.Table.{node_at}
use Rattle.rules.specs.Text.{below, inner_text}
use Rattle.rules.specs.Finds.{shows, handles, passing, held_times, node_class_times, by_class}
use Rattle.rules.specs.Query.{matches, over_page, below_tag}
use Rattle.rules.specs.Answers.{text_buffer, class_buffer, query_buffer, query_below_buffer}
use Rattle.rules.specs.declared.Node.{Node}
use Rattle.rules.specs.declared.Piece.{Piece}
use Rattle.rules.specs.declared.Manner.TheVariants.{Scan}
use Rattle.rules.specs.declared.View.TheVariants.{Finished}
use Rattle.laws.proofs.Tables.{Accepted, accepted}
use Rattle.laws.proofs.Finished.{finished_kind}
use Rattle.cut.specs.Cut.{IsTag}
use Rattle.cut.specs.View.{is_finished, text_left, class_left, query_left, below_left, Kept, Stays, FinishedStays}
use Rattle.cut.proofs.Selected.{both_counted, both_selected}
use Rattle.cut.proofs.Accepts.{tag_node_lem, text_is, class_is, query_is, below_is}
use Rattle.cut.proofs.CutOff.{in_whole, same_answer, same_match, below_kept, below_found}
use Rattle.cut.proofs.Text.{by_nodes}
use Rattle.cut.proofs.FinishedNodes.{finished_same, finished_text}
use Rattle.cut.proofs.Keeping.{KeptOf, none_kept, keeps, finished_among, below_rows}

module _ (f : Settings) (p : List ℕ) (n : ℕ) (hn : n ≤ length p) {ws vs : List ℕ} (A : Accepted f (take n p) ws) (B : Accepted f p vs) where
  abbrev q : List ℕ
  q = take n p

  abbrev kept : ℕ → Bool
  kept = is_finished ws

  abbrev K : List ℕ → List ℕ → Type 0
  K = KeptOf kept

  none : K [] []
  none = none_kept kept

  whole : (h : ℕ) → IsTag ws h → IsTag vs h
  whole h t = (in_whole f p n hn A B h t).0

  module _ (h : ℕ) (e : kept h ≡ true) where
    parts : (ltb h (count_of ws) ≡ true) × (shows Finished (node_at ws h) ≡ true)
    parts = and_parts (ltb h (count_of ws)) (shows Finished (node_at ws h)) e

    tag : IsTag ws h
    tag = (ltb-true h (count_of ws) parts.0, finished_kind (node_at ws h) parts.1)

    same_row : node_at ws h ≡ node_at vs h
    same_row =
        let a = (tag_node_lem A h tag).0 in
        let b = (tag_node_lem B h (whole h tag)).0 in
        a ∙ (finished_same f.white f.void p n hn h (rw a at parts.1) ∙ sym b)

    shown : shows Finished (node_at vs h) ≡ true
    shown = rw (← same_row) parts.1

    row : (is_finished vs h ≡ true) × (node_at ws h ≡ node_at vs h)
    row = (rw (lt-ltb h (count_of vs) (whole h tag).0) shown, same_row)

  -- two tests that agree on the beginning's tags
  module _ (F G : Node → Bool) (same : (h : ℕ) → IsTag ws h → F (node_at ws h) ≡ G (node_at vs h)) where
    over : K (passing Finished F ws (handles ws)) (passing Finished G vs (handles vs))
    over =
        finished_among ws vs Finished F G 0 (count_of ws) (count_of vs) (λ h a b. omega arith)
        (λ h e. rw (shown h e) (same h (tag h e)))
        (λ h e a b. omega (arith, (whole h (tag h e)).0))
        (λ h e a b. omega (arith, (tag h e).0))

    under : (h : ℕ) → IsTag ws h → K (passing Finished F ws (below ws h)) (passing Finished G vs (below vs h))
    under h t =
        finished_among ws vs Finished F G (suc h) (last_at ws h - h) (last_at vs h - h)
        (λ d a b. omega (arith, below_rows (length q) ws h A.sound_table t.0))
        (λ d e. rw (shown d e) (same d (tag d e)))
        (λ d e a b. omega (arith, below_kept f p n hn A B h t d (tag d e) a (omega arith)))
        (λ d e a b. omega (arith, below_found f p n hn A B h t d (tag d e) a (omega arith)))

  class_stays : (k out out' : List ℕ) → Kept kept (class_left f q ws Finished k out) (class_left f p vs Finished k out')
  unfolding class_buffer
  class_stays k out out' d e =
      let a = class_is A (Scan Finished) k (length out) in
      let b = class_is B (Scan Finished) k (length out') in
      keeps kept (class_left f q ws Finished k out) (class_left f p vs Finished k out')
      (rw (a, b)
      (both_counted K none out out' (by_class f.white q ws (Scan Finished) k) (by_class f.white p vs (Scan Finished) k)
      (over (held q) (held p) (λ h t. ap (λ (m : ℕ). not (eqb m 0)) (same_times h t))) (rw a at d) (rw b at e)))
    where
      times : List ℕ → Node → ℕ
      times r = node_class_times f.white r k

      held : List ℕ → Node → Bool
      held r x = not (eqb (times r x) 0)

      same_times : (h : ℕ) → IsTag ws h → times q (node_at ws h) ≡ times p (node_at vs h)
      same_times h t =
          rw (eq-eqb (node_at ws h).kind 1 t.1, eq-eqb (node_at vs h).kind 1 (whole h t).1)
          (ap (held_times k) (same_answer f p n hn A B h t class_name))

  -- the chain of a selector matches the same tags
  matching : (s : List ℕ) (ps : List Piece) (h : ℕ) → IsTag ws h
      → matches f.white q s ps (node_at ws h) ≡ matches f.white p s ps (node_at vs h)
  matching s ps h t = same_match f p n hn A B h t s ps

  query_stays : (s out out' : List ℕ) → Kept kept (query_left f q ws Finished s out) (query_left f p vs Finished s out')
  unfolding query_buffer
  query_stays s out out' d e =
      let a = query_is A Finished s (length out) in
      let b = query_is B Finished s (length out') in
      keeps kept (query_left f q ws Finished s out) (query_left f p vs Finished s out')
      (rw (a, b)
      (both_selected K none out out' (over_page f.white q ws Finished s) (over_page f.white p vs Finished s)
      (λ ps. over (matches f.white q s ps) (matches f.white p s ps) (matching s ps)) s (rw a at d) (rw b at e)))

  below_stays : (h : ℕ) → IsTag ws h → (s out out' : List ℕ)
      → Kept kept (below_left f q ws Finished h s out) (below_left f p vs Finished h s out')
  unfolding query_below_buffer
  below_stays h t s out out' d e =
      let a = below_is A h Finished s (length out) t in
      let b = below_is B h Finished s (length out') (whole h t) in
      keeps kept (below_left f q ws Finished h s out) (below_left f p vs Finished h s out')
      (rw (a, b)
      (both_selected K none out out' (below_tag f.white q ws Finished s h) (below_tag f.white p vs Finished s h)
      (λ ps. under (matches f.white q s ps) (matches f.white p s ps) (matching s ps) h t) s (rw a at d) (rw b at e)))

  text_stays : (h : ℕ) → kept h ≡ true → (out : List ℕ) → text_left f q ws h out ≡ text_left f p vs h out
  unfolding text_buffer
  text_stays h e out =
      let t = tag h e in
      let a = (tag_node_lem A h t).0 in
      let x : inner_text q ws h ≡ inner_text p vs h =
      by_nodes A h t ∙ (finished_text f.white f.void p n hn h (rw a at (parts h e).1) ∙ sym (by_nodes B h (whole h t))) in
      rw (text_is A h (length out) t, text_is B h (length out) (whole h t), x) refl

  all_stays : Stays f q ws p vs
  all_stays = record { row = row; text = text_stays; class = class_stays; query = query_stays; below = below_stays }

-- the theorem on a page cut off
pub finished_stays : FinishedStays
finished_stays f p n hn t u k m a b = all_stays f p n hn (accepted f (take n p) t k a) (accepted f p u m b)
