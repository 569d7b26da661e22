-- A page and the table that its accepted reading left: the table's tags, parents and last handles are the reading's, and no
-- question to it is refused as 14, 1 or 3, nor as 4 where it is about a tag.
use Rattle.std.proofs.Common.{Result, Ok}
use Prim.Native.Nat.{ℕ, ◌≤◌, ◌<◌}
use native.Mathlib.Omega.{arith}
use mathlib.Core.Logic.{◌↔◌}
use mathlib.Core.Path.{◌≡◌, ap, sym, ◌∙◌}
use mathlib.Core.List.{List}
use lib.ListN.{length, get_or-eq_default}
use borrow.Author.Tests.{eq-eqb, lt-ltb, le-ltb}
use native.Mathlib.Decide.{dec_lt}
use Rattle.rules.specs.declared.Node.{Node}
use Rattle.rules.specs.declared.Refusal.{Refusal}
use Rattle.rules.specs.declared.Manner.{Manner}
use Rattle.rules.specs.declared.View.{View}
use Rattle.rules.specs.Profile.{Settings}
use Rattle.rules.specs.Reader.{node, no_node}
use Rattle.rules.specs.Table.{node_at}
use Rattle.rules.specs.Sound.{count_of, last_at}
use Rattle.rules.specs.Descends.{parents_in, Descends}
use Rattle.rules.specs.Lookup.{lookup}
use Rattle.rules.specs.Text.{inner_text}
use Rattle.rules.specs.Finds.{by_class}
use Rattle.rules.specs.Query.{over_page, below_tag}
use Rattle.rules.specs.Refusals.{asking, asking_tag, counted}
use Rattle.rules.specs.Answers.{reading, selected, text_answer, attribute_answer, class_answer, query_answer, query_below_answer}
use Rattle.laws.proofs.Nodes.{kind_in}
use Rattle.laws.proofs.Tree.{parents, descendants}
use Rattle.laws.proofs.Tables.{Accepted}
use Rattle.cut.specs.Cut.{IsTag}

module _ {f : Settings} {p ws : List ℕ} (A : Accepted f p ws) where
  abbrev ns : List Node
  ns = (reading f p).nodes

  -- a tag of the table is a tag of the reading, with the same row
  pub tag_node_lem : (h : ℕ) → IsTag ws h → (node_at ws h ≡ node ns h) × ((node ns h).kind ≡ 1)
  tag_node_lem h t = let e : node_at ws h ≡ node ns h = A.row h (omega (arith, A.counted)) in (e, sym (ap (λ (n : Node). n.kind) e) ∙ t.1)

  pub node_tag : (h : ℕ) → (node ns h).kind ≡ 1 → IsTag ws h
  node_tag h k = let l : h < length ns = kind_in ns h k in (omega (arith, A.counted), ap (λ (n : Node). n.kind) (A.row h l) ∙ k)

  -- refusals 14, 1, 3 and 4 do not come
  asked : {B : Type 0} (b : Result B Refusal) → asking f p ws b ≡ b
  asked b = rw (A.fine, A.short, A.sound_table)

  asked_tag : {B : Type 0} (h : ℕ) (b : Result B Refusal) → IsTag ws h → asking_tag f p ws h b ≡ b
  asked_tag h b t = rw (A.fine, A.short, A.sound_table, lt-ltb h (count_of ws) t.0, eq-eqb (node_at ws h).kind 1 t.1)

  pub attribute_is : (h : ℕ) (k : List ℕ) → IsTag ws h → attribute_answer f p ws h k ≡ Ok (lookup f.white p (node_at ws h) k)
  unfolding attribute_answer
  attribute_is h k t = asked_tag h (Ok (lookup f.white p (node_at ws h) k)) t

  pub text_is : (h m : ℕ) → IsTag ws h → text_answer f p ws h m ≡ counted m (length (inner_text p ws h))
  unfolding text_answer
  text_is h m t = asked_tag h (counted m (length (inner_text p ws h))) t

  pub class_is : (m : Manner) (k : List ℕ) (n : ℕ) → class_answer f p ws m k n ≡ counted n (length (by_class f.white p ws m k))
  unfolding class_answer
  class_is m k n = asked (counted n (length (by_class f.white p ws m k)))

  pub query_is : (v : View) (s : List ℕ) (m : ℕ) → query_answer f p ws v s m ≡ selected (over_page f.white p ws v s) s m
  unfolding query_answer
  query_is v s m = asked (selected (over_page f.white p ws v s) s m)

  pub below_is : (h : ℕ) (v : View) (s : List ℕ) (m : ℕ) → IsTag ws h
      → query_below_answer f p ws h v s m ≡ selected (below_tag f.white p ws v s h) s m
  unfolding query_below_answer
  below_is h v s m t = asked_tag h (selected (below_tag f.white p ws v s h) s m) t

  -- the table's parents and last handles are the reading's
  parent_is : (d : ℕ) → parents_in ws d ≡ parents ns d
  parent_is d = go (dec_lt d (count_of ws))
    where
      go : Dec (d < count_of ws) → parents_in ws d ≡ parents ns d
      go (yes l) = rw (lt-ltb d (count_of ws) l) (ap (λ (n : Node). n.parent) (A.row d (omega (arith, A.counted))))
      go (no l) =
          let past : length ns ≤ d = omega (arith, A.counted) in
          rw (le-ltb d (count_of ws) (omega arith)) (sym (ap (λ (n : Node). n.parent) (get_or-eq_default ns no_node {n = d} past)))

  pub last_is : (h : ℕ) → IsTag ws h → last_at ws h ≡ (node ns h).last
  last_is h t = ap (λ (n : Node). n.last) (tag_node_lem h t).0

  pub descends : (h : ℕ) → IsTag ws h → (d : ℕ) → Descends ws h d ↔ ((h < d) × (d ≤ last_at ws h))
  descends h t d =
      let up : parents_in ws ≡ parents ns = λ i k. parent_is k i in
      rw (up, last_is h t) (descendants f.white f.void p h d)
