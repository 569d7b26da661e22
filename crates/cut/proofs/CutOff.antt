-- A page cut off. The two tables hold the nodes of the two readings, and these agree on the beginning's tags (`Agree` of the laws).
-- All that the public calls ask of a tag, its name, its attributes and what it reaches, is therefore the same in both.
use Rattle.std.proofs.Common.{Result, Ok}
use Prim.Native.Nat.{ℕ, suc, ◌-◌, ◌≤◌, ◌<◌}
use native.Mathlib.Omega.{arith}
use mathlib.Core.Bool.{Bool, true}
use mathlib.Core.Path.{◌≡◌, refl, ap, sym, ◌∙◌}
use mathlib.Core.List.{List}
use lib.Dec.{ltb}
use lib.ListN.{length, take, length-take}
use borrow.Author.Tests.{eq-eqb, eqb-true, ltb-true}
use Rattle.std.proofs.lemmas.Bool.{and_parts}
use Rattle.rules.specs.Lists.{only}
use Rattle.rules.specs.declared.Node.{Node}
use Rattle.rules.specs.declared.Refusal.{Refusal}
use Rattle.rules.specs.declared.Piece.{Piece}
use Rattle.rules.specs.declared.Simple.{Simple}
use Rattle.rules.specs.declared.Held.{Held}
use Rattle.rules.specs.declared.Held.TheVariants.{Absent, Bare, Value}
use Rattle.rules.specs.declared.View.TheVariants.{All}
use Rattle.rules.specs.Profile.{Settings, settings_of, tl_profile}
use Rattle.rules.specs.Reader.{node}
use Rattle.rules.specs.Table.{node_at}
use Rattle.rules.specs.Sound.{count_of, last_at, tagged, is_tag}
use Rattle.rules.specs.Lookup.{Inside, answer, lookup}
use Rattle.rules.specs.Query.{name_of, tag_fits, node_fits, meaning, matches, over_page, below_tag}
use Rattle.rules.specs.Refusals.{held_part, asked_part}
use Rattle.rules.specs.Answers.{reading, attribute_answer, attribute_part, query_answer, query_buffer, query_below_answer, query_below_buffer}
use Rattle.rules.proofs.Lookup.{inside_more, lookup_inside}
use Rattle.laws.proofs.CutLexer.{part_cut}
use Rattle.laws.proofs.Nodes.{kind_in}
use Rattle.laws.proofs.Tree.{reach_same}
use Rattle.laws.proofs.Lockstep.{Agree, agree}
use Rattle.laws.proofs.Tables.{Accepted, accepted}
use Rattle.cut.specs.Cut.{IsTag, Enough, Alike, CutOff, CutUnder, CutTheorem}
use Rattle.cut.proofs.Finds.{same_finds}
use Rattle.cut.proofs.Selected.{Both, both_selected}
use Rattle.cut.proofs.Accepts.{tag_node_lem, node_tag, attribute_is, query_is, below_is, last_is, descends}

-- the row that a test finds to be a tag is one
is_tag_lem : (ws : List ℕ) (h : ℕ) → is_tag ws h ≡ true → IsTag ws h
is_tag_lem ws h e =
    let r = and_parts (ltb h (count_of ws)) (tagged (node_at ws h)) e in (ltb-true h (count_of ws) r.0, eqb-true (node_at ws h).kind 1 r.1)

module _ (f : Settings) (p : List ℕ) (n : ℕ) (hn : n ≤ length p) where
  -- the beginning, its nodes, and those of the whole page
  abbrev q : List ℕ
  q = take n p

  abbrev first : List Node
  first = (reading f q).nodes

  abbrev all : List Node
  all = (reading f p).nodes

  G : Agree n p first all
  G = agree f.white f.void p n hn

  -- a tag of the beginning below h there is below h in the whole page, and the other way round
  reach_kept : (h d : ℕ) → (node first d).kind ≡ 1 → h < d → d ≤ (node first h).last → d ≤ (node all h).last
  reach_kept h d e l r = reach_same f.white f.void q p h d l (kind_in first d e) (λ m b. G.parents d m e b) r

  reach_found : (h d : ℕ) → (node first d).kind ≡ 1 → h < d → d ≤ (node all h).last → d ≤ (node first h).last
  reach_found h d e l r =
      let k : d < length all = kind_in all d (sym (G.kept d e).kind ∙ e) in
      reach_same f.white f.void p q h d l k (λ m b. sym (G.parents d m e b)) r

  module _ {ws vs : List ℕ} (A : Accepted f q ws) (B : Accepted f p vs) where
    -- ---- clause 1

    pub in_whole : (h : ℕ) → IsTag ws h → IsTag vs h × ((node_at vs h).opened ≤ n)
    in_whole h t =
        let e = (tag_node_lem A h t).1 in
        let v : IsTag vs h = node_tag B h (sym (G.kept h e).kind ∙ e) in
        (v, omega (arith, ap (λ (x : Node). x.opened) (tag_node_lem B h v).0, G.before h e))

    in_beginning : (h : ℕ) → IsTag vs h → (node_at vs h).opened ≤ n → IsTag ws h
    in_beginning h v l =
        let r = tag_node_lem B h v in node_tag A h (G.found h r.1 (omega (arith, ap (λ (x : Node). x.opened) r.0)))

    module _ (h : ℕ) (t : IsTag ws h) where
      row : node_at ws h ≡ node first h
      row = (tag_node_lem A h t).0

      whole_row : node_at vs h ≡ node all h
      whole_row = (tag_node_lem B h (in_whole h t).0).0

      is_one : (node first h).kind ≡ 1
      is_one = (tag_node_lem A h t).1

      same_start : (node_at ws h).start ≡ (node_at vs h).start
      same_start = rw (row, whole_row) (G.kept h is_one).start

      same_parent : (node_at ws h).parent ≡ (node_at vs h).parent
      same_parent = rw (row, whole_row) (G.kept h is_one).parent

      same_places : ((node_at ws h).name ≡ (node_at vs h).name) × ((node_at ws h).stop ≡ (node_at vs h).stop)
          × ((node_at ws h).opened ≡ (node_at vs h).opened)
      same_places = let k = G.kept h is_one in rw (row, whole_row) (k.name, k.stop, k.opened)

      same_name : name_of q (node_at ws h) ≡ name_of p (node_at vs h)
      same_name = rw (row, whole_row) (G.name h is_one)

      -- ---- clause 2

      same_lookup : (k : List ℕ) → lookup f.white q (node_at ws h) k ≡ lookup f.white p (node_at vs h) k
      same_lookup k = rw (row, whole_row, G.opening h is_one, (G.kept h is_one).stop)

      pub same_answer : (k : List ℕ) → answer f.white q (node_at ws h) k ≡ answer f.white p (node_at vs h) k
      unfolding answer
      same_answer k = rw (row, whole_row, G.opening h is_one, (G.kept h is_one).stop)

      same_attribute : (k : List ℕ) → attribute_answer f q ws h k ≡ attribute_answer f p vs h k
      same_attribute k = attribute_is A h k t ∙ (ap Ok (same_lookup k) ∙ sym (attribute_is B h k (in_whole h t).0))

      -- a value lies before word 5, so before the cut
      same_part : (b : List ℕ) (v : Held) → Inside n v → held_part q b v ≡ held_part p b v
      same_part b Absent i = refl
      same_part b Bare i = refl
      same_part b (Value a e) i = part_cut p n a e i.1

      before_cut : (k : List ℕ) → Inside n (lookup f.white q (node_at ws h) k)
      before_cut k =
          let r : List ℕ = take (node_at ws h).opened q in
          let l : length r ≤ n = omega (arith, length-take (node_at ws h).opened q, length-take n p) in
          inside_more (length r) n (lookup f.white q (node_at ws h) k) l (lookup_inside f.white r (node_at ws h).stop k)

      same_value : (k b : List ℕ) → attribute_part f q ws h k b ≡ attribute_part f p vs h k b
      unfolding attribute_part
      same_value k b =
          ap (asked_part q b) (attribute_is A h k t)
          ∙ (same_part b (lookup f.white q (node_at ws h) k) (before_cut k)
          ∙ (ap (held_part p b) (same_lookup k) ∙ sym (ap (asked_part p b) (attribute_is B h k (in_whole h t).0))))

      -- ---- clause 3: a tag fits the same selectors

      same_fits : (s : List ℕ) (x : Simple) → node_fits f.white q s (node_at ws h) x ≡ node_fits f.white p s (node_at vs h) x
      same_fits s x =
          let one : (node_at vs h).kind ≡ 1 = (in_whole h t).0.1 in
          rw (eq-eqb (node_at ws h).kind 1 t.1, eq-eqb (node_at vs h).kind 1 one)
          (λ i. tag_fits s (same_name i) (λ k. same_answer k i) x)

      pub same_match : (s : List ℕ) (ps : List Piece) → matches f.white q s ps (node_at ws h) ≡ matches f.white p s ps (node_at vs h)
      same_match s ps = λ i. meaning (λ x. same_fits s x i) ps

    -- row h of a table matches
    abbrev fits : List ℕ → List ℕ → List ℕ → List Piece → ℕ → Bool
    fits p ws s ps h = matches f.white p s ps (node_at ws h)

    over_page_lem : (s : List ℕ) (ps : List Piece)
        → only (is_tag ws) (over_page f.white q ws All s ps) ≡ only (is_tag ws) (over_page f.white p vs All s ps)
    over_page_lem s ps =
        same_finds (is_tag ws) (fits q ws s ps) (fits p vs s ps) 0 (count_of ws) (count_of vs)
        (λ h e. same_match h (is_tag_lem ws h e) s ps)
        (λ h e l b. omega (arith, (in_whole h (is_tag_lem ws h e)).0.0))
        (λ h e l b. omega (arith, (is_tag_lem ws h e).0))

    -- the tags of the beginning below h are the same in both
    module _ (h : ℕ) (t : IsTag ws h) (d : ℕ) (u : IsTag ws d) (l : h < d) where
      one : (node first d).kind ≡ 1
      one = (tag_node_lem A d u).1

      pub below_kept : d ≤ last_at ws h → d ≤ last_at vs h
      below_kept r = omega (arith, reach_kept h d one l (omega (arith, last_is A h t)), last_is B h (in_whole h t).0)

      pub below_found : d ≤ last_at vs h → d ≤ last_at ws h
      below_found r = omega (arith, reach_found h d one l (omega (arith, last_is B h (in_whole h t).0)), last_is A h t)

    below_tag_lem : (h : ℕ) → IsTag ws h → (s : List ℕ) (ps : List Piece)
        → only (is_tag ws) (below_tag f.white q ws All s h ps) ≡ only (is_tag ws) (below_tag f.white p vs All s h ps)
    below_tag_lem h t s ps =
        same_finds (is_tag ws) (fits q ws s ps) (fits p vs s ps) (suc h) (last_at ws h - h) (last_at vs h - h)
        (λ d e. same_match d (is_tag_lem ws d e) s ps)
        (λ d e l c. omega (arith, below_kept h t d (is_tag_lem ws d e) l (omega arith)))
        (λ d e l c. omega (arith, below_found h t d (is_tag_lem ws d e) l (omega arith)))

    -- of the finds that are tags of the beginning
    abbrev Same : List ℕ → List ℕ → Type 0
    Same fs gs = only (is_tag ws) fs ≡ only (is_tag ws) gs

    alike : {a : Result ℕ Refusal} {out : List ℕ} {b : Result ℕ Refusal} {out' : List ℕ} → Both Same a out b out' → Alike ws a out b out'
    alike s = record { refused = s.refused; finds = s.finds }

    same_query : (s out out' : List ℕ) → Enough (query_answer f q ws All s (length out)) → Enough (query_answer f p vs All s (length out'))
        → Alike ws (query_answer f q ws All s (length out)) (query_buffer f q ws All s out)
        (query_answer f p vs All s (length out')) (query_buffer f p vs All s out')
    unfolding query_buffer
    same_query s out out' d e =
        let a = query_is A All s (length out) in
        let b = query_is B All s (length out') in
        rw (a, b)
        (alike
        (both_selected Same refl out out' (over_page f.white q ws All s) (over_page f.white p vs All s) (over_page_lem s) s (rw a at d) (rw b at e)))

    same_below : (h : ℕ) → IsTag ws h → (s out out' : List ℕ)
        → Enough (query_below_answer f q ws h All s (length out)) → Enough (query_below_answer f p vs h All s (length out'))
        → Alike ws (query_below_answer f q ws h All s (length out)) (query_below_buffer f q ws h All s out)
        (query_below_answer f p vs h All s (length out')) (query_below_buffer f p vs h All s out')
    unfolding query_below_buffer
    same_below h t s out out' d e =
        let a = below_is A h All s (length out) t in
        let b = below_is B h All s (length out') (in_whole h t).0 in
        rw (a, b)
        (alike
        (both_selected Same refl out out' (below_tag f.white q ws All s h) (below_tag f.white p vs All s h) (below_tag_lem h t s) s (rw a at d) (rw b at e)))

    all_clauses : CutOff f n q ws p vs
    all_clauses =
        record {
          tags = λ h. (in_whole h, λ r. in_beginning h r.0 r.1);
          start = same_start;
          name = same_name;
          parent = same_parent;
          places = same_places;
          attribute = same_attribute;
          value = same_value;
          query = same_query;
          below = same_below;
          descendants = descends A;
          descendants_whole = descends B;
        }

-- the theorem
pub cut_off : CutTheorem
cut_off f p n hn t u k m a b = all_clauses f p n hn (accepted f (take n p) t k a) (accepted f p u m b)

-- under the Rust's profile
pub cut_off_tl : CutUnder (settings_of tl_profile)
cut_off_tl = cut_off (settings_of tl_profile)
