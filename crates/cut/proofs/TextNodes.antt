-- The texts below a tag, by the nodes of the two readings. Both have the nodes of a common reading. The beginning adds at most one,
-- which is no tag; if it is a text, the whole page has a longer one in its place.
use Prim.Native.Nat.{ℕ, zero, suc, ◌+◌, ◌-◌, ◌≤◌, ◌<◌, pred}
use native.Mathlib.Omega.{arith}
use native.Mathlib.Decide.{dec_lt, ℕ_discrete}
use mathlib.Core.Bool.{Bool, true, false, ◌||◌}
use mathlib.Core.Logic.{◌⊎◌, inl, inr}
use mathlib.Core.Path.{◌≡◌, refl, sym, ap, ◌∙◌}
use mathlib.Core.List.{List, [], ◌∷◌, ◌++◌}
use lib.ListN.{length, take, length-append, get_or-eq_default}
use lib.Seq.{get_or-append_seam}
use lib.Dec.{eqb}
use borrow.Author.Tests.{ne_eqb}
use Rattle.rules.specs.Bytes.{is, other}
use Rattle.rules.specs.Scan.{pick, skip, here, part}
use Rattle.rules.specs.Lists.{from, each}
use Rattle.rules.specs.declared.Item.{Item}
use Rattle.rules.specs.declared.Item.TheVariants.{Text, Close, Comment, Doctype, Tag, Nothing}
use Rattle.rules.specs.Lexer.{next, item_at}
use Rattle.rules.specs.declared.Node.{Node}
use Rattle.rules.specs.Reader.{no_node, node, Reading, leaf, tag_node, put, steps, begin, finished, read}
use Rattle.rules.specs.Facts.{Fine}
use Rattle.rules.proofs.Within.{part_split}
use Rattle.laws.proofs.Cut.{length_cut, here_cut}
use Rattle.laws.proofs.CutLexer.{part_cut, item_grows, item_formed}
use Rattle.laws.proofs.Nodes.{Ext, ext_trans, ext_last, kind_in}
use Rattle.laws.proofs.Tree.{parents, last_length, page_nested, reach_same}
use Rattle.laws.proofs.Lockstep.{Ending, there, short, Meets, meets, put_at_lem, put_short, step_on, no_step}
use Rattle.laws.proofs.Soundness.{begin_fine, put_fine, steps_fine}
use Rattle.laws.proofs.Step.{adds, adds_few, put_count, NoText, item_text, item_no_text, steps_end}
use Rattle.cut.specs.Text.{Prefix}
use Rattle.cut.proofs.Prefix.{both_prefix, walk_prefix}
use Rattle.cut.proofs.Later.{IsOpen, Grows, grows_trans, grows_last, put_grows, steps_grows, EndLate, late}

-- the bytes of a text node; another node has none
abbrev pub node_text : List ℕ → List Node → ℕ → List ℕ
node_text p ns h = pick (eqb (node ns h).kind 2) (part p (node ns h).start (node ns h).end) []

no_text : (p : List ℕ) (ns : List Node) (h : ℕ) → ((node ns h).kind ≡ 2 → ⊥) → node_text p ns h ≡ []
no_text p ns h k = rw (ne_eqb (node ns h).kind 2 k)

-- the texts below h
abbrev pub nodes_text : List ℕ → List Node → ℕ → List ℕ
nodes_text p ns h = each (node_text p ns) (from (suc h) ((node ns h).last - h))

-- ---- the node that an item adds

module _ (void : List ℕ → Bool) (p : List ℕ) (r : Reading) where
  abbrev added : Item → Node
  added i = node (put void p r i).nodes (length r.nodes)

  -- an item that adds none
  none_added : (i : Item) → adds i ≡ 0 → (added i).kind ≡ 2 → ⊥
  none_added i e k =
      let ns : List Node = (put void p r i).nodes in
      let d : added i ≡ no_node = get_or-eq_default ns no_node {n = length r.nodes} (omega (arith, put_count void p r i)) in
      let z : ◌≡◌ {A = ℕ} 0 2 = sym (ap (λ (t : Node). t.kind) d) ∙ k in omega arith

  seam : (x : Node) → node (r.nodes ++ (x ∷ [])) (length r.nodes) ≡ x
  seam x = get_or-append_seam r.nodes x [] no_node

  -- what begins with `<` adds no text
  no_text_added : (i : Item) → NoText i → (added i).kind ≡ 2 → ⊥
  unfolding put
  no_text_added (Text e) t k = t
  no_text_added (Close a e n) t k = none_added (Close a e n) refl k
  no_text_added (Comment a e n) t k =
      let z : ◌≡◌ {A = ℕ} 3 2 = sym (ap (λ (t : Node). t.kind) (seam (leaf r 3 a e))) ∙ k in omega arith
  no_text_added (Doctype h n) t k = none_added (Doctype h n) refl k
  no_text_added (Tag a e n s) t k =
      let z : ◌≡◌ {A = ℕ} 1 2 = sym (ap (λ (t : Node). t.kind) (seam (tag_node r a e n (s || void (part p a e))))) ∙ k in omega arith
  no_text_added (Nothing n) t k = none_added (Nothing n) refl k

  -- a text stays as it is
  text_stays : (e : ℕ) (ms : List Node) → Grows (put void p r (Text e)).nodes ms
      → (length r.nodes < length ms) × (node ms (length r.nodes) ≡ leaf r 2 r.at e)
  unfolding put
  text_stays e ms G =
      let x : Node = leaf r 2 r.at e in
      let l : length (r.nodes ++ (x ∷ [])) ≡ length r.nodes + 1 = length-append r.nodes (x ∷ []) in
      let two : IsOpen (added (Text e)) → ⊥ = λ z. let y : ◌≡◌ {A = ℕ} 2 1 = sym (ap (λ (t : Node). t.kind) (seam x)) ∙ z.0 in omega arith in
      (omega (arith, G.ext.longer), G.stays (length r.nodes) (omega arith) two ∙ seam x)

module _ (white : ℕ → Bool) (void : List ℕ → Bool) (p : List ℕ) (n : ℕ) (hn : n ≤ length p) where
  abbrev q : List ℕ
  q = take n p

  -- the two readings before their open tags are settled, and the common one, of c nodes
  abbrev first : Reading
  first = steps white void q (length q) begin

  abbrev all : Reading
  all = steps white void p (length p) begin

  abbrev meeting : Meets white void p n begin first all
  meeting = meets white void p n hn

  abbrev R : Reading
  R = meeting.common

  abbrev c : ℕ
  c = length R.nodes

  -- the item after the common ones, in the beginning
  abbrev item : Item
  item = item_at white q R.at

  -- the nodes in the end
  abbrev ns : List Node
  ns = (read white void q).nodes

  abbrev ms : List Node
  ms = (read white void p).nodes

  R_fine : Fine R
  R_fine = rw meeting.reached at (steps_fine white void p meeting.turns begin (omega arith) begin_fine).0

  -- ---- what the beginning's reading s keeps of the common one and adds

  record Ends (s : Reading) : Type 0 where
    pub within : R.at ≤ n
    pub grows : Grows R.nodes (finished s).nodes
    pub tags : (b : ℕ) → Ext b R.nodes (finished s).nodes
    pub few : length (finished s).nodes ≤ suc c

  ends_with : (s : Reading) → Ending white void p n R s → Ends s
  ends_with s (there e o) =
      rw o
      (record {
        within = omega arith;
        grows = grows_last (pred c) c R.opens R.nodes R_fine.tags;
        tags = λ b. ext_last b (pred c) R.opens R.nodes;
        few = omega (arith, last_length (pred c) R.opens R.nodes);
      })
  ends_with s (short d x y z o) =
      let l : R.at < length q = omega (arith, length_cut n p hn) in
      let u : Reading = put void q R item in
      let k : ℕ = pred (length u.nodes) in
      let F : Fine u = put_fine white void q R item (omega arith) (item_formed white q R.at l) R_fine in
      rw o
      (record {
        within = omega arith;
        grows = grows_trans (put_grows white void q R item (omega arith) R_fine) (grows_last k (length u.nodes) u.opens u.nodes F.tags);
        tags =
            λ b.
            ext_trans (put_short white void p n R z b) (ext_last b k u.opens u.nodes);
        few = omega (arith, last_length k u.opens u.nodes, put_count void q R item, adds_few item);
      })

  ending : Ends first
  ending = ends_with first meeting.ending

  -- ---- what the whole page's reading keeps and adds

  -- where it goes on from r
  settled : (k : ℕ) (r : Reading) → r.at ≤ length p → Fine r → all ≡ steps white void p k r → Grows r.nodes ms
  settled k r l F e =
      let t : Reading = steps white void p k r in
      rw e
      (grows_trans (steps_grows white void p k r F)
      (grows_last (pred (length t.nodes)) (length t.nodes) t.opens t.nodes (steps_fine white void p k r l F).0.tags))

  pub whole_grows : Grows R.nodes ms
  whole_grows = settled meeting.rest R (omega (arith, ending.within)) R_fine meeting.going

  whole_late : EndLate white void p n c ms
  whole_late = rw meeting.going (late white void p n c meeting.rest R refl (beyond meeting.ending) _ _)
    where
      beyond : {s : Reading} → Ending white void p n R s → R.at < length p → n < next (item_at white p R.at)
      beyond (there e o) l = omega (arith, (item_grows white p R.at l).0)
      beyond (short d x y z o) l = x

  -- ---- the nodes of the common reading, in both

  pub same_text : (d : ℕ) → d < c → node_text q ns d ≡ node_text p ms d
  same_text d l = go (ℕ_discrete (node R.nodes d).kind 2)
    where
      go : Dec ((node R.nodes d).kind ≡ 2) → node_text q ns d ≡ node_text p ms d
      go (yes k) =
          let x : IsOpen (node R.nodes d) → ⊥ = λ z. omega (arith, k, z.0) in
          let a : node ns d ≡ node R.nodes d = ending.grows.stays d l x in
          let b : node ms d ≡ node R.nodes d = whole_grows.stays d l x in
          let i = R_fine.nodes d l in
          rw (a, b, part_cut p n (node R.nodes d).start (node R.nodes d).end (omega (arith, i.within, ending.within)))
      go (no k) =
          no_text q ns d (λ z. k ((ending.grows.ext.old d l).kind ∙ z))
          ∙ sym (no_text p ms d (λ z. k ((whole_grows.ext.old d l).kind ∙ z)))

  same_parent : (d : ℕ) → d < c → parents ns d ≡ parents ms d
  same_parent d l = sym (ending.grows.ext.old d l).parent ∙ (whole_grows.ext.old d l).parent

  -- ---- the node that the beginning adds, where h reaches it

  abbrev Tail : ℕ → Type 0
  Tail h = (node_text q ns c ≡ []) ⊎ ((c ≤ (node ms h).last) × Prefix (node_text q ns c) (node_text p ms c))

  -- it is no text
  no_new_text : here (is 60) q R.at ≡ true → c < length ns → first ≡ put void q R item → node_text q ns c ≡ []
  no_new_text b l o =
      let k : ℕ = pred (length first.nodes) in
      let m : c < length first.nodes = omega (arith, last_length k first.opens first.nodes) in
      let same : (node first.nodes c).kind ≡ (node ns c).kind = ((ext_last 0 k first.opens first.nodes).old c m).kind in
      no_text q ns c
      (λ k. no_text_added void q R item (item_no_text white q R.at b) (sym (ap (λ (s : Reading). (node s.nodes c).kind) o) ∙ same ∙ k))

  -- it is a text, up to the cut, and the whole page has one up to e
  module _ (e : ℕ) (d : R.at < n) (x : n < e) (y : e ≤ length p)
      (o : first ≡ put void q R (Text n)) (w : item_at white p R.at ≡ Text e) where
    in_ns : (c < length ns) × (node ns c ≡ leaf R 2 R.at n)
    in_ns =
        let u : Reading = put void q R (Text n) in
        let F : Fine u = put_fine white void q R (Text n) d tt R_fine in
        text_stays void q R n ns (rw o (grows_last (pred (length u.nodes)) (length u.nodes) u.opens u.nodes F.tags))

    -- the whole page's reading takes that text, since it comes to the end
    whole_on : (k : ℕ) → all ≡ steps white void p k R → Grows (put void p R (Text e)).nodes ms
    whole_on zero g =
        let a : all.at ≡ R.at = ap (λ (s : Reading). s.at) (g ∙ no_step white void p R) in
        absurd (omega (arith, steps_end white void p (length p) begin (omega arith)))
    whole_on (suc k) g =
        let u : Reading = put void p R (Text e) in
        settled k u (omega (arith, put_at_lem white void p R (Text e))) (put_fine white void p R (Text e) (omega arith) tt R_fine)
        (g ∙ step_on white void k p R (omega arith) ∙ ap (λ (i : Item). steps white void p k (put void p R i)) w)

    in_ms : (c < length ms) × (node ms c ≡ leaf R 2 R.at e)
    in_ms = text_stays void p R e ms (whole_on meeting.rest meeting.going)

    alike : (m : ℕ) → m ≤ c → parents ns m ≡ parents ms m
    alike m l = go (dec_lt m c)
      where
        go : Dec (m < c) → parents ns m ≡ parents ms m
        go (yes z) = same_parent m z
        go (no z) =
            let i : m ≡ c = omega arith in
            rw i (ap (λ (t : Node). t.parent) in_ns.1 ∙ sym (ap (λ (t : Node). t.parent) in_ms.1))

    longer : Prefix (node_text q ns c) (node_text p ms c)
    longer =
        rw (in_ns.1, in_ms.1)
        (record {
          rest = part p n e;
          is =
              part_split p R.at n e (omega arith) (omega arith)
              ∙ ap (λ (t : List ℕ). t ++ part p n e) (sym (part_cut p n R.at n (omega arith)));
        })

    longer_tail : (h : ℕ) → h < c → c ≤ (node ns h).last → Tail h
    longer_tail h hc r = inr (reach_same white void q p h c hc in_ns.0 alike r, longer)

  tail : (h : ℕ) → h < c → c < length ns → c ≤ (node ns h).last → Tail h
  tail h hc l r = go meeting.ending
    where
      cut_text : R.at < n → n < next (item_at white p R.at) → next item ≡ n → first ≡ put void q R item
          → here (is 60) q R.at ≡ false → Tail h
      cut_text d x y o b =
          let i : item ≡ Text n = let t = item_text white q R.at b in t ∙ ap Text (sym (ap next t) ∙ y) in
          let e : ℕ = skip (other 60) p R.at in
          let w : item_at white p R.at ≡ Text e = item_text white p R.at (sym (here_cut (is 60) p n R.at hn d) ∙ b) in
          let m = item_grows white p R.at (omega arith) in
          longer_tail e d (omega (arith, ap next w)) (omega (arith, ap next w, m.1)) (o ∙ ap (put void q R) i) w h hc r

      go : Ending white void p n R first → Tail h
      go (there e o) =
          let k : ℕ = pred (length first.nodes) in
          absurd (omega (arith, last_length k first.opens first.nodes, ap (λ (s : Reading). length s.nodes) o))
      go (short d x y z o) = by (here (is 60) q R.at) refl
        where
          by : (b : Bool) → here (is 60) q R.at ≡ b → Tail h
          by true b = inl (no_new_text b l o)
          by false b = cut_text d x y o b

  -- ---- the texts below a tag of the beginning

  module _ (h : ℕ) (one : (node ns h).kind ≡ 1) where
    in_common : h < c
    in_common = go (dec_lt h c)
      where
        go : Dec (h < c) → h < c
        go (yes l) = l
        go (no l) = absurd (omega (arith, (ending.tags (node ns h).opened).new h (omega arith) one))

    -- in either reading it reaches itself, and a node
    reach : (h ≤ (node ns h).last) × ((node ns h).last < length ns)
    reach = let l = kind_in ns h one in let N = page_nested white void q in (N.own h l, N.inside h l)

    reach_whole : (h ≤ (node ms h).last) × ((node ms h).last < length ms)
    reach_whole =
        let l : h < length ms = omega (arith, in_common, whole_grows.ext.longer) in
        let N = page_nested white void p in (N.own h l, N.inside h l)

    -- the beginning's text is a prefix
    pub text_prefix : Prefix (nodes_text q ns h) (nodes_text p ms h)
    text_prefix =
        walk_prefix (node_text q ns) (node_text p ms) h c (node ns h).last (node ms h).last in_common reach_whole.0 reach.0
        (omega (arith, reach, ending.few)) same_text
        (λ d l m r. reach_same white void q p h d l (omega (arith, ending.grows.ext.longer)) (λ x b. same_parent x (omega arith)) r)
        (λ r. tail h in_common (omega (arith, reach)) r)

    -- the same text, where the last descendant of the whole page, if there is one, ends by the cut: then the whole page's text is
    -- a prefix too, since its last descendant is a common node, or a comment in the place after them
    pub text_same : (h < (node ms h).last → (node ms (node ms h).last).end ≤ n) → nodes_text q ns h ≡ nodes_text p ms h
    text_same ended =
        both_prefix text_prefix
        (walk_prefix (node_text p ms) (node_text q ns) h c (node ms h).last (node ns h).last in_common reach.0 reach_whole.0
        (near (dec_lt c (node ms h).last)) (λ d l. sym (same_text d l))
        (λ d l m r. reach_same white void p q h d l (omega (arith, whole_grows.ext.longer)) (λ x b. sym (same_parent x (omega arith))) r)
        (λ r. inl (comment r)))
      where
        beyond : c ≤ (node ms h).last → ((node ms h).last ≡ c) × ((node ms (node ms h).last).kind ≡ 3)
        beyond r = whole_late (node ms h).last r reach_whole.1 (ended (omega (arith, in_common)))

        near : Dec (c < (node ms h).last) → (node ms h).last ≤ c
        near (yes r) = omega (arith, (beyond (omega arith)).0)
        near (no r) = omega arith

        comment : c ≤ (node ms h).last → node_text p ms c ≡ []
        comment r =
            let b = beyond r in
            no_text p ms c (λ k. let z : ◌≡◌ {A = ℕ} 3 2 = sym (rw b.0 at b.1) ∙ k in omega arith)
