-- What a reading that goes on leaves of the nodes that it had: all but the open tags as they were. And where it goes on at a cut, or
-- by an item that goes beyond one, the nodes that it adds end beyond that, but for an unfinished comment as the first of them.
use Prim.Native.Nat.{ℕ, zero, suc, ◌≤◌, ◌<◌, pred}
use native.Mathlib.Omega.{arith}
use native.Mathlib.Decide.{dec_lt}
use mathlib.Core.Bool.{Bool, ◌||◌}
use mathlib.Core.Path.{◌≡◌, refl, ◌∙◌}
use mathlib.Core.List.{List, [], ◌∷◌, ◌++◌}
use lib.ListN.{length, set, length-append, length-set, get_or-append}
use lib.Seq.{get_or-set_other}
use lib.Dec.{ltb}
use borrow.Author.Tests.{ltb-true}
use Rattle.rules.specs.Scan.{part, same}
use Rattle.rules.specs.declared.Item.{Item}
use Rattle.rules.specs.declared.Item.TheVariants.{Text, Close, Comment, Doctype, Tag, Nothing}
use Rattle.rules.specs.Lexer.{next, item_at}
use Rattle.rules.specs.declared.Node.{Node}
use Rattle.rules.specs.Reader.{no_node, node, Reading, leaf, tag_node, closed, settled, ended_by, close_into, put, step, steps, with_last}
use Rattle.rules.specs.Facts.{Tags, Fine}
use Rattle.rules.proofs.Pick.{cases}
use Rattle.laws.proofs.CutLexer.{Formed, item_grows, item_formed}
use Rattle.laws.proofs.Nodes.{snoc_all, set_all, SameTag, same_closed, Ext, ext_refl, ext_trans, ext_set}
use Rattle.laws.proofs.Lockstep.{put_at_lem, put_ext}
use Rattle.laws.proofs.Soundness.{tags_set, put_fine}

-- a tag that has not ended
abbrev pub IsOpen : Node → Type 0
IsOpen t = (t.kind ≡ 1) × (t.ended ≡ 0)

-- ms has the nodes of ns, unchanged but for open tags, and then others
pub record Grows (ns ms : List Node) : Type 0 where
  pub ext : Ext 0 ns ms
  pub stays : (h : ℕ) → h < length ns → (IsOpen (node ns h) → ⊥) → node ms h ≡ node ns h

grows_refl : (ns : List Node) → Grows ns ns
grows_refl ns = record { ext = ext_refl 0 ns; stays = λ h l k. refl }

pub grows_trans : {ns ms ls : List Node} → Grows ns ms → Grows ms ls → Grows ns ls
grows_trans a b =
    record {
      ext = ext_trans a.ext b.ext;
      stays = λ h l k. let e = a.stays h l k in b.stays h (omega (arith, a.ext.longer)) (rw e k) ∙ e;
    }

-- another node in the place of an open tag
set_stays : (ns : List Node) (i : ℕ) (y : Node) → IsOpen (node ns i) → (h : ℕ) → (IsOpen (node ns h) → ⊥) → node (set ns i y) h ≡ node ns h
set_stays ns i y o h k = get_or-set_other ns i h y no_node (λ e. k (rw e o))

grows_set : (ns : List Node) (i : ℕ) (y : Node) → IsOpen (node ns i) → SameTag (node ns i) y → Grows ns (set ns i y)
grows_set ns i y o s = record { ext = ext_set 0 ns i y s; stays = λ h l k. set_stays ns i y o h k }

pub grows_last : (l b : ℕ) (hs : List ℕ) (ns : List Node) → Tags ns b hs → Grows ns (with_last l hs ns)
unfolding with_last
grows_last l b [] ns T = grows_refl ns
grows_last l b (h ∷ hs) ns T =
    let t : Node = node ns h in
    let y : Node = settled t l in
    grows_trans (grows_set ns h y (T.1, T.2) (same_closed t t.end l t.ended)) (grows_last l h hs (set ns h y) (tags_set ns h h y hs (omega arith) T.3))

module _ (white : ℕ → Bool) (void : List ℕ → Bool) (p : List ℕ) where
  snoc_stays : (ns : List Node) (x : Node) (h : ℕ) → h < length ns → node (ns ++ (x ∷ [])) h ≡ node ns h
  snoc_stays ns x h l = get_or-append ns (x ∷ []) no_node h l

  close_stays : (r : Reading) (a e n b : ℕ) (hs : List ℕ) → Tags r.nodes b hs → (h : ℕ) → (IsOpen (node r.nodes h) → ⊥)
      → node (close_into p r a e n hs).nodes h ≡ node r.nodes h
  unfolding close_into
  close_stays r a e n b [] T h k = refl
  close_stays r a e n b (i ∷ hs) T h k =
      cases (λ (s : Reading). node s.nodes h ≡ node r.nodes h)
      (same (part p (node r.nodes i).name (node r.nodes i).stop) (part p a e))
      (λ t. set_stays r.nodes i (closed (node r.nodes i) n (pred (length r.nodes)) (ended_by e n)) (T.1, T.2) h k)
      (λ t. refl)

  put_stays : (r : Reading) (i : Item) → Fine r → (h : ℕ) → h < length r.nodes → (IsOpen (node r.nodes h) → ⊥)
      → node (put void p r i).nodes h ≡ node r.nodes h
  unfolding put
  put_stays r (Text e) F h l k = snoc_stays r.nodes (leaf r 2 r.at e) h l
  put_stays r (Close a e n) F h l k = close_stays r a e n (length r.nodes) r.opens F.tags h k
  put_stays r (Comment a e n) F h l k = snoc_stays r.nodes (leaf r 3 a e) h l
  put_stays r (Doctype b n) F h l k = refl
  put_stays r (Tag a e n s) F h l k = snoc_stays r.nodes (tag_node r a e n (s || void (part p a e))) h l
  put_stays r (Nothing n) F h l k = refl

  pub put_grows : (r : Reading) (i : Item) → r.at < next i → Fine r → Grows r.nodes (put void p r i).nodes
  put_grows r i l F = record { ext = put_ext white void 0 p r i (λ t. omega arith); stays = put_stays r i F }

  -- ---- from a reading on

  abbrev item : Reading → Item
  item r = item_at white p r.at

  pub steps_grows : (k : ℕ) (r : Reading) → Fine r → Grows r.nodes (steps white void p k r).nodes
  unfolding steps step
  steps_grows zero r F = grows_refl r.nodes
  steps_grows (suc k) r F =
      cases (λ (s : Reading). Grows r.nodes s.nodes) (ltb r.at (length p))
      (λ t. let l : r.at < length p = ltb-true r.at (length p) t in
      let g : r.at < next (item r) = (item_grows white p r.at l).0 in
      grows_trans (put_grows r (item r) g F)
      (steps_grows k (put void p r (item r)) (put_fine white void p r (item r) g (item_formed white p r.at l) F)))
      (λ t. grows_refl r.nodes)

  -- ---- beyond a cut at n, with c nodes before

  module _ (n c : ℕ) where
    -- a node from the handle c on that ends at n or before is a comment, and the first of them
    abbrev pub EndLate : List Node → Type 0
    EndLate ns = (h : ℕ) → c ≤ h → h < length ns → (node ns h).end ≤ n → (h ≡ c) × ((node ns h).kind ≡ 3)

    -- and a reading that has such nodes is past n
    record Late (r : Reading) : Type 0 where
      pub nodes : EndLate r.nodes
      pub at : c < length r.nodes → n < r.at

    add : (r : Reading) (x : Node) → Late r → (x.end ≤ n → (length r.nodes ≡ c) × (x.kind ≡ 3)) → EndLate (r.nodes ++ (x ∷ []))
    add r x L new h a b =
        snoc_all (λ h t. c ≤ h → h < suc (length r.nodes) → t.end ≤ n → (h ≡ c) × (t.kind ≡ 3)) r.nodes x
        (λ h k i j. L.nodes h i k) (λ i j. new) (λ h k i j. absurd (omega arith)) h a (omega (arith, length-append r.nodes (x ∷ [])))

    close_late : (r : Reading) (a e x : ℕ) (hs : List ℕ) → n < x → Late r → EndLate (close_into p r a e x hs).nodes
    unfolding close_into
    close_late r a e x [] l L = L.nodes
    close_late r a e x (i ∷ hs) l L =
        cases (λ (s : Reading). EndLate s.nodes) (same (part p (node r.nodes i).name (node r.nodes i).stop) (part p a e))
        (λ t h u v. set_all (λ h t. c ≤ h → h < length r.nodes → t.end ≤ n → (h ≡ c) × (t.kind ≡ 3)) r.nodes i y
        (λ h j k. L.nodes h j k) (λ b j k z. absurd (omega arith)) h u (omega (arith, length-set r.nodes i y)))
        (λ t. L.nodes)
      where
        y : Node
        y = closed (node r.nodes i) x (pred (length r.nodes)) (ended_by e x)

    put_ends : (r : Reading) (i : Item) → c ≤ length r.nodes → n < next i → Formed r.at i → Late r
        → EndLate (put void p r i).nodes
    unfolding put
    put_ends r (Text e) m l f L = add r (leaf r 2 r.at e) L (λ z. absurd (omega arith))
    put_ends r (Close a e x) m l f L = close_late r a e x r.opens l L
    put_ends r (Comment a e x) m l f L = add r (leaf r 3 a e) L (λ z. (first (dec_lt c (length r.nodes)) z, refl))
      where
        first : Dec (c < length r.nodes) → e ≤ n → length r.nodes ≡ c
        first (yes y) z = absurd (omega (arith, L.at y, f.0, f.3))
        first (no y) z = omega arith
    put_ends r (Doctype b x) m l f L = L.nodes
    put_ends r (Tag a e x s) m l f L = add r (tag_node r a e x (s || void (part p a e))) L (λ z. absurd (omega arith))
    put_ends r (Nothing x) m l f L = L.nodes

    steps_late : (k : ℕ) (r : Reading) → c ≤ length r.nodes → (r.at < length p → n < next (item r)) → Late r
        → EndLate (steps white void p k r).nodes
    unfolding steps step
    steps_late zero r m b L = L.nodes
    steps_late (suc k) r m b L =
        cases (λ (s : Reading). EndLate s.nodes) (ltb r.at (length p))
        (λ t. let l : r.at < length p = ltb-true r.at (length p) t in
        let i : Item = item r in
        let g : r.at < next i = (item_grows white p r.at l).0 in
        let a : (put void p r i).at ≡ next i = put_at_lem white void p r i in
        let x : n < next i = b l in
        steps_late k (put void p r i) (omega (arith, (put_ext white void 0 p r i (λ u. omega arith)).longer))
        (λ y. omega (arith, (item_grows white p (put void p r i).at y).0))
        (record { nodes = put_ends r i m x (item_formed white p r.at l) L; at = λ y. omega arith }))
        (λ t. L.nodes)

    -- the open tags get their last descendant; no end moves
    last_late : (l : ℕ) (hs : List ℕ) (ns : List Node) → EndLate ns → EndLate (with_last l hs ns)
    unfolding with_last
    last_late l [] ns E = E
    last_late l (i ∷ hs) ns E =
        last_late l hs (set ns i y)
        (λ h u v. set_all (λ h t. c ≤ h → h < length ns → t.end ≤ n → (h ≡ c) × (t.kind ≡ 3)) ns i y
        E (λ b j k. E i j k) h u (omega (arith, length-set ns i y)))
      where
        y : Node
        y = settled (node ns i) l

    -- the nodes of a reading that goes on from r, with its c nodes, to the end
    pub late : (k : ℕ) (r : Reading) → length r.nodes ≡ c → (r.at < length p → n < next (item r)) → (l : ℕ) (hs : List ℕ)
        → EndLate (with_last l hs (steps white void p k r).nodes)
    late k r e b l hs =
        last_late l hs (steps white void p k r).nodes
        (steps_late k r (omega arith) b (record { nodes = λ h u v. absurd (omega arith); at = λ u. absurd (omega arith) }))
