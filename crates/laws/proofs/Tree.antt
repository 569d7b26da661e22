-- The nodes of a page: a tag's descendants are the handles after its own up to its last.
use Prim.Native.Nat.{ℕ, zero, suc, ◌≤◌, ◌<◌, pred}
use native.Mathlib.Omega.{arith}
use native.Mathlib.Decide.{dec_lt, ℕ_discrete}
use mathlib.Core.Bool.{Bool, true, false, ◌||◌}
use mathlib.Core.Logic.{◌↔◌}
use mathlib.Core.Path.{◌≡◌, refl, sym, ap, ◌∙◌}
use mathlib.Core.List.{List, [], ◌∷◌, ◌++◌}
use lib.ListN.{length, set, length-append, length-set, get_or-append, get_or-eq_default}
use lib.Seq.{get_or-append_seam, get_or-set_same, get_or-set_other}
use lib.Dec.{eqb, ltb}
use borrow.Author.Tests.{eqb-true, eq-eqb, ne_eqb}
use Rattle.rules.specs.Scan.{pick, part, same}
use Rattle.rules.specs.declared.Item.{Item}
use Rattle.rules.specs.declared.Item.TheVariants.{Text, Close, Comment, Doctype, Tag, Nothing}
use Rattle.rules.specs.Lexer.{item_at}
use Rattle.rules.specs.declared.Node.{Node}
use Rattle.rules.specs.Reader.{node, Reading, no_node, parent_of, leaf, tag_node, closed, settled, ended_by, close_into, put, step, steps, begin}
use Rattle.rules.specs.Reader.{with_last, read}
use Rattle.rules.proofs.Pick.{cases}
use Rattle.laws.proofs.Nodes.{set_all, ext_last}
use Rattle.rules.specs.Descends.{Reaches, child, deeper}
use Rattle.laws.proofs.Nested.{Nested, reaches_same, nested_cong, nested_add, range_reaches, reaches_range}

unfoldable pub mem : ℕ → List ℕ → Bool
mem g [] = false
mem g (h ∷ hs) = pick (eqb g h) true (mem g hs)

-- how far a handle reaches, the open ones to the end
abbrev pub reach : List Node → List ℕ → ℕ → ℕ
reach ns hs g = pick (mem g hs) (pred (length ns)) (node ns g).last

-- the open tags, innermost first: each lies in the next
abbrev pub Chain : List Node → ℕ → List ℕ → Type 0
Chain ns b [] = Unit {0}
Chain ns b (h ∷ hs) = (h < b) × ((node ns h).parent ≡ parent_of hs) × Chain ns h hs

abbrev pub parents : List Node → ℕ → ℕ
parents ns d = (node ns d).parent

pub record Shape (ns : List Node) (hs : List ℕ) : Type 0 where
  pub chain : Chain ns (length ns) hs
  pub nested : Nested (length ns) (parents ns) (reach ns hs)

mem_below : (ns : List Node) (b : ℕ) (hs : List ℕ) (g : ℕ) → Chain ns b hs → mem g hs ≡ true → g < b
unfolding mem
mem_below ns b [] g c e = let z : ◌≡◌ {A = ℕ} 0 1 = cc in absurd (omega arith)
mem_below ns b (h ∷ hs) g c e = go (eqb g h) refl e (mem_below ns h hs g c.2)
  where
    go : (t : Bool) → eqb g h ≡ t → pick t true (mem g hs) ≡ true → (mem g hs ≡ true → g < h) → g < b
    go true q x ih = omega (arith, eqb-true g h q, c.0)
    go false q x ih = omega (arith, ih x, c.0)

mem_not : (ns : List Node) (b : ℕ) (hs : List ℕ) (g : ℕ) → Chain ns b hs → b ≤ g → mem g hs ≡ false
mem_not ns b hs g c l = go (mem g hs) refl
  where
    go : (t : Bool) → mem g hs ≡ t → t ≡ false
    go true e = absurd (omega (arith, mem_below ns b hs g c e))
    go false e = refl

mem_parent : (ns : List Node) (b : ℕ) (hs : List ℕ) (d g : ℕ) → Chain ns b hs → mem d hs ≡ true → parents ns d ≡ suc g → mem g hs ≡ true
unfolding mem
mem_parent ns b [] d g c e q = let z : ◌≡◌ {A = ℕ} 0 1 = cc in absurd (omega arith)
mem_parent ns b (h ∷ hs) d g c e q = go (eqb d h) refl e (mem_parent ns h hs d g c.2)
  where
    head : (ks : List ℕ) → parent_of ks ≡ suc g → mem g ks ≡ true
    head [] x = absurd (omega (arith, x))
    head (k ∷ ks) x = rw (eq-eqb g k (omega (arith, x)))

    or_true : (t : Bool) → pick t true true ≡ true
    or_true true = refl
    or_true false = refl

    go : (t : Bool) → eqb d h ≡ t → pick t true (mem d hs) ≡ true → (mem d hs ≡ true → parents ns d ≡ suc g → mem g hs ≡ true)
        → pick (eqb g h) true (mem g hs) ≡ true
    go true y x ih =
        let k : d ≡ h = eqb-true d h y in
        let m : mem g hs ≡ true = head hs (sym c.1 ∙ (rw k at q)) in
        rw m (or_true (eqb g h))
    go false y x ih = rw (ih x q) (or_true (eqb g h))

-- the innermost open tag
innermost : (hs : List ℕ) (g : ℕ) → parent_of hs ≡ suc g → mem g hs ≡ true
unfolding mem
innermost [] g x = absurd (omega (arith, x))
innermost (k ∷ ks) g x = rw (eq-eqb g k (omega (arith, x)))

beyond : (ns : List Node) (b : ℕ) (hs : List ℕ) (g : ℕ) → Chain ns b hs → parent_of hs ≤ g → mem g hs ≡ false
unfolding mem
beyond ns b [] g c l = refl
beyond ns b (h ∷ hs) g c l = rw (ne_eqb g h (λ e. omega (arith, e, l)), mem_not ns h hs g c.2 (omega (arith, l)))

parent_low : (ns : List Node) (b : ℕ) (hs : List ℕ) → Chain ns b hs → parent_of hs ≤ b
parent_low ns b [] c = omega arith
parent_low ns b (h ∷ hs) c = c.0

chain_cong : (ns ms : List Node) (b c : ℕ) (hs : List ℕ) → b ≤ c → ((d : ℕ) → d < b → parents ms d ≡ parents ns d) → Chain ns b hs → Chain ms c hs
chain_cong ns ms b c [] l f x = tt
chain_cong ns ms b c (h ∷ hs) l f x = (omega (arith, x.0), f h x.0 ∙ x.1, chain_cong ns ms h h hs (omega arith) (λ d y. f d (omega (arith, x.0))) x.2)

-- one node more
module _ (ns : List Node) (hs : List ℕ) (S : Shape ns hs) (x : Node) (xp : x.parent ≡ parent_of hs) (xl : x.last ≡ length ns) where
  old : (d : ℕ) → d < length ns → node (ns ++ (x ∷ [])) d ≡ node ns d
  old d l = get_or-append ns (x ∷ []) no_node d l

  new : node (ns ++ (x ∷ [])) (length ns) ≡ x
  new = get_or-append_seam ns x [] no_node

  size : length (ns ++ (x ∷ [])) ≡ suc (length ns)
  size = length-append ns (x ∷ []) ∙ omega arith

  end : pred (length (ns ++ (x ∷ []))) ≡ length ns
  end = omega (arith, size)

  add : (ks : List ℕ) → Chain (ns ++ (x ∷ [])) (suc (length ns)) ks → ((d : ℕ) → d < length ns → mem d ks ≡ mem d hs) → Shape (ns ++ (x ∷ [])) ks
  add ks c m =
      record {
        chain = rw size c;
        nested =
            rw size
            (nested_add (λ g. mem g hs) S.nested
            (λ d l. ap (λ (t : Node). t.parent) (old d l))
            (ap (λ (t : Node). t.parent) new ∙ xp)
            (λ d l e. (rw e, rw (m d l, e) end))
            (λ d l e. rw (m d l, e, old d l))
            (cases (λ (v : ℕ). v ≡ length ns) (mem (length ns) ks) (λ t. end) (λ t. ap (λ (t : Node). t.last) new ∙ xl))
            (parent_low ns (length ns) hs S.chain)
            (innermost hs)
            (λ g a l. beyond ns (length ns) hs g S.chain a)
            (λ d g l e q. mem_parent ns (length ns) hs d g S.chain e q));
      }

  same_parents : (d : ℕ) → d < length ns → parents (ns ++ (x ∷ [])) d ≡ parents ns d
  same_parents d l = ap (λ (t : Node). t.parent) (old d l)

  pub shape_add : (b : Bool) → Shape (ns ++ (x ∷ [])) (pick b hs (length ns ∷ hs))
  unfolding mem
  shape_add true = add hs (chain_cong ns (ns ++ (x ∷ [])) (length ns) (suc (length ns)) hs (omega arith) same_parents S.chain) (λ d l. refl)
  shape_add false =
      add (length ns ∷ hs)
      (omega arith, ap (λ (t : Node). t.parent) new ∙ xp, chain_cong ns (ns ++ (x ∷ [])) (length ns) (length ns) hs (omega arith) same_parents S.chain)
      (λ d l. rw (ne_eqb d (length ns) (λ e. omega (arith, e, l))))

-- the innermost open tag closed
pub shape_close : (ns : List Node) (h : ℕ) (hs : List ℕ) (e x : ℕ) → Shape ns (h ∷ hs)
    → Shape (set ns h (closed (node ns h) e (pred (length ns)) x)) hs
unfolding mem
shape_close ns h hs e x S =
    record {
      chain = rw (length-set ns h y) (chain_cong ns (set ns h y) h (length ns) hs (omega (arith, S.chain.0)) (λ d l. all d) S.chain.2);
      nested = rw (length-set ns h y) (nested_cong S.nested (λ d l. all d) (λ d l. lasts d (ℕ_discrete d h)));
    }
  where
    y : Node
    y = closed (node ns h) e (pred (length ns)) x

    all : (d : ℕ) → parents (set ns h y) d ≡ parents ns d
    all = set_all (λ d t. t.parent ≡ parents ns d) ns h y (λ d. refl) (λ l. refl)

    lasts : (d : ℕ) → Dec (d ≡ h) → reach (set ns h y) hs d ≡ reach ns (h ∷ hs) d
    lasts d (yes q) = rw (q, eq-eqb h h refl, mem_not ns h hs h S.chain.2 (omega arith), get_or-set_same ns h y no_node S.chain.0)
    lasts d (no q) = rw (ne_eqb d h q, get_or-set_other ns h d y no_node q, length-set ns h y)

-- the open tags get their last descendant; no node is added
pub last_length : (l : ℕ) (hs : List ℕ) (ns : List Node) → length (with_last l hs ns) ≡ length ns
unfolding with_last
last_length l [] ns = refl
last_length l (h ∷ hs) ns = let y : Node = settled (node ns h) l in last_length l hs (set ns h y) ∙ length-set ns h y

last_is : (l : ℕ) (hs : List ℕ) (ns : List Node) (g : ℕ) → g < length ns → (node (with_last l hs ns) g).last ≡ pick (mem g hs) l (node ns g).last
unfolding with_last mem
last_is l [] ns g b = refl
last_is l (h ∷ hs) ns g b =
    last_is l hs (set ns h y) g (rw (length-set ns h y) b) ∙ go (ℕ_discrete g h)
  where
    y : Node
    y = settled (node ns h) l

    go : Dec (g ≡ h) → pick (mem g hs) l (node (set ns h y) g).last ≡ pick (pick (eqb g h) true (mem g hs)) l (node ns g).last
    go (yes q) = rw (q, eq-eqb h h refl, get_or-set_same ns h y no_node (rw q at b)) (cases (λ (v : ℕ). v ≡ l) (mem h hs) (λ t. refl) (λ t. refl))
    go (no q) = rw (ne_eqb g h q, get_or-set_other ns h g y no_node q)

pub shape_finish : (ns : List Node) (hs : List ℕ) → Shape ns hs
    → Nested (length (with_last (pred (length ns)) hs ns)) (parents (with_last (pred (length ns)) hs ns))
    (λ d. (node (with_last (pred (length ns)) hs ns) d).last)
shape_finish ns hs S =
    rw (last_length (pred (length ns)) hs ns)
    (nested_cong S.nested (λ d l. sym ((ext_last 0 (pred (length ns)) hs ns).old d l).parent) (λ d l. last_is (pred (length ns)) hs ns d l))

-- nothing has been read
pub begin_shape : Shape begin.nodes begin.opens
begin_shape =
    record {
      chain = tt;
      nested = record {
        lower = λ d l. absurd (omega arith);
        own = λ d l. absurd (omega arith);
        inside = λ d l. absurd (omega arith);
        passed = λ d g l. absurd (omega arith);
        reached = λ d g l. absurd (omega arith);
      };
    }

module _ (white : ℕ → Bool) (void : List ℕ → Bool) (p : List ℕ) where
  abbrev Shaped : Reading → Type 0
  Shaped r = Shape r.nodes r.opens

  close_shape : (r : Reading) (a e n : ℕ) (hs : List ℕ) → r.opens ≡ hs → Shaped r → Shaped (close_into p r a e n hs)
  unfolding close_into
  close_shape r a e n [] q S = S
  close_shape r a e n (h ∷ hs) q S =
      cases Shaped (same (part p (node r.nodes h).name (node r.nodes h).stop) (part p a e))
      (λ t. shape_close r.nodes h hs n (ended_by e n) (rw q at S)) (λ t. S)

  put_shape : (r : Reading) (i : Item) → Shaped r → Shaped (put void p r i)
  unfolding put
  put_shape r (Text e) S = shape_add r.nodes r.opens S (leaf r 2 r.at e) refl refl true
  put_shape r (Close a e n) S = close_shape r a e n r.opens refl S
  put_shape r (Comment a e n) S = shape_add r.nodes r.opens S (leaf r 3 a e) refl refl true
  put_shape r (Doctype h n) S = S
  put_shape r (Tag a e n s) S =
      let shut : Bool = s || void (part p a e) in shape_add r.nodes r.opens S (tag_node r a e n shut) refl refl shut
  put_shape r (Nothing n) S = S

  pub steps_shape : (k : ℕ) (r : Reading) → Shaped r → Shaped (steps white void p k r)
  unfolding steps step
  steps_shape zero r S = S
  steps_shape (suc k) r S =
      cases Shaped (ltb r.at (length p)) (λ t. steps_shape k (put void p r (item_at white p r.at)) (put_shape r (item_at white p r.at) S)) (λ t. S)

  -- the parents and last descendants of a page's nodes
  pub page_nested : Nested (length (read white void p).nodes) (parents (read white void p).nodes) (λ d. (node (read white void p).nodes d).last)
  page_nested =
      shape_finish (steps white void p (length p) begin).nodes (steps white void p (length p) begin).opens (steps_shape (length p) begin begin_shape)

  has_parent : (d m : ℕ) → parents (read white void p).nodes d ≡ suc m → d < length (read white void p).nodes
  has_parent d m e = go (dec_lt d (length (read white void p).nodes))
    where
      go : Dec (d < length (read white void p).nodes) → d < length (read white void p).nodes
      go (yes l) = l
      go (no l) = absurd (omega (arith, e, ap (λ (t : Node). t.parent) (get_or-eq_default (read white void p).nodes no_node {n = d} (omega arith))))

  reaches_in : {h d : ℕ} → Reaches (parents (read white void p).nodes) h d → d < length (read white void p).nodes
  reaches_in {h} {d} (child e) = has_parent d h e
  reaches_in {h} {d} (deeper {m = m} e u) = has_parent d m e

  -- a node's descendants are the handles after its own up to its last
  pub descendants : (h d : ℕ) → Reaches (parents (read white void p).nodes) h d ↔ ((h < d) × (d ≤ (node (read white void p).nodes h).last))
  descendants h d = (λ u. reaches_range page_nested (reaches_in u) u, λ r. go r (dec_lt h (length (read white void p).nodes)))
    where
      go : (h < d) × (d ≤ (node (read white void p).nodes h).last) → Dec (h < length (read white void p).nodes)
          → Reaches (parents (read white void p).nodes) h d
      go r (yes l) = range_reaches page_nested d d h (omega arith) (omega (arith, r.1, page_nested.inside h l)) r.0 r.1
      go r (no l) =
          let z : d ≤ 0 = rw (get_or-eq_default (read white void p).nodes no_node {n = h} (omega arith)) at r.1 in
          absurd (omega (arith, r.0))

-- what reaches a node in one page reaches it in another, where the parents up to it are the same
pub reach_same : (white : ℕ → Bool) (void : List ℕ → Bool) (p q : List ℕ) (h d : ℕ) → h < d → d < length (read white void p).nodes
    → ((m : ℕ) → m ≤ d → parents (read white void p).nodes m ≡ parents (read white void q).nodes m)
    → d ≤ (node (read white void p).nodes h).last → d ≤ (node (read white void q).nodes h).last
reach_same white void p q h d l b same r =
    let u = (descendants white void p h d).1 (l, r) in ((descendants white void q h d).0 (reaches_same (page_nested white void p) b same u)).1
