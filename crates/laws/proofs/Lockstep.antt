-- A page and its first n bytes, read side by side.
use Prim.Native.Nat.{ℕ, zero, suc, ◌-◌, ◌≤◌, ◌<◌, pred}
use native.Mathlib.Omega.{arith}
use native.Mathlib.Decide.{dec_lt}
use mathlib.Core.Bool.{Bool, true, false, ◌||◌}
use mathlib.Core.Path.{◌≡◌, refl, ◌∙◌}
use mathlib.Core.List.{List, [], ◌∷◌}
use lib.ListN.{length, take}
use lib.Seq.{take-take}
use lib.Dec.{ltb}
use borrow.Author.Tests.{lt-ltb, le-ltb, ltb-true}
use Rattle.rules.specs.Scan.{part, same}
use Rattle.rules.specs.declared.Item.{Item}
use Rattle.rules.specs.declared.Item.TheVariants.{Text, Close, Comment, Doctype, Tag, Nothing}
use Rattle.rules.specs.Lexer.{next, is_tag_item, item_at}
use Rattle.rules.specs.declared.Node.{Node}
use Rattle.rules.specs.Reader.{node, Reading, leaf, tag_node, closed, ended_by, close_into, put, step, steps, begin, read}
use Rattle.laws.proofs.Cut.{length_cut}
use Rattle.rules.proofs.Pick.{cases}
use Rattle.laws.proofs.CutLexer.{finishes, no_tag_item, Cut, whole, past, name_to, Formed, formed_named, part_cut, item_cut, item_grows, item_formed}
use Rattle.laws.proofs.Nodes.{SameTag, same_closed, same_trans, same_sym, snoc_all, set_all, Ext, ext_refl, ext_trans, ext_snoc, ext_set, ext_last}

module _ (white : ℕ → Bool) (void : List ℕ → Bool) where
  -- an item moves the place to its end
  close_at : (p : List ℕ) (r : Reading) (a e n : ℕ) (hs : List ℕ) → (close_into p r a e n hs).at ≡ n
  unfolding close_into
  close_at p r a e n [] = refl
  close_at p r a e n (h ∷ hs) =
      cases (λ (s : Reading). s.at ≡ n) (same (part p (node r.nodes h).name (node r.nodes h).stop) (part p a e)) (λ t. refl) (λ t. refl)

  pub put_at_lem : (p : List ℕ) (r : Reading) (i : Item) → (put void p r i).at ≡ next i
  unfolding put
  put_at_lem p r (Text e) = refl
  put_at_lem p r (Close a e n) = close_at p r a e n r.opens
  put_at_lem p r (Comment a e n) = refl
  put_at_lem p r (Doctype h n) = refl
  put_at_lem p r (Tag a e n s) = refl
  put_at_lem p r (Nothing n) = refl

  -- it adds at most one node, which is a tag only where the item is one
  close_ext : (b : ℕ) (p : List ℕ) (r : Reading) (a e n : ℕ) (hs : List ℕ) → Ext b r.nodes (close_into p r a e n hs).nodes
  unfolding close_into
  close_ext b p r a e n [] = ext_refl b r.nodes
  close_ext b p r a e n (h ∷ hs) =
      cases (λ (s : Reading). Ext b r.nodes s.nodes) (same (part p (node r.nodes h).name (node r.nodes h).stop) (part p a e))
      (λ _. let l : ℕ = pred (length r.nodes) in
      let t : Node = node r.nodes h in
      ext_set b r.nodes h (closed t n l (ended_by e n)) (same_closed t n l (ended_by e n)))
      (λ t. ext_refl b r.nodes)

  pub put_ext : (b : ℕ) (p : List ℕ) (r : Reading) (i : Item) → (is_tag_item i ≡ true → b < next i) → Ext b r.nodes (put void p r i).nodes
  unfolding put
  put_ext b p r (Text e) c = ext_snoc b r.nodes (leaf r 2 r.at e) (λ z. let o : ◌≡◌ {A = ℕ} 2 1 = z in absurd (omega arith))
  put_ext b p r (Close a e n) c = close_ext b p r a e n r.opens
  put_ext b p r (Comment a e n) c = ext_snoc b r.nodes (leaf r 3 a e) (λ z. let o : ◌≡◌ {A = ℕ} 3 1 = z in absurd (omega arith))
  put_ext b p r (Doctype h n) c = ext_refl b r.nodes
  put_ext b p r (Tag a e n s) c = ext_snoc b r.nodes (tag_node r a e n (s || void (part p a e))) (λ z. c refl)
  put_ext b p r (Nothing n) c = ext_refl b r.nodes

  -- names and openings lie before the place
  abbrev pub Before : ℕ → Node → Type 0
  Before x t = (t.stop ≤ x) × (t.opened ≤ x)

  abbrev pub Good : Reading → Type 0
  Good r = (h : ℕ) → Before r.at (node r.nodes h)

  close_good : (p : List ℕ) (r : Reading) (a e n : ℕ) (hs : List ℕ) → Good r → r.at ≤ n → Good (close_into p r a e n hs)
  unfolding close_into
  close_good p r a e n [] g l = λ h. omega (arith, g h)
  close_good p r a e n (h ∷ hs) g l =
      cases Good (same (part p (node r.nodes h).name (node r.nodes h).stop) (part p a e))
      (λ t. let y : Node = closed (node r.nodes h) n (pred (length r.nodes)) (ended_by e n) in
      set_all (λ k. Before n) r.nodes h y (λ k. omega (arith, g k)) (λ k. omega (arith, g h)))
      (λ t k. omega (arith, g k))

  pub put_good : (p : List ℕ) (r : Reading) (i : Item) → Good r → r.at ≤ next i → Formed r.at i → Good (put void p r i)
  unfolding put
  put_good p r (Text e) g l m = snoc_all (λ k. Before e) r.nodes (leaf r 2 r.at e) (λ h k. omega (arith, g h)) (omega arith) (λ h k. omega arith)
  put_good p r (Close a e n) g l m = close_good p r a e n r.opens g l
  put_good p r (Comment a e n) g l m = snoc_all (λ k. Before n) r.nodes (leaf r 3 a e) (λ h k. omega (arith, g h)) (omega arith) (λ h k. omega arith)
  put_good p r (Doctype h n) g l m = λ k. omega (arith, g k)
  put_good p r (Tag a e n s) g l m =
      snoc_all (λ k. Before n) r.nodes (tag_node r a e n (s || void (part p a e))) (λ h k. omega (arith, g h)) (omega arith) (λ h k. omega arith)
  put_good p r (Nothing n) g l m = λ k. omega (arith, g k)

  -- an item within the first n bytes does the same to both
  close_cut : (p : List ℕ) (n : ℕ) (r : Reading) (a e x : ℕ) (hs : List ℕ) → Good r → r.at ≤ n → e ≤ n
      → close_into (take n p) r a e x hs ≡ close_into p r a e x hs
  unfolding close_into
  close_cut p n r a e x [] g l m = refl
  close_cut p n r a e x (h ∷ hs) g l m =
      rw (part_cut p n (node r.nodes h).name (node r.nodes h).stop (omega (arith, g h)), part_cut p n a e m)

  pub put_cut : (p : List ℕ) (n : ℕ) (r : Reading) (i : Item) → Good r → r.at ≤ n → name_to i ≤ n → put void (take n p) r i ≡ put void p r i
  unfolding put
  put_cut p n r (Text e) g l m = refl
  put_cut p n r (Close a e x) g l m = close_cut p n r a e x r.opens g l m
  put_cut p n r (Comment a e x) g l m = refl
  put_cut p n r (Doctype h x) g l m = refl
  put_cut p n r (Tag a e x s) g l m = rw (part_cut p n a e m)
  put_cut p n r (Nothing x) g l m = refl

  pub steps_done : (k : ℕ) (p : List ℕ) (r : Reading) → length p ≤ r.at → steps white void p k r ≡ r
  unfolding steps
  steps_done zero p r h = refl
  steps_done (suc k) p r h = rw (le-ltb r.at (length p) h)

  -- from a place on, only tags that open after it
  pub later : (k : ℕ) (p : List ℕ) (b : ℕ) (r : Reading) → b ≤ r.at → Ext b r.nodes (steps white void p k r).nodes
  unfolding steps step
  later zero p b r h = ext_refl b r.nodes
  later (suc k) p b r h =
      cases (λ (s : Reading). Ext b r.nodes s.nodes) (ltb r.at (length p))
      (λ t. let l : r.at < next (item_at white p r.at) = (item_grows white p r.at (ltb-true r.at (length p) t)).0 in
      ext_trans (put_ext b p r (item_at white p r.at) (λ u. omega arith))
      (later k p b (put void p r (item_at white p r.at)) (omega (arith, put_at_lem p r (item_at white p r.at)))))
      (λ t. ext_refl b r.nodes)

  pub step_on : (k : ℕ) (p : List ℕ) (r : Reading) → r.at < length p → steps white void p (suc k) r ≡ steps white void p k (put void p r (item_at white p r.at))
  unfolding steps step
  step_on k p r h = rw (lt-ltb r.at (length p) h)

  pub no_step : (p : List ℕ) (r : Reading) → steps white void p zero r ≡ r
  unfolding steps
  no_step p r = refl

module _ (white : ℕ → Bool) (void : List ℕ → Bool) (p : List ℕ) (n : ℕ) where
  -- How the beginning's reading s goes on from a reading r that it has in common with the whole page's: it has come to the
  -- cut, or one item more takes it there, which finishes no tag, where the whole page's item goes beyond.
  pub data Ending (r s : Reading) : Type 0 where
    there : r.at ≡ n → s ≡ r → Ending r s
    short : r.at < n → n < next (item_at white p r.at) → next (item_at white (take n p) r.at) ≡ n
        → finishes (item_at white (take n p) r.at) ≡ false
        → s ≡ put void (take n p) r (item_at white (take n p) r.at) → Ending r s

  -- that item adds no tag
  pub put_short : (r : Reading) → finishes (item_at white (take n p) r.at) ≡ false → (b : ℕ)
      → Ext b r.nodes (put void (take n p) r (item_at white (take n p) r.at)).nodes
  put_short r z b =
      let i : Item = item_at white (take n p) r.at in
      put_ext white void b (take n p) r i
      (λ t. let w : is_tag_item i ≡ false = no_tag_item i z in let o : ◌≡◌ {A = ℕ} 0 1 = cc in absurd (omega arith))

  -- From r on the beginning's reading comes to s and the whole page's to t. They make the same steps up to a common reading.
  pub record Meets (r s t : Reading) : Type 0 where
    pub turns : ℕ
    pub common : Reading
    pub reached : steps white void p turns r ≡ common
    pub reached_too : steps white void (take n p) turns r ≡ common
    pub good : Good white void common
    pub ending : Ending common s
    pub rest : ℕ
    pub going : t ≡ steps white void p rest common

-- The nodes of a common reading, and what each has beyond them: the beginning no tag, the whole page only tags that open after n.
pub record Outcome (n : ℕ) (ns ms : List Node) : Type 0 where
  pub common : List Node
  pub bounded : (h : ℕ) → ((node common h).stop ≤ n) × ((node common h).opened ≤ n)
  pub beginning : (b : ℕ) → Ext b common ns
  pub beyond : Ext n common ms

module _ (white : ℕ → Bool) (void : List ℕ → Bool) (p : List ℕ) (n : ℕ) (hn : n ≤ length p) where
  at_cut : (k k' : ℕ) (r : Reading) → Good white void r → r.at ≡ n → Meets white void p n r (steps white void (take n p) k' r) (steps white void p k r)
  at_cut k k' r g e =
      record {
        turns = 0;
        common = r;
        reached = no_step white void p r;
        reached_too = no_step white void (take n p) r;
        good = g;
        ending = there e (steps_done white void k' (take n p) r (omega (arith, length_cut n p hn)));
        rest = k;
        going = refl;
      }

  pub lockstep : (k k' : ℕ) (r : Reading) → Good white void r → r.at ≤ n → length p - r.at ≤ k → n - r.at ≤ k'
      → Meets white void p n r (steps white void (take n p) k' r) (steps white void p k r)
  lockstep zero k' r g l e e' = at_cut zero k' r g (omega arith)
  lockstep (suc k) zero r g l e e' = at_cut (suc k) zero r g (omega arith)
  lockstep (suc k) (suc k') r g l e e' =
      go (dec_lt r.at n)
      (λ c m. lockstep k k' (put void p r (item_at white p r.at))
      (put_good white void p r (item_at white p r.at) g (omega arith) (item_formed white p r.at (omega arith)))
      (omega (arith, put_at_lem white void p r (item_at white p r.at))) (omega (arith, put_at_lem white void p r (item_at white p r.at)))
      (omega (arith, put_at_lem white void p r (item_at white p r.at))))
    where
      go : Dec (r.at < n)
          → (r.at < next (item_at white p r.at) → next (item_at white p r.at) ≤ n
          → Meets white void p n (put void p r (item_at white p r.at)) (steps white void (take n p) k' (put void p r (item_at white p r.at)))
          (steps white void p k (put void p r (item_at white p r.at))))
          → Meets white void p n r (steps white void (take n p) (suc k') r) (steps white void p (suc k) r)
      go (no d) ih = at_cut (suc k) (suc k') r g (omega arith)
      go (yes d) ih = both (item_cut white p n r.at hn d)
        where
          on : (a : ℕ) → steps white void p (suc a) r ≡ steps white void p a (put void p r (item_at white p r.at))
          on a = step_on white void a p r (omega arith)

          on_too : (a : ℕ) → steps white void (take n p) (suc a) r ≡ steps white void (take n p) a (put void (take n p) r (item_at white (take n p) r.at))
          on_too a = step_on white void a (take n p) r (omega (arith, length_cut n p hn))

          both : Cut n (item_at white p r.at) (item_at white (take n p) r.at)
              → Meets white void p n r (steps white void (take n p) (suc k') r) (steps white void p (suc k) r)
          both (whole q x) =
              let c : put void (take n p) r (item_at white (take n p) r.at) ≡ put void p r (item_at white p r.at) =
              rw q (put_cut white void p n r (item_at white p r.at) g l
              (omega (arith, formed_named r.at (item_at white p r.at) (item_formed white p r.at (omega arith))))) in
              let m : Meets white void p n (put void p r (item_at white p r.at))
              (steps white void (take n p) k' (put void p r (item_at white p r.at))) (steps white void p k (put void p r (item_at white p r.at))) =
              ih (item_grows white p r.at (omega arith)).0 x in
              record {
                turns = suc m.turns;
                common = m.common;
                reached = on m.turns ∙ m.reached;
                reached_too = on_too m.turns ∙ rw c m.reached_too;
                good = m.good;
                ending = rw (on_too k', c) m.ending;
                rest = m.rest;
                going = on k ∙ m.going;
              }
          both (past x y z) =
              let a : (put void (take n p) r (item_at white (take n p) r.at)).at ≡ n = put_at_lem white void (take n p) r (item_at white (take n p) r.at) ∙ y in
              record {
                turns = 0;
                common = r;
                reached = no_step white void p r;
                reached_too = no_step white void (take n p) r;
                good = g;
                ending = short d x y z
                    (on_too k' ∙ steps_done white void k' (take n p) (put void (take n p) r (item_at white (take n p) r.at))
                    (omega (arith, length_cut n p hn)));
                rest = suc k;
                going = refl;
              }

  -- an item that goes beyond the cut, and all after it
  past_cut : (k : ℕ) (r : Reading) → n < next (item_at white p r.at) → Ext n r.nodes (steps white void p k r).nodes
  unfolding steps step
  past_cut zero r h = ext_refl n r.nodes
  past_cut (suc k) r h =
      cases (λ (s : Reading). Ext n r.nodes s.nodes) (ltb r.at (length p))
      (λ t. ext_trans (put_ext white void n p r (item_at white p r.at) (λ u. h))
      (later white void k p n (put void p r (item_at white p r.at)) (omega (arith, put_at_lem white void p r (item_at white p r.at)))))
      (λ t. ext_refl n r.nodes)

  meets_outcome : {r s t : Reading} → Meets white void p n r s t → Outcome n s.nodes t.nodes
  meets_outcome {r} {s} {t} m = rw m.going (go m.ending)
    where
      go : Ending white void p n m.common s → Outcome n s.nodes (steps white void p m.rest m.common).nodes
      go (there e q) =
          rw q
          (record {
            common = m.common.nodes;
            bounded = λ h. omega (arith, e, m.good h);
            beginning = λ b. ext_refl b m.common.nodes;
            beyond = later white void m.rest p n m.common (omega (arith, e));
          })
      go (short d x y z q) =
          rw q
          (record {
            common = m.common.nodes;
            bounded = λ h. omega (arith, d, m.good h);
            beginning = λ b. put_short white void p n m.common z b;
            beyond = past_cut m.rest m.common x;
          })

  -- the readings of the page and its beginning
  pub meets : Meets white void p n begin (steps white void (take n p) (length (take n p)) begin) (steps white void p (length p) begin)
  meets = lockstep (length p) (length (take n p)) begin (λ h. omega arith) (omega arith) (omega arith) (omega (arith, length_cut n p hn))

  pub outcome : Outcome n (read white void (take n p)).nodes (read white void p).nodes
  outcome =
      let o : Outcome n (steps white void (take n p) (length (take n p)) begin).nodes (steps white void p (length p) begin).nodes = meets_outcome meets in
      record {
        common = o.common;
        bounded = o.bounded;
        beginning = λ b. ext_trans (o.beginning b) (ext_last b _ _ _);
        beyond = ext_trans o.beyond (ext_last n _ _ _);
      }

-- The tags of a beginning's nodes are the whole page's tags that open within the first n bytes.
pub record Agree (n : ℕ) (p : List ℕ) (ns ms : List Node) : Type 0 where
  pub kept : (h : ℕ) → (node ns h).kind ≡ 1 → SameTag (node ns h) (node ms h)
  pub before : (h : ℕ) → (node ns h).kind ≡ 1 → (node ms h).opened ≤ n
  pub found : (h : ℕ) → (node ms h).kind ≡ 1 → (node ms h).opened ≤ n → (node ns h).kind ≡ 1
  -- the same name bytes, and the same bytes up to the opening `>`, where a lookup reads the attributes
  pub name : (h : ℕ) → (node ns h).kind ≡ 1 → part (take n p) (node ns h).name (node ns h).stop ≡ part p (node ms h).name (node ms h).stop
  pub opening : (h : ℕ) → (node ns h).kind ≡ 1 → take (node ns h).opened (take n p) ≡ take (node ms h).opened p
  -- all that comes before a tag has the same parent
  pub parents : (h d : ℕ) → (node ns h).kind ≡ 1 → d ≤ h → (node ns d).parent ≡ (node ms d).parent

module _ (white : ℕ → Bool) (void : List ℕ → Bool) (p : List ℕ) (n : ℕ) (hn : n ≤ length p) where
  pub agree : Agree n p (read white void (take n p)).nodes (read white void p).nodes
  agree =
      record {
        kept = λ h e. alike h (in_common h e);
        before = λ h e. omega (arith, (o.beyond.old h (in_common h e)).opened, o.bounded h);
        found = λ h e l. go h e l (dec_lt h (length o.common));
        name = λ h e. rw ((alike h (in_common h e)).name, (alike h (in_common h e)).stop)
            (part_cut p n (node (read white void p).nodes h).name (node (read white void p).nodes h).stop
            (omega (arith, (o.beyond.old h (in_common h e)).stop, o.bounded h)));
        opening = λ h e. rw (alike h (in_common h e)).opened
            (take-take (node (read white void p).nodes h).opened n p (omega (arith, (o.beyond.old h (in_common h e)).opened, o.bounded h)));
        parents = λ h d e l. (alike d (omega (arith, in_common h e))).parent;
      }
    where
      o : Outcome n (read white void (take n p)).nodes (read white void p).nodes
      o = outcome white void p n hn

      in_common : (h : ℕ) → (node (read white void (take n p)).nodes h).kind ≡ 1 → h < length o.common
      in_common h e = pick_out (dec_lt h (length o.common))
        where
          pick_out : Dec (h < length o.common) → h < length o.common
          pick_out (yes l) = l
          pick_out (no l) = absurd (omega (arith, (o.beginning (node (read white void (take n p)).nodes h).opened).new h (omega (arith, l)) e))

      alike : (h : ℕ) → h < length o.common → SameTag (node (read white void (take n p)).nodes h) (node (read white void p).nodes h)
      alike h l = same_trans (same_sym ((o.beginning n).old h l)) (o.beyond.old h l)

      go : (h : ℕ) → (node (read white void p).nodes h).kind ≡ 1 → (node (read white void p).nodes h).opened ≤ n → Dec (h < length o.common)
          → (node (read white void (take n p)).nodes h).kind ≡ 1
      go h e l (yes d) = (alike h d).kind ∙ e
      go h e l (no d) = absurd (omega (arith, l, o.beyond.new h (omega (arith, d)) e))
