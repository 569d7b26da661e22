-- The page `a<>a<>` and so on has the most nodes: every three bytes are a text and a tag, one byte that is left over is a text,
-- and two are a text and nothing.
use Rattle.std.proofs.Common.{Ok, Err}
use Prim.Native.Nat.{ℕ, zero, suc, ◌+◌, ◌-◌, ◌≤◌, ◌<◌, pred}
use native.Mathlib.Numerals.{add-one}
use native.Mathlib.Omega.{arith}
use mathlib.Core.Bool.{Bool, true, false, not}
use mathlib.Core.Path.{◌≡◌, refl, sym, ap, ◌∙◌}
use mathlib.Core.List.{List, ◌∷◌}
use lib.ListN.{length, get_or, drop, length-drop}
use lib.Seq.{drop-cons}
use lib.Dec.{ltb}
use borrow.Author.Tests.{lt-ltb, le-ltb, ltb-false}
use Rattle.rules.specs.Bytes.{is, other, is_ident}
use Rattle.rules.specs.Scan.{pick, skip, here, pass}
use Rattle.rules.specs.declared.Item.{Item}
use Rattle.rules.specs.declared.Item.TheVariants.{Text, Tag, Nothing}
use Rattle.rules.specs.Attributes.{not_closing, attributes_end}
use Rattle.rules.specs.Lexer.{next, markup, tag, item_at}
use Rattle.rules.specs.Table.{row_at}
use Rattle.rules.specs.Reader.{Reading, put, steps, begin}
use Rattle.rules.specs.Profile.{limit_of, Settings, settings_of}
use Rattle.rules.specs.Refusals.{page_too_long}
use Rattle.rules.specs.Answers.{parse_answer}
use Rattle.rules.specs.declared.Refusal.TheVariants.{ProfileNotFine, PageTooLong, TableTooSmall}
use Rattle.rules.proofs.Profile.{fine_facts, white_below}
use Rattle.rules.proofs.Runs.{skip_more, skip_stop, skip_end}
use Rattle.rules.proofs.Places.{here_in, pass_in}
use Rattle.laws.proofs.Lockstep.{put_at_lem, steps_done, step_on}
use Rattle.laws.proofs.Step.{adds, put_count, item_text}
use Rattle.laws.proofs.Tree.{last_length}
use Rattle.maxnodes.specs.Bound.{max_nodes, nodes_of, following, cycle, densest, Attains, NodeBound}
use Rattle.maxnodes.proofs.Bound.{bounded}

pub cycle_length : (b n : ℕ) → length (cycle b n) ≡ n
unfolding cycle
cycle_length b zero = refl
cycle_length b (suc n) = ap suc (cycle_length (following b) n)

-- ---- what stands at a place from which on the page goes as `a<>`

module _ (p : List ℕ) where
  left : (b at m : ℕ) → drop at p ≡ cycle b m → length p - at ≡ m
  left b at m e = sym (length-drop at p) ∙ ap length e ∙ cycle_length b m

  -- the byte there, and the rest after it
  module _ (b at m : ℕ) (e : drop at p ≡ cycle b (suc m)) where
    inside : at < length p
    inside = omega (arith, left b at (suc m) e)

    parts : get_or p at 0 ∷ drop (suc at) p ≡ b ∷ cycle (following b) m
    unfolding cycle
    parts = sym (drop-cons p at 0 inside) ∙ e

    byte : get_or p at 0 ≡ b
    byte = let q = parts in cc

    after : drop (at + 1) p ≡ cycle (following b) m
    after = rw add-one (let q = parts in cc)

module _ (white : ℕ → Bool) (p : List ℕ) (at : ℕ) where
  -- `a`: a text of one byte
  text_item : (m : ℕ) → drop at p ≡ densest (suc m) → item_at white p at ≡ Text (at + 1)
  text_item m e =
      let l : at < length p = inside p 97 at m e in
      let a : get_or p at 0 ≡ 97 = byte p 97 at m e in
      item_text white p at (here_in (is 60) p at l ∙ ap (is 60) a)
      ∙ ap Text (skip_more (other 60) p at l (ap (other 60) a) ∙ ends m (after p 97 at m e))
    where
      ends : (m : ℕ) → drop (at + 1) p ≡ cycle 60 m → skip (other 60) p (at + 1) ≡ at + 1
      ends zero e = skip_end (other 60) p (at + 1) (omega (arith, left p 60 (at + 1) zero e))
      ends (suc m) e = skip_stop (other 60) p (at + 1) (inside p 60 (at + 1) m e) (ap (other 60) (byte p 60 (at + 1) m e))

  -- `<` stands there, and is passed
  module _ (m : ℕ) (e : drop at p ≡ cycle 60 (suc m)) where
    there : here (is 60) p at ≡ true
    there = here_in (is 60) p at (inside p 60 at m e) ∙ ap (is 60) (byte p 60 at m e)

    passed : skip white p (pass p at) ≡ skip white p (at + 1)
    passed = ap (skip white p) (pass_in p at (inside p 60 at m e))

  -- `<` and the end
  none_item : drop at p ≡ cycle 60 1 → item_at white p at ≡ Nothing (at + 1)
  unfolding item_at markup
  none_item e =
      let n : length p - at ≡ 1 = left p 60 at 1 e in
      let s : skip white p (pass p at) ≡ at + 1 = passed 0 e ∙ skip_end white p (at + 1) (omega arith) in
      let o : ltb (at + 1) (length p) ≡ false = le-ltb (at + 1) (length p) (omega arith) in
      rw (there 0 e, s, o)

-- `>`, where it is not white: nothing is skipped there, and no attribute read
module _ (white : ℕ → Bool) (close : white 62 ≡ false) (p : List ℕ) (q : ℕ) (l : q < length p) (b : get_or p q 0 ≡ 62) where
  stays : skip white p q ≡ q
  stays = skip_stop white p q l (ap white b ∙ close)

  no_attributes : (k : ℕ) → attributes_end white k p q ≡ q
  unfolding attributes_end
  no_attributes zero = refl
  no_attributes (suc k) = rw (stays, here_in not_closing p q l, b)

  close_item : markup white p q ≡ Tag q q (q + 1) false
  unfolding markup tag
  close_item =
      let e : skip is_ident p q ≡ q = skip_stop is_ident p q l (ap is_ident b) in
      rw (e, no_attributes (length p), lt-ltb q (length p) l, b, pass_in p q l)

-- `<>`: a tag without a name
tag_item : (white : ℕ → Bool) → white 62 ≡ false → (p : List ℕ) (at m : ℕ) → drop at p ≡ cycle 60 (suc (suc m))
    → item_at white p at ≡ Tag (at + 1) (at + 1) (at + 1 + 1) false
unfolding item_at
tag_item white close p at m e =
    let f : drop (at + 1) p ≡ cycle 62 (suc m) = after p 60 at (suc m) e in
    let l : at + 1 < length p = inside p 62 (at + 1) m f in
    let b : get_or p (at + 1) 0 ≡ 62 = byte p 62 (at + 1) m f in
    let s : skip white p (pass p at) ≡ at + 1 = passed white p at (suc m) e ∙ stays white close p (at + 1) l b in
    rw (there white p at (suc m) e, s) (close_item white close p (at + 1) l b)

-- ---- the nodes

module _ (white : ℕ → Bool) (void : List ℕ → Bool) (close : white 62 ≡ false) (p : List ℕ) where
  abbrev count : ℕ → Reading → ℕ
  count k r = length (steps white void p k r).nodes

  -- with k steps left, one of them leads from r to a place where m bytes are left, the first of them b, and adds so many nodes
  record Stepped (k : ℕ) (r : Reading) (b m more : ℕ) : Type 0 where
    pub to : Reading
    pub on : count k r ≡ count (pred k) to
    pub rest : drop to.at p ≡ cycle b m
    pub nodes : length to.nodes ≡ length r.nodes + more

  stepped : (k : ℕ) (r : Reading) (i : Item) (b m : ℕ) → 0 < k → r.at < length p → item_at white p r.at ≡ i
      → drop (next i) p ≡ cycle b m → Stepped k r b m (adds i)
  stepped zero r i b m h l e f = absurd (omega arith)
  stepped (suc k) r i b m h l e f =
      record {
        to = put void p r i;
        on = ap (λ (s : Reading). length s.nodes) (step_on white void k p r l) ∙ ap (λ (j : Item). count k (put void p r j)) e;
        rest = ap (λ (x : ℕ). drop x p) (put_at_lem white void p r i) ∙ f;
        nodes = put_count void p r i;
      }

  text_step : (m k : ℕ) (r : Reading) → drop r.at p ≡ densest (suc m) → 0 < k → Stepped k r 60 m 1
  text_step m k r e h =
      stepped k r (Text (r.at + 1)) 60 m h (inside p 97 r.at m e) (text_item white p r.at m e) (after p 97 r.at m e)

  none_step : (k : ℕ) (r : Reading) → drop r.at p ≡ cycle 60 1 → 0 < k → Stepped k r 62 0 0
  none_step k r e h =
      stepped k r (Nothing (r.at + 1)) 62 0 h (inside p 60 r.at 0 e) (none_item white p r.at e) (after p 60 r.at 0 e)

  tag_step : (m k : ℕ) (r : Reading) → drop r.at p ≡ cycle 60 (suc (suc m)) → 0 < k → Stepped k r 97 m 1
  tag_step m k r e h =
      stepped k r (Tag (r.at + 1) (r.at + 1) (r.at + 1 + 1) false) 97 m h (inside p 60 r.at (suc m) e)
      (tag_item white close p r.at m e) (after p 62 (r.at + 1) m (after p 60 r.at (suc m) e))

  done : (k b : ℕ) (r : Reading) → drop r.at p ≡ cycle b 0 → count k r ≡ length r.nodes
  done k b r e = ap (λ (s : Reading). length s.nodes) (steps_done white void k p r (omega (arith, left p b r.at 0 e)))

  -- m bytes are left, and as many steps or more
  counts : (m k : ℕ) (r : Reading) → drop r.at p ≡ densest m → m ≤ k → count k r ≡ length r.nodes + max_nodes m
  counts zero k r e h = done k 97 r e ∙ omega arith
  counts (suc zero) k r e h =
      let S : Stepped k r 60 0 1 = text_step 0 k r e (omega arith) in S.on ∙ done (pred k) 60 S.to S.rest ∙ S.nodes
  counts (suc (suc zero)) k r e h =
      let S : Stepped k r 60 1 1 = text_step 1 k r e (omega arith) in
      let T : Stepped (pred k) S.to 62 0 0 = none_step (pred k) S.to S.rest (omega arith) in
      S.on ∙ T.on ∙ done (pred (pred k)) 62 T.to T.rest ∙ omega (arith, S.nodes, T.nodes)
  counts (suc (suc (suc m))) k r e h =
      let S : Stepped k r 60 (suc (suc m)) 1 = text_step (suc (suc m)) k r e (omega arith) in
      let T : Stepped (pred k) S.to 97 m 1 = tag_step m (pred k) S.to S.rest (omega arith) in
      S.on ∙ T.on ∙ counts m (pred (pred k)) T.to T.rest (omega arith) ∙ omega (arith, S.nodes, T.nodes)

module _ (f : Settings) (fine : f.fine ≡ true) (close : f.white 62 ≡ false) (n : ℕ) (short : page_too_long f (densest n) ≡ false) where
  nodes : nodes_of f (densest n) ≡ max_nodes n
  nodes =
      let r : Reading = steps f.white f.void (densest n) (length (densest n)) begin in
      last_length (pred (length r.nodes)) r.opens r.nodes
      ∙ counts f.white f.void close (densest n) n (length (densest n)) begin refl (omega (arith, cycle_length 97 n)) ∙ omega arith

  attains : Attains f n (densest n)
  unfolding parse_answer
  attains =
      record {
        size = cycle_length 97 n;
        nodes = nodes;
        enough = λ w h. rw (fine, short, nodes, le-ltb w (row_at (max_nodes n)) h);
        too_few = λ w h. rw (fine, short, nodes, lt-ltb w (row_at (max_nodes n)) h);
      }

-- ---- the rows

module _ (f : Settings) (p : List ℕ) where
  nodes_few : nodes_of f p ≤ max_nodes (length p)
  nodes_few = bounded f.white f.void p

  -- what is counted are the nodes of a page that is not too long, under a profile within its limits
  read_counts : (words n : ℕ) → parse_answer f p words ≡ Ok n → (f.fine ≡ true) × (nodes_of f p ≡ n) × (length p ≤ f.limit)
  unfolding parse_answer
  read_counts words n e = go f.fine refl (page_too_long f p) refl (ltb words (row_at (nodes_of f p))) e
    where
      go : (a : Bool) → f.fine ≡ a → (b : Bool) → page_too_long f p ≡ b → (d : Bool)
          → pick (not a) (Err ProfileNotFine) (pick b (Err PageTooLong) (pick d (Err TableTooSmall) (Ok (nodes_of f p)))) ≡ Ok n
          → (f.fine ≡ true) × (nodes_of f p ≡ n) × (length p ≤ f.limit)
      go false o b q d g = let z : ◌≡◌ {A = ℕ} 0 1 = cc in absurd (omega arith)
      go true o true q d g = let z : ◌≡◌ {A = ℕ} 0 1 = cc in absurd (omega arith)
      go true o false q true g = let z : ◌≡◌ {A = ℕ} 0 1 = cc in absurd (omega arith)
      go true o false q false g = (o, cc, ltb-false f.limit (length p) q)

  rows_enough : f.fine ≡ true → length p ≤ f.limit → (words : ℕ) → row_at (max_nodes (length p)) ≤ words
      → parse_answer f p words ≡ Ok (nodes_of f p)
  unfolding parse_answer
  rows_enough fine l words h = rw (fine, le-ltb f.limit (length p) l, le-ltb words (row_at (nodes_of f p)) (omega (arith, nodes_few)))

-- U13
pub node_bound : NodeBound
node_bound =
    record {
      bound = nodes_few;
      most = λ q p words n e.
          let r = read_counts (settings_of q) p words n e in
          let F = fine_facts q r.0 in omega (arith, nodes_few (settings_of q) p, r.1, r.2, F.limit);
      rows = λ q e p l. rows_enough (settings_of q) p e l;
      attained = λ q e n l.
          attains (settings_of q) e (white_below q e 62 (omega arith)) n
          (le-ltb (limit_of q) (length (densest n)) (omega (arith, l, cycle_length 97 n)));
    }
