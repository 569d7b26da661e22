-- The nodes of every page are sound, as is asked of a table.
use Prim.Native.Nat.{ℕ, zero, suc, ◌≤◌, ◌<◌, pred}
use native.Mathlib.Omega.{arith}
use mathlib.Core.Bool.{Bool, true, false, ◌||◌}
use mathlib.Core.Path.{◌≡◌, refl, ap, ◌∙◌}
use mathlib.Core.List.{List, [], ◌∷◌, ◌++◌}
use lib.ListN.{length, set, length-append, length-set, get_or-append}
use lib.Seq.{get_or-append_seam, get_or-set_other}
use lib.Dec.{ltb}
use borrow.Author.Tests.{ltb-true}
use Rattle.rules.specs.Scan.{pick, part, same}
use Rattle.rules.specs.declared.Item.{Item}
use Rattle.rules.specs.declared.Item.TheVariants.{Text, Close, Comment, Doctype, Tag, Nothing}
use Rattle.rules.specs.Lexer.{next, item_at}
use Rattle.rules.specs.declared.Node.{Node}
use Rattle.rules.specs.Reader.{node, Reading, no_node, leaf, tag_node, closed, settled, ended_by, close_into, put, step, steps, begin, with_last, read}
use Rattle.rules.specs.Facts.{Ended, SoundNode, Tags, Fine}
use Rattle.rules.proofs.Pick.{cases}
use Rattle.laws.proofs.CutLexer.{Formed, item_grows, item_formed}
use Rattle.laws.proofs.Nodes.{snoc_all, set_all}
use Rattle.laws.proofs.Nested.{Nested}
use Rattle.laws.proofs.Tree.{parents, page_nested}
use Rattle.laws.proofs.Lockstep.{put_at_lem}

pub record SoundNodes (size : ℕ) (ns : List Node) : Type 0 where
  pub nodes : (h : ℕ) → h < length ns → SoundNode size h (node ns h)
  pub nested : Nested (length ns) (parents ns) (λ d. (node ns d).last)

later : {a b h : ℕ} {t : Node} → a ≤ b → SoundNode a h t → SoundNode b h t
later l s =
    record { some = s.some; known = s.known; ordered = s.ordered; within = omega arith; tag = s.tag; plain = s.plain; ended = s.ended }

-- the handles are of the same tags where kinds and endings below b stay
tags_cong : (ns ms : List Node) (b c : ℕ) (hs : List ℕ) → b ≤ c
    → ((d : ℕ) → d < b → ((node ms d).kind ≡ (node ns d).kind) × ((node ms d).ended ≡ (node ns d).ended)) → Tags ns b hs → Tags ms c hs
tags_cong ns ms b c [] l f t = tt
tags_cong ns ms b c (h ∷ hs) l f t =
    let kept = f h t.0 in
    (omega (arith, t.0), kept.0 ∙ t.1, kept.1 ∙ t.2, tags_cong ns ms h h hs (omega arith) (λ d y. f d (omega (arith, t.0))) t.3)

-- one node more
tags_snoc : (ns : List Node) (x : Node) (c : ℕ) (hs : List ℕ) → length ns ≤ c → Tags ns (length ns) hs → Tags (ns ++ (x ∷ [])) c hs
tags_snoc ns x c hs l =
    tags_cong ns (ns ++ (x ∷ [])) (length ns) c hs l (λ d b. rw (get_or-append ns (x ∷ []) no_node d b) (refl, refl))

-- another node for h: it is none of the tags around it
pub tags_set : (ns : List Node) (h c : ℕ) (y : Node) (hs : List ℕ) → h ≤ c → Tags ns h hs → Tags (set ns h y) c hs
tags_set ns h c y hs l =
    tags_cong ns (set ns h y) h c hs l (λ d b. rw (get_or-set_other ns h d y no_node (λ e. omega (arith, e, b))) (refl, refl))

-- nothing has been read
pub begin_fine : Fine begin
begin_fine = record { nodes = λ h b. absurd (omega arith); tags = tt }

-- how a tag ended: as it was made; closed by a closing tag
made : {h : ℕ} (n : Node) → n.kind ≡ 1 → n.end ≡ n.opened → n.last ≡ h
    → (n.ended ≤ 3) × (n.ended ≡ 1 → ⊥) × (n.ended ≡ 2 → ⊥) → Ended h n
made n k e l o =
    record {
      high = o.0;
      other = λ z. absurd (z k);
      left = λ z u. e;
      whole = λ z. absurd (o.1 z);
      short = λ z. absurd (o.2 z);
      never = λ z. e;
      alone = λ z. l;
    }

by_closing : {h : ℕ} (n : Node) → n.kind ≡ 1 → n.opened < n.end → (1 ≤ n.ended) × (n.ended ≤ 2) → Ended h n
by_closing n k l o =
    record {
      high = omega arith;
      other = λ z. absurd (z k);
      left = λ z u. absurd (omega arith);
      whole = λ z. l;
      short = λ z. l;
      never = λ z. absurd (omega arith);
      alone = λ z. absurd (omega arith);
    }

-- an open tag with another last
lasting : {a h : ℕ} {t : Node} (l : ℕ) → t.kind ≡ 1 → t.ended ≡ 0 → SoundNode a h t → SoundNode a h (settled t l)
lasting l k o s =
    let E = s.ended in
    record {
      some = s.some;
      known = s.known;
      ordered = s.ordered;
      within = s.within;
      tag = s.tag;
      plain = λ z. absurd (z k);
      ended =
          record {
            high = E.high;
            other = E.other;
            left = E.left;
            whole = E.whole;
            short = E.short;
            never = E.never;
            alone = λ z. absurd (omega (arith, z, o));
          };
    }

-- a tag that a closing tag closes at n
closing : {a b h : ℕ} {t : Node} (e n l : ℕ) → t.kind ≡ 1 → t.end < n → n ≤ b → SoundNode a h t → SoundNode b h (closed t n l (ended_by e n))
closing {t = t} e n l k x y s =
    record {
      some = s.some;
      known = s.known;
      ordered = omega (arith, s.ordered);
      within = y;
      tag = λ z. omega (arith, s.tag z);
      plain = λ z. absurd (z k);
      ended =
          by_closing (closed t n l (ended_by e n)) k (omega (arith, s.tag k))
          (cases (λ (v : ℕ). (1 ≤ v) × (v ≤ 2)) (ltb e n) (λ z. (omega arith, omega arith)) (λ z. (omega arith, omega arith)));
    }

module _ (white : ℕ → Bool) (void : List ℕ → Bool) (p : List ℕ) where
  add : (r : Reading) (x : Node) (n : ℕ) → Fine r → r.at ≤ n → SoundNode n (length r.nodes) x → (h : ℕ) → h < length (r.nodes ++ (x ∷ []))
      → SoundNode n h (node (r.nodes ++ (x ∷ [])) h)
  add r x n F l s h b =
      snoc_all (λ h t. h < suc (length r.nodes) → SoundNode n h t) r.nodes x (λ h k z. later l (F.nodes h k)) (λ z. s) (λ h k z. absurd (omega arith)) h
      (omega (arith, length-append r.nodes (x ∷ [])))

  put_leaf : (r : Reading) (kind start end n : ℕ) → 2 ≤ kind → kind ≤ 3 → start ≤ end → end ≤ n → SoundNode n (length r.nodes) (leaf r kind start end)
  put_leaf r kind start end n a b c d =
      record {
        some = omega arith;
        known = b;
        ordered = c;
        within = d;
        tag = λ z. absurd (omega (arith, z));
        plain = λ z. (refl, refl, refl, refl);
        ended =
            record {
              high = omega arith;
              other = λ z. refl;
              left = λ k z. absurd (omega (arith, k));
              whole = λ z. absurd (omega (arith, z));
              short = λ z. absurd (omega (arith, z));
              never = λ z. absurd (omega (arith, z));
              alone = λ z. refl;
            };
      }

  close_fine : (r : Reading) (a e n : ℕ) (hs : List ℕ) → r.opens ≡ hs → r.at < n → Fine r → Fine (close_into p r a e n hs)
  unfolding close_into
  close_fine r a e n [] q l F = record { nodes = λ h b. later (omega arith) (F.nodes h b); tags = F.tags }
  close_fine r a e n (h ∷ hs) q l F =
      cases Fine (same (part p (node r.nodes h).name (node r.nodes h).stop) (part p a e))
      (λ t. record {
        nodes = λ k b. all k (omega (arith, length-set r.nodes h y));
        tags = tags_set r.nodes h (length (set r.nodes h y)) y hs (omega (arith, length-set r.nodes h y, T.0)) T.3;
      })
      (λ t. record { nodes = λ k b. later (omega arith) (F.nodes k b); tags = F.tags })
    where
      y : Node
      y = closed (node r.nodes h) n (pred (length r.nodes)) (ended_by e n)

      T : Tags r.nodes (length r.nodes) (h ∷ hs)
      T = rw q at F.tags

      all : (k : ℕ) → k < length r.nodes → SoundNode n k (node (set r.nodes h y) k)
      all =
          set_all (λ k t. k < length r.nodes → SoundNode n k t) r.nodes h y (λ k b. later (omega arith) (F.nodes k b))
          (λ b c. let s : SoundNode r.at h (node r.nodes h) = F.nodes h b in
          closing e n (pred (length r.nodes)) T.1 (omega (arith, s.within)) (omega arith) s)

  pub put_fine : (r : Reading) (i : Item) → r.at < next i → Formed r.at i → Fine r → Fine (put void p r i)
  unfolding put
  put_fine r (Text e) l f F =
      let x : Node = leaf r 2 r.at e in
      record {
        nodes = add r x e F (omega arith) (put_leaf r 2 r.at e e (omega arith) (omega arith) (omega arith) (omega arith));
        tags = tags_snoc r.nodes x (length (r.nodes ++ (x ∷ []))) r.opens (omega (arith, length-append r.nodes (x ∷ []))) F.tags;
      }
  put_fine r (Close a e n) l f F = close_fine r a e n r.opens refl (omega arith) F
  put_fine r (Comment a e n) l f F =
      let x : Node = leaf r 3 a e in
      record {
        nodes = add r x n F (omega arith) (put_leaf r 3 a e n (omega arith) (omega arith) f.0 f.1);
        tags = tags_snoc r.nodes x (length (r.nodes ++ (x ∷ []))) r.opens (omega (arith, length-append r.nodes (x ∷ []))) F.tags;
      }
  put_fine r (Doctype h n) l f F = record { nodes = λ k b. later (omega arith) (F.nodes k b); tags = F.tags }
  put_fine r (Tag a e n s) l f F = record { nodes = add r (new shut) n F (omega arith) sound; tags = opens shut }
    where
      shut : Bool
      shut = s || void (part p a e)

      new : Bool → Node
      new b = tag_node r a e n b

      sound : SoundNode n (length r.nodes) (new shut)
      sound =
          record {
            some = omega arith;
            known = omega arith;
            ordered = omega arith;
            within = omega arith;
            tag = λ z. omega arith;
            plain = λ z. absurd (z refl);
            ended =
                made (new shut) refl refl refl
                (cases (λ (v : ℕ). (v ≤ 3) × (v ≡ 1 → ⊥) × (v ≡ 2 → ⊥)) shut
                (λ z. (omega arith, λ q. omega arith, λ q. omega arith)) (λ z. (omega arith, λ q. omega arith, λ q. omega arith)));
          }

      opens : (b : Bool) → let ns = r.nodes ++ (new b ∷ []) in Tags ns (length ns) (pick b r.opens (length r.nodes ∷ r.opens))
      opens true =
          let x : Node = new true in
          tags_snoc r.nodes x (length (r.nodes ++ (x ∷ []))) r.opens (omega (arith, length-append r.nodes (x ∷ []))) F.tags
      opens false =
          let x : Node = new false in
          let last = get_or-append_seam r.nodes x [] no_node in (
            omega (arith, length-append r.nodes (x ∷ [])),
            ap (λ (t : Node). t.kind) last,
            ap (λ (t : Node). t.ended) last,
            tags_snoc r.nodes x (length r.nodes) r.opens (omega arith) F.tags,
          )
  put_fine r (Nothing n) l f F = record { nodes = λ k b. later (omega arith) (F.nodes k b); tags = F.tags }

  pub steps_fine : (k : ℕ) (r : Reading) → r.at ≤ length p → Fine r → Fine (steps white void p k r) × ((steps white void p k r).at ≤ length p)
  unfolding steps step
  steps_fine zero r h F = (F, h)
  steps_fine (suc k) r h F =
      cases (λ (s : Reading). Fine s × (s.at ≤ length p)) (ltb r.at (length p))
      (λ t. let l : r.at < length p = ltb-true r.at (length p) t in
      let g : (r.at < next (item_at white p r.at)) × (next (item_at white p r.at) ≤ length p) = item_grows white p r.at l in
      steps_fine k (put void p r (item_at white p r.at)) (omega (arith, put_at_lem white void p r (item_at white p r.at)))
      (put_fine r (item_at white p r.at) g.0 (item_formed white p r.at l) F))
      (λ t. (F, h))

-- the open tags get their last descendant
last_sound_lem : (l size b : ℕ) (hs : List ℕ) (ns : List Node) → Tags ns b hs → ((h : ℕ) → h < length ns → SoundNode size h (node ns h))
    → (h : ℕ) → h < length (with_last l hs ns) → SoundNode size h (node (with_last l hs ns) h)
unfolding with_last
last_sound_lem l size b [] ns T S = S
last_sound_lem l size b (k ∷ hs) ns T S =
    last_sound_lem l size k hs (set ns k y) (tags_set ns k k y hs (omega arith) T.3) (λ h b. all h (omega (arith, length-set ns k y)))
  where
    y : Node
    y = settled (node ns k) l

    all : (h : ℕ) → h < length ns → SoundNode size h (node (set ns k y) h)
    all = set_all (λ h t. h < length ns → SoundNode size h t) ns k y S (λ b c. lasting l T.1 T.2 (S k b))

-- the nodes of a page are sound
pub page_sound : (white : ℕ → Bool) (void : List ℕ → Bool) (p : List ℕ) → SoundNodes (length p) (read white void p).nodes
page_sound white void p =
    let s : Reading = steps white void p (length p) begin in
    let f : Fine s × (s.at ≤ length p) = steps_fine white void p (length p) begin (omega arith) begin_fine in
    record {
      nodes =
          last_sound_lem (pred (length s.nodes)) (length p) (length s.nodes) s.opens s.nodes f.0.tags
          (λ h b. later f.1 (f.0.nodes h b));
      nested = page_nested white void p;
    }
