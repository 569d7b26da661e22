-- What one step of the reader takes and adds: a text, or something that begins with `<`, and at most one node.
use Prim.Native.Nat.{ℕ, zero, suc, ◌+◌, ◌-◌, ◌≤◌, ◌<◌, pred}
use native.Mathlib.Omega.{arith}
use mathlib.Core.Bool.{Bool, true, false, ◌&&◌, ◌||◌}
use mathlib.Core.Path.{◌≡◌, refl, ◌∙◌}
use mathlib.Core.List.{List, [], ◌∷◌}
use lib.ListN.{length, length-append, length-set}
use lib.Dec.{eqb, ltb}
use borrow.Author.Tests.{ltb-true, ltb-false}
use Rattle.rules.specs.Bytes.{is, other, is_ident}
use Rattle.rules.specs.Scan.{skip, here, pass, part, same}
use Rattle.rules.specs.declared.Item.{Item}
use Rattle.rules.specs.declared.Item.TheVariants.{Text, Close, Comment, Doctype, Tag, Nothing}
use Rattle.rules.specs.Lexer.{next, comment_end, same_lower, doctype_name, tag_to, closing, bang, tag, markup, item_at}
use Rattle.rules.specs.Attributes.{attributes_end}
use Rattle.rules.specs.Reader.{Reading, node, leaf, tag_node, closed, ended_by, close_into, put, step, steps}
use Rattle.rules.proofs.Pick.{cases}
use Rattle.laws.proofs.CutLexer.{Formed, item_grows, item_formed}
use Rattle.laws.proofs.Lockstep.{put_at_lem}

-- ---- the nodes that an item adds

abbrev pub adds : Item → ℕ
adds (Text e) = 1
adds (Close a e n) = 0
adds (Comment a e n) = 1
adds (Doctype h n) = 0
adds (Tag a e n s) = 1
adds (Nothing n) = 0

pub adds_few : (i : Item) → adds i ≤ 1
adds_few (Text e) = omega arith
adds_few (Close a e n) = omega arith
adds_few (Comment a e n) = omega arith
adds_few (Doctype h n) = omega arith
adds_few (Tag a e n s) = omega arith
adds_few (Nothing n) = omega arith

module _ (void : List ℕ → Bool) (p : List ℕ) where
  close_count : (r : Reading) (a e n : ℕ) (hs : List ℕ) → length (close_into p r a e n hs).nodes ≡ length r.nodes
  unfolding close_into
  close_count r a e n [] = refl
  close_count r a e n (h ∷ hs) =
      cases (λ (s : Reading). length s.nodes ≡ length r.nodes) (same (part p (node r.nodes h).name (node r.nodes h).stop) (part p a e))
      (λ t. length-set r.nodes h (closed (node r.nodes h) n (pred (length r.nodes)) (ended_by e n)))
      (λ t. refl)

  pub put_count : (r : Reading) (i : Item) → length (put void p r i).nodes ≡ length r.nodes + adds i
  unfolding put
  put_count r (Text e) = length-append r.nodes (leaf r 2 r.at e ∷ [])
  put_count r (Close a e n) = close_count r a e n r.opens ∙ omega arith
  put_count r (Comment a e n) = length-append r.nodes (leaf r 3 a e ∷ [])
  put_count r (Doctype h n) = omega arith
  put_count r (Tag a e n s) = length-append r.nodes (tag_node r a e n (s || void (part p a e)) ∷ [])
  put_count r (Nothing n) = omega arith

-- ---- a text, or something that begins with `<`

abbrev pub NoText : Item → Type 0
NoText (Text e) = ⊥
NoText (Close a e n) = Unit {0}
NoText (Comment a e n) = Unit {0}
NoText (Doctype h n) = Unit {0}
NoText (Tag a e n s) = Unit {0}
NoText (Nothing n) = Unit {0}

module _ (white : ℕ → Bool) (p : List ℕ) where
  markup_no_text : (q : ℕ) → NoText (markup white p q)
  unfolding markup closing bang tag
  markup_no_text q =
      cases NoText (here (is 47) p q) (λ t. tt)
      (λ t. cases NoText (here (is 33) p q) (λ u. after_bang)
      (λ u. cases NoText (ltb q (length p)) (λ v. cases NoText (here (is 47) p w) (λ x. to (pass p w) true) (λ x. to w false)) (λ v. tt)))
    where
      w : ℕ
      w = attributes_end white (length p) p (skip is_ident p q)

      to : (c : ℕ) (slash : Bool) → NoText (tag_to p q (skip is_ident p q) c slash)
      to c slash = cases NoText (here (is 62) p c) (λ y. tt) (λ y. tt)

      after_bang : NoText (bang white p q)
      after_bang =
          cases NoText (here (is 45) p (pass p q) && here (is 45) p (suc (pass p q)))
          (λ d. cases NoText (eqb (comment_end (length p) p (pass p q)) 0) (λ y. tt) (λ y. tt))
          (λ d. cases NoText (same_lower (part p (pass p q) (skip is_ident p (pass p q))) doctype_name) (λ y. tt) (λ y. tt))

  -- a text runs up to the next `<`
  pub item_text : (at : ℕ) → here (is 60) p at ≡ false → item_at white p at ≡ Text (skip (other 60) p at)
  unfolding item_at
  item_text at h = rw h

  pub item_no_text : (at : ℕ) → here (is 60) p at ≡ true → NoText (item_at white p at)
  unfolding item_at
  item_no_text at h = rw h (markup_no_text (skip white p (pass p at)))

  -- what begins with `<` takes one byte, and two where it adds a node
  pub item_wide : (at : ℕ) → at < length p → here (is 60) p at ≡ true → at + suc (adds (item_at white p at)) ≤ next (item_at white p at)
  item_wide at l h = go (item_at white p at) (item_no_text at h) (item_formed white p at l) (item_grows white p at l).0
    where
      go : (i : Item) → NoText i → Formed at i → at < next i → at + suc (adds i) ≤ next i
      go (Text e) n f g = absurd n
      go (Close a e x) n f g = omega arith
      go (Comment a e x) n f g = omega (arith, f.2)
      go (Doctype b x) n f g = omega arith
      go (Tag a e x s) n f g = omega (arith, f.0, f.1, f.2)
      go (Nothing x) n f g = omega arith

-- ---- as many steps as bytes are left come to the end of the page

module _ (white : ℕ → Bool) (void : List ℕ → Bool) (p : List ℕ) where
  pub steps_end : (k : ℕ) (r : Reading) → length p - r.at ≤ k → length p ≤ (steps white void p k r).at
  unfolding steps step
  steps_end zero r l = omega arith
  steps_end (suc k) r l =
      cases (λ (s : Reading). length p ≤ s.at) (ltb r.at (length p))
      (λ t. let i : Item = item_at white p r.at in
      let g = item_grows white p r.at (ltb-true r.at (length p) t) in
      steps_end k (put void p r i) (omega (arith, put_at_lem white void p r i, g.0)))
      (λ t. ltb-false r.at (length p) t)
