-- What stands at a place of a page, against what stands there in the first n bytes of the page.
use Prim.Native.Nat.{ℕ, suc, ◌+◌, ◌-◌, ◌≤◌, ◌<◌, min, pred}
use native.Mathlib.Omega.{arith}
use native.Mathlib.Decide.{dec_le, dec_lt}
use mathlib.Core.Bool.{Bool, true, false, ◌&&◌, and-false}
use mathlib.Core.Logic.{◌⊎◌, inl, inr, ⊎_elim}
use mathlib.Core.Path.{◌≡◌, refl, ap, ◌∙◌}
use mathlib.Core.List.{List}
use lib.ListN.{length, take, drop, get_or}
use lib.Seq.{take-length, take-take, drop-cons}
use lib.Dec.{eqb, ltb, leb}
use borrow.Author.Tests.{lt-ltb, le-ltb, ltb-false, le-leb, leb-true, leb-false, eqb-true, ne_eqb}
use Rattle.std.proofs.lemmas.Bool.{and_parts}
use Rattle.rules.specs.Bytes.{is_ident, other, is}
use Rattle.rules.specs.Scan.{pick, span, skip, here, pass, part}
use Rattle.rules.specs.Attributes.{attributes_end}
use Rattle.rules.specs.declared.Item.{Item}
use Rattle.rules.specs.declared.Item.TheVariants.{Text, Close, Comment, Doctype, Tag, Nothing}
use Rattle.rules.specs.Lexer.{next, is_tag_item, comment_end, comment_to, item_at, markup, closing, tag, tag_from, tag_to, bang, declaration_from}
use Rattle.rules.specs.Lexer.{doctype_from, same_lower, doctype_name}
use Rattle.laws.proofs.Cut.{Scans, skip_scans, pass_scans, then_scans, cut_at, here_cut, here_end, length_cut, end_cut, end_grows, drop_take}
use Rattle.rules.proofs.Pick.{cases}
use Rattle.rules.proofs.Places.{here_below}
use Rattle.laws.proofs.CutItem.{Ends, comment_end_lem, comment_cut, below}

-- an item that may leave a finished tag: a tag, which may be never opened, or a closing tag whose `>` was passed
abbrev pub finishes : Item → Bool
finishes (Text e) = false
finishes (Close a e n) = ltb e n
finishes (Comment a e n) = false
finishes (Doctype h n) = false
finishes (Tag a e n s) = true
finishes (Nothing n) = false

pub no_tag_item : (i : Item) → finishes i ≡ false → is_tag_item i ≡ false
no_tag_item (Text e) z = refl
no_tag_item (Close a e n) z = refl
no_tag_item (Comment a e n) z = refl
no_tag_item (Doctype h n) z = refl
no_tag_item (Tag a e n s) z = z
no_tag_item (Nothing n) z = refl

-- An item i of a page and what stands in its place in the first n bytes: the same, or what finishes no tag, up to the cut.
pub data Cut (n : ℕ) (i j : Item) : Type 0 where
  whole : j ≡ i → next i ≤ n → Cut n i j
  past : n < next i → next j ≡ n → finishes j ≡ false → Cut n i j

pub record Items (F : List ℕ → ℕ → Item) : Type 0 where
  pub grows : (p : List ℕ) (at : ℕ) → at ≤ length p → at ≤ next (F p at)
  pub within : (p : List ℕ) (at : ℕ) → at ≤ length p → next (F p at) ≤ length p
  pub stop : (p : List ℕ) → finishes (F p (length p)) ≡ false
  pub cut : (p : List ℕ) (n at : ℕ) → n < length p → at ≤ n → Cut n (F p at) (F (take n p) at)

module _ {F : List ℕ → ℕ → Item} (S : Items F) where
  -- the beginning stands at its end
  pub ended : (p : List ℕ) (n : ℕ) (i : Item) → n < length p → n < next i → Cut n i (F (take n p) n)
  ended p n i hn h =
      let e : length (take n p) ≡ n = length_cut n p (omega arith) in
      past h (omega (arith, S.grows (take n p) n (omega arith), S.within (take n p) n (omega arith))) (rw e at (S.stop (take n p)))

  pub item_cut_at : (p : List ℕ) (n at : ℕ) → n < length p → at ≤ length p → Cut n (F p at) (F (take n p) (min n at))
  item_cut_at p n at hn ha = go (dec_le at n)
    where
      go : Dec (at ≤ n) → Cut n (F p at) (F (take n p) (min n at))
      go (yes h) = let e : min n at ≡ at = omega arith in rw e (S.cut p n at hn h)
      go (no h) = let e : min n at ≡ n = omega arith in rw e (ended p n (F p at) hn (omega (arith, S.grows p at ha)))

pub then_items : {G : List ℕ → ℕ → ℕ} {F : List ℕ → ℕ → Item} → Scans G → Items F → Items (λ p at. F p (G p at))
then_items {G} {F} T S =
    record {
      grows = λ p at h. omega (arith, T.grows p at h, S.grows p (G p at) (T.within p at h));
      within = λ p at h. S.within p (G p at) (T.within p at h);
      stop = λ p. let e : G p (length p) ≡ length p = omega (arith, T.grows p (length p) (omega arith), T.within p (length p) (omega arith)) in rw e (S.stop p);
      cut = λ p n at hn ha. rw (T.cut p n at (omega arith) ha) (item_cut_at S p n (G p at) hn (T.within p at (omega arith)));
    }

pub here_stop : (P : ℕ → Bool) (p : List ℕ) → here P p (length p) ≡ false
here_stop P p = rw (le-ltb (length p) (length p) (omega arith))

-- a branch on the byte at a place; the first item passes that byte
pub branch_items : (P : ℕ → Bool) {F G : List ℕ → ℕ → Item} → Items F → Items G → ((p : List ℕ) (at : ℕ) → at < length p → at < next (F p at))
    → Items (λ p at. pick (here P p at) (F p at) (G p at))
branch_items P {F} {G} S T strict =
    record {
      grows = λ p at h. cases (λ i. at ≤ next i) (here P p at) (λ t. S.grows p at h) (λ t. T.grows p at h);
      within = λ p at h. cases (λ i. next i ≤ length p) (here P p at) (λ t. S.within p at h) (λ t. T.within p at h);
      stop = λ p. rw (here_stop P p) (T.stop p);
      cut = λ p n at hn ha. go p n at hn ha (dec_lt at n);
    }
  where
    go : (p : List ℕ) (n at : ℕ) → n < length p → at ≤ n → Dec (at < n)
        → Cut n (pick (here P p at) (F p at) (G p at)) (pick (here P (take n p) at) (F (take n p) at) (G (take n p) at))
    go p n at hn ha (yes h) = rw (here_cut P p n at (omega arith) h) (both (here P p at))
      where
        both : (b : Bool) → Cut n (pick b (F p at) (G p at)) (pick b (F (take n p) at) (G (take n p) at))
        both true = S.cut p n at hn ha
        both false = T.cut p n at hn ha
    go p n at hn ha (no h) =
        let e : at ≡ n = omega arith in
        rw (e, here_end P p n (omega arith))
        (cases (λ i. Cut n i (G (take n p) n)) (here P p n) (λ t. ended T p n (F p n) hn (strict p n hn)) (λ t. T.cut p n n hn (omega arith)))

pub part_cut : (p : List ℕ) (n a e : ℕ) → e ≤ n → part (take n p) a e ≡ part p a e
part_cut p n a e h = rw (drop_take a n p, take-take (e - a) (n - a) (drop a p) (omega arith))

module _ (white : ℕ → Bool) where
  pub tag_to_items : (s e : ℕ) (slash : Bool) → Items (λ p c. tag_to p s e c slash)
  tag_to_items s e slash =
      record {
        grows = λ p c h. cases (λ i. c ≤ next i) (here (is 62) p c) (λ t. omega arith) (λ t. omega arith);
        within = λ p c h. cases (λ i. next i ≤ length p) (here (is 62) p c) (λ t. omega arith) (λ t. h);
        stop = λ p. rw (here_stop (is 62) p);
        cut = λ p n c hn hc. go p n c hn hc (dec_lt c n);
      }
    where
      go : (p : List ℕ) (n c : ℕ) → n < length p → c ≤ n → Dec (c < n) → Cut n (tag_to p s e c slash) (tag_to (take n p) s e c slash)
      go p n c hn hc (yes h) = rw (here_cut (is 62) p n c (omega arith) h) (both (here (is 62) p c))
        where
          k : pass (take n p) c ≡ pass p c
          k = pass_scans.cut p n c (omega arith) hc ∙ omega arith

          both : (b : Bool) → Cut n (pick b (Tag s e (pass p c) slash) (Nothing c)) (pick b (Tag s e (pass (take n p) c) slash) (Nothing c))
          both true = rw k (whole refl (omega arith))
          both false = whole refl hc
      go p n c hn hc (no h) =
          let eq : c ≡ n = omega arith in
          rw (eq, here_end (is 62) p n (omega arith))
          (cases (λ i. Cut n i (Nothing n)) (here (is 62) p n) (λ t. past (omega arith) refl refl) (λ t. whole refl (omega arith)))

  pub tag_from_items : (s e : ℕ) → Items (λ p a. tag_from p s e a)
  tag_from_items s e =
      branch_items (is 47) (then_items pass_scans (tag_to_items s e true)) (tag_to_items s e false)
      (λ p at h. omega (arith, (tag_to_items s e true).grows p (pass p at) (omega arith)))

  -- where the attributes of a tag end whose name starts at a place
  abbrev pub tag_end : List ℕ → ℕ → ℕ
  tag_end p at = attributes_end white (length p) p (skip is_ident p at)

  pub tag_end_scans : Scans tag_end
  tag_end_scans =
      record {
        grows = λ p at h. omega
            (arith, (skip_scans is_ident).grows p at h, (end_grows white (length p) p (skip is_ident p at) ((skip_scans is_ident).within p at h)).0);
        within = λ p at h. (end_grows white (length p) p (skip is_ident p at) ((skip_scans is_ident).within p at h)).1;
        cut = λ p n at hn ha. go p n at hn ha (dec_le (skip is_ident p at) n);
      }
    where
      go : (p : List ℕ) (n at : ℕ) → n ≤ length p → at ≤ n → Dec (skip is_ident p at ≤ n) → tag_end (take n p) at ≡ min n (tag_end p at)
      go p n at hn ha (yes h) =
          let e : skip is_ident (take n p) at ≡ skip is_ident p at = (skip_scans is_ident).cut p n at hn ha ∙ omega arith in
          rw (e, length_cut n p hn) (end_cut white (length p) n p n (skip is_ident p at) hn h (omega arith) (omega arith))
      go p n at hn ha (no h) =
          let e : skip is_ident (take n p) at ≡ n = (skip_scans is_ident).cut p n at hn ha ∙ omega arith in
          let l : length (take n p) ≡ n = length_cut n p hn in
          let g : skip is_ident p at ≤ length p = (skip_scans is_ident).within p at (omega arith) in
          rw e (omega (arith, end_grows white (length (take n p)) (take n p) n (omega arith), end_grows white (length p) p (skip is_ident p at) g))

  pub tag_items : Items (tag white)
  unfolding tag
  tag_items =
      record {
        grows = λ p at h. omega
            (arith, tag_end_scans.grows p at h, (tag_from_items at (skip is_ident p at)).grows p (tag_end p at) (tag_end_scans.within p at h));
        within = λ p at h. (tag_from_items at (skip is_ident p at)).within p (tag_end p at) (tag_end_scans.within p at h);
        stop = λ p. let e : tag_end p (length p) ≡ length p =
            omega (arith, tag_end_scans.grows p (length p) (omega arith), tag_end_scans.within p (length p) (omega arith)) in
            rw e ((tag_from_items (length p) (skip is_ident p (length p))).stop p);
        cut = λ p n at hn ha. go p n at hn ha (dec_le (skip is_ident p at) n);
      }
    where
      go : (p : List ℕ) (n at : ℕ) → n < length p → at ≤ n → Dec (skip is_ident p at ≤ n) → Cut n (tag white p at) (tag white (take n p) at)
      go p n at hn ha (yes h) =
          let e : skip is_ident (take n p) at ≡ skip is_ident p at = (skip_scans is_ident).cut p n at (omega arith) ha ∙ omega arith in
          rw (tag_end_scans.cut p n at (omega arith) ha, e)
          (item_cut_at (tag_from_items at (skip is_ident p at)) p n (tag_end p at) hn (tag_end_scans.within p at (omega arith)))
      go p n at hn ha (no h) =
          let g : skip is_ident p at ≤ length p = (skip_scans is_ident).within p at (omega arith) in
          let a : n < tag_end p at = omega (arith, (end_grows white (length p) p (skip is_ident p at) g).0) in
          let e : tag_end (take n p) at ≡ n = tag_end_scans.cut p n at (omega arith) ha ∙ omega arith in
          rw e (ended (tag_from_items at (skip is_ident (take n p) at)) p n (tag white p at) hn
          (omega (arith, (tag_from_items at (skip is_ident p at)).grows p (tag_end p at) (tag_end_scans.within p at (omega arith)))))

  pub closing_items : Items (closing)
  unfolding closing
  closing_items =
      record {
        grows = λ p at h. S.grows p at h;
        within = λ p at h. S.within p at h;
        stop = λ p. unclosed p (length p) (omega (arith, (skip_scans (other 62)).grows p (length p) (omega arith)));
        cut = λ p n at hn ha. go p n at hn ha (dec_lt (skip (other 62) p at) n);
      }
    where
      S : Scans (λ p at. pass p (skip (other 62) p at))
      S = then_scans (skip_scans (other 62)) pass_scans

      -- its `>` is not there
      unclosed : (p : List ℕ) (at : ℕ) → length p ≤ skip (other 62) p at → ltb (skip (other 62) p at) (pass p (skip (other 62) p at)) ≡ false
      unclosed p at h = le-ltb (skip (other 62) p at) (pass p (skip (other 62) p at)) (omega arith)

      go : (p : List ℕ) (n at : ℕ) → n < length p → at ≤ n → Dec (skip (other 62) p at < n) → Cut n (closing p at) (closing (take n p) at)
      go p n at hn ha (yes h) =
          let e : skip (other 62) (take n p) at ≡ skip (other 62) p at = (skip_scans (other 62)).cut p n at (omega arith) ha ∙ omega arith in
          let l : length (take n p) ≡ n = length_cut n p (omega arith) in
          let k : pass (take n p) (skip (other 62) p at) ≡ pass p (skip (other 62) p at) = omega arith in
          rw (e, k) (whole refl (omega arith))
      go p n at hn ha (no h) =
          let l : length (take n p) ≡ n = length_cut n p (omega arith) in
          past (omega arith) (S.cut p n at (omega arith) ha ∙ omega arith)
          (unclosed (take n p) at (omega (arith, (skip_scans (other 62)).cut p n at (omega arith) ha)))

  -- a declaration whose name starts at a place
  abbrev pub declaration : List ℕ → ℕ → Item
  declaration p x = declaration_from white p x (skip is_ident p x) (skip white p (skip is_ident p x))

  doctype_end : Scans (λ p w. pass p (skip white p (skip is_ident p w)))
  doctype_end = then_scans (then_scans (skip_scans is_ident) (skip_scans white)) pass_scans

  declared : (p : List ℕ) (x e w : ℕ) → w ≤ length p → (w ≤ next (declaration_from white p x e w)) × (next (declaration_from white p x e w) ≤ length p)
  declared p x e w h =
      cases (λ i. (w ≤ next i) × (next i ≤ length p)) (same_lower (part p x e) doctype_name)
      (λ t. (doctype_end.grows p w h, doctype_end.within p w h))
      (λ t. (omega arith, h))

  declared_plain : (p : List ℕ) (x e w : ℕ) → finishes (declaration_from white p x e w) ≡ false
  declared_plain p x e w = cases (λ i. finishes i ≡ false) (same_lower (part p x e) doctype_name) (λ t. refl) (λ t. refl)

  name_white : Scans (λ p x. skip white p (skip is_ident p x))
  name_white = then_scans (skip_scans is_ident) (skip_scans white)

  -- a name that runs to the cut
  declared_past : (p : List ℕ) (n x : ℕ) (i : Item) → n < length p → n < next i → skip is_ident (take n p) x ≡ n → Cut n i (declaration (take n p) x)
  declared_past p n x i hn h e =
      let l : length (take n p) ≡ n = length_cut n p (omega arith) in
      let w : skip white (take n p) n ≡ n =
      omega (arith, (skip_scans white).grows (take n p) n (omega arith), (skip_scans white).within (take n p) n (omega arith)) in
      rw (e, w) (past h (omega (arith, declared (take n p) x n n (omega arith))) (declared_plain (take n p) x n n))

  declaration_from_cut : (p : List ℕ) (n w : ℕ) → n < length p → w ≤ length p → (b : Bool)
      → Cut n (pick b (doctype_from white p w (skip is_ident p w)) (Nothing w))
      (pick b (doctype_from white (take n p) (min n w) (skip is_ident (take n p) (min n w))) (Nothing (min n w)))
  declaration_from_cut p n w hn hw true = go (dec_lt (skip white p (skip is_ident p w)) n)
    where
      f : skip is_ident (take n p) (min n w) ≡ min n (skip is_ident p w)
      f = cut_at (skip is_ident) (skip_scans is_ident) p n w (omega arith) hw

      g : skip white (take n p) (min n (skip is_ident p w)) ≡ min n (skip white p (skip is_ident p w))
      g = cut_at (skip white) (skip_scans white) p n (skip is_ident p w) (omega arith) ((skip_scans is_ident).within p w hw)

      l : length (take n p) ≡ n
      l = length_cut n p (omega arith)

      go : Dec (skip white p (skip is_ident p w) < n)
          → Cut n (doctype_from white p w (skip is_ident p w)) (doctype_from white (take n p) (min n w) (skip is_ident (take n p) (min n w)))
      go (yes h) =
          let a : skip is_ident p w ≤ n = omega (arith, (skip_scans white).grows p (skip is_ident p w) ((skip_scans is_ident).within p w hw)) in
          let b : w ≤ n = omega (arith, (skip_scans is_ident).grows p w hw) in
          let c : min n w ≡ w = omega arith in
          let d : min n (skip is_ident p w) ≡ skip is_ident p w = omega arith in
          let m : min n (skip white p (skip is_ident p w)) ≡ skip white p (skip is_ident p w) = omega arith in
          let k : pass (take n p) (skip white p (skip is_ident p w)) ≡ pass p (skip white p (skip is_ident p w)) = omega (arith, l) in
          rw (f, g, c, d, m, k, part_cut p n w (skip is_ident p w) a) (whole refl (omega arith))
      go (no h) = past (omega arith) (rw (f, g) (omega (arith, l))) refl
  declaration_from_cut p n w hn hw false = go (dec_le w n)
    where
      go : Dec (w ≤ n) → Cut n (Nothing w) (Nothing (min n w))
      go (yes h) = let c : min n w ≡ w = omega arith in rw c (whole refl h)
      go (no h) = past (omega arith) (omega arith) refl

  pub declaration_items : Items declaration
  declaration_items =
      record {
        grows = λ p x h. omega (arith, name_white.grows p x h, declared p x (skip is_ident p x) (skip white p (skip is_ident p x)) (name_white.within p x h));
        within = λ p x h. (declared p x (skip is_ident p x) (skip white p (skip is_ident p x)) (name_white.within p x h)).1;
        stop = λ p. declared_plain p (length p) (skip is_ident p (length p)) (skip white p (skip is_ident p (length p)));
        cut = λ p n x hn hx. go p n x hn hx (dec_le (skip is_ident p x) n);
      }
    where
      go : (p : List ℕ) (n x : ℕ) → n < length p → x ≤ n → Dec (skip is_ident p x ≤ n) → Cut n (declaration p x) (declaration (take n p) x)
      go p n x hn hx (yes h) =
          let e : skip is_ident (take n p) x ≡ skip is_ident p x = (skip_scans is_ident).cut p n x (omega arith) hx ∙ omega arith in
          rw (name_white.cut p n x (omega arith) hx, e, part_cut p n x (skip is_ident p x) h)
          (declaration_from_cut p n (skip white p (skip is_ident p x)) hn (name_white.within p x (omega arith))
          (same_lower (part p x (skip is_ident p x)) doctype_name))
      go p n x hn hx (no h) =
          let e : skip is_ident (take n p) x ≡ n = (skip_scans is_ident).cut p n x (omega arith) hx ∙ omega arith in
          let g : skip is_ident p x ≤ length p = (skip_scans is_ident).within p x (omega arith) in
          declared_past p n x (declaration p x) hn
          (omega (
            arith,
            (skip_scans white).grows p (skip is_ident p x) g,
            declared p x (skip is_ident p x) (skip white p (skip is_ident p x)) (name_white.within p x (omega arith)),
          )) e

-- where an item's name ends
abbrev pub name_to : Item → ℕ
name_to (Text e) = 0
name_to (Close a e n) = e
name_to (Comment a e n) = 0
name_to (Doctype h n) = 0
name_to (Tag a e n s) = e
name_to (Nothing n) = 0

-- what holds of the places in an item that begins at x; a tag or a comment has two bytes or more, and a comment starts there or later
abbrev pub Formed : ℕ → Item → Type 0
Formed x (Text e) = Unit {0}
Formed x (Close a e n) = (a ≤ e) × (e ≤ n)
Formed x (Comment a e n) = (a ≤ e) × (e ≤ n) × (suc x < n) × (x ≤ a)
Formed x (Doctype h n) = Unit {0}
Formed x (Tag a e n s) = (x < a) × (a ≤ e) × (e < n)
Formed x (Nothing n) = Unit {0}

pub formed_named : (x : ℕ) (i : Item) → Formed x i → name_to i ≤ next i
formed_named x (Text e) f = omega arith
formed_named x (Close a e n) f = f.1
formed_named x (Comment a e n) f = omega arith
formed_named x (Doctype h n) f = omega arith
formed_named x (Tag a e n s) f = omega arith
formed_named x (Nothing n) f = omega arith

pub skip_strict : (P : ℕ → Bool) (p : List ℕ) (x : ℕ) → here P p x ≡ true → x < skip P p x
unfolding span
skip_strict P p x h =
    let l : x < length p = here_below P p x _ refl h in
    let t : P (get_or p x 0) ≡ true = (and_parts (ltb x (length p)) (P (get_or p x 0)) h).1 in
    rw (drop-cons p x 0 l, t) (omega arith)

-- a comment, searched for its end from a place on
abbrev pub comment : ℕ → List ℕ → ℕ → Item
comment s p x = comment_to p s (comment_end (length p) p x)

-- the end of a comment's item
commented : (p : List ℕ) (s x e : ℕ) → Ends p x e → ((x + 3 ≤ next (comment_to p s e)) ⊎ (next (comment_to p s e) ≡ length p))
    × (next (comment_to p s e) ≤ length p)
commented p s x e (inl z) = rw z (inr refl, omega arith)
commented p s x e (inr l) = rw (ne_eqb e 0 (λ z. omega (arith, l.0))) (inl l.0, l.1)

comment_plain : (p : List ℕ) (s e : ℕ) → finishes (comment_to p s e) ≡ false
comment_plain p s e = cases (λ i. finishes i ≡ false) (eqb e 0) (λ t. refl) (λ t. refl)

pub comment_items : (s : ℕ) → Items (comment s)
comment_items s =
    record {
      grows = λ p x h. ⊎_elim (λ l. omega (arith, l)) (λ l. omega (arith, l)) (commented p s x (comment_end (length p) p x) (comment_end_lem (length p) p x)).0;
      within = λ p x h. (commented p s x (comment_end (length p) p x) (comment_end_lem (length p) p x)).1;
      stop = λ p. comment_plain p s (comment_end (length p) p (length p));
      cut = λ p n x hn hx. let l : length (take n p) ≡ n =
          length_cut n p (omega arith) in
          rw (l, comment_cut (length p) n p n x (omega arith) (omega arith) (omega arith))
          (go p n x (comment_end (length p) p x) hn l (comment_end_lem (length p) p x));
    }
  where
    go : (p : List ℕ) (n x e : ℕ) → n < length p → length (take n p) ≡ n → Ends p x e
        → Cut n (comment_to p s e) (pick (eqb (below n e) 0) (Comment s s n) (Comment s (below n e) (below n e)))
    go p n x e hn l (inl z) = rw (z, le-leb 0 n (omega arith)) (past hn refl refl)
    go p n x e hn l (inr h) =
        rw (ne_eqb e 0 (λ z. omega (arith, h.0)))
        (cases (λ b. Cut n (Comment s e e) (pick (eqb b 0) (Comment s s n) (Comment s b b))) (leb e n)
        (λ t. rw (ne_eqb e 0 (λ z. omega (arith, h.0))) (whole refl (leb-true e n t)))
        (λ t. past (leb-false e n t) refl refl))

module _ (white : ℕ → Bool) where
  -- what follows `<!` at a place: a comment that starts at s, or a declaration
  abbrev pub bang_from : ℕ → List ℕ → ℕ → Item
  bang_from s p x = pick (here (is 45) p x && here (is 45) p (suc x)) (comment s p x) (declaration white p x)

  -- a `-` just before the cut is a name there
  dash_runs : (p : List ℕ) (n x : ℕ) → n < length p → suc x ≡ n → here (is 45) p x ≡ true → skip is_ident (take n p) x ≡ n
  dash_runs p n x hn e h =
      let l : length (take n p) ≡ n = length_cut n p (omega arith) in
      let b : get_or p x 0 ≡ 45 = eqb-true (get_or p x 0) 45 (and_parts (ltb x (length p)) (is 45 (get_or p x 0)) h).1 in
      let t : here is_ident (take n p) x ≡ true = here_cut is_ident p n x (omega arith) (omega arith) ∙ rw (lt-ltb x (length p) (omega arith), b) in
      omega (arith, skip_strict is_ident (take n p) x t, (skip_scans is_ident).within (take n p) x (omega arith))

  bang_cut : (s : ℕ) (p : List ℕ) (n x : ℕ) → n < length p → x ≤ n → Dec (suc x < n) → Cut n (bang_from s p x) (bang_from s (take n p) x)
  bang_cut s p n x hn hx (yes h) =
      rw (here_cut (is 45) p n x (omega arith) (omega arith), here_cut (is 45) p n (suc x) (omega arith) h) (both (here (is 45) p x && here (is 45) p (suc x)))
    where
      both : (b : Bool) → Cut n (pick b (comment s p x) (declaration white p x)) (pick b (comment s (take n p) x) (declaration white (take n p) x))
      both true = (comment_items s).cut p n x hn hx
      both false = (declaration_items white).cut p n x hn hx
  bang_cut s p n x hn hx (no h) =
      rw (le-ltb (suc x) (length (take n p)) (omega (arith, length_cut n p (omega arith))), and-false (here (is 45) (take n p) x))
      (cases (λ i. Cut n i (declaration white (take n p) x)) (here (is 45) p x && here (is 45) p (suc x))
      (λ t. dash t (dec_lt x n))
      (λ t. (declaration_items white).cut p n x hn hx))
    where
      far : n < next (comment s p x)
      far = ⊎_elim (λ l. omega (arith, l, h)) (λ l. omega (arith, l)) (commented p s x (comment_end (length p) p x) (comment_end_lem (length p) p x)).0

      dash : (here (is 45) p x && here (is 45) p (suc x)) ≡ true → Dec (x < n) → Cut n (comment s p x) (declaration white (take n p) x)
      dash t (yes l) =
          let one = (and_parts (here (is 45) p x) (here (is 45) p (suc x)) t).0 in
          declared_past white p n x (comment s p x) hn far (dash_runs p n x hn (omega (arith, h, l)) one)
      dash t (no l) =
          let q : length (take n p) ≡ n = length_cut n p (omega arith) in
          declared_past white p n x (comment s p x) hn far
          (omega (arith, (skip_scans is_ident).grows (take n p) x (omega arith), (skip_scans is_ident).within (take n p) x (omega arith)))

  pub bang_from_items : (s : ℕ) → Items (bang_from s)
  bang_from_items s =
      record {
        grows = λ p x h. cases (λ i. x ≤ next i) (here (is 45) p x && here (is 45) p (suc x)) (λ t. (comment_items s).grows p x h)
            (λ t. (declaration_items white).grows p x h);
        within = λ p x h. cases (λ i. next i ≤ length p) (here (is 45) p x && here (is 45) p (suc x)) (λ t. (comment_items s).within p x h)
            (λ t. (declaration_items white).within p x h);
        stop = λ p. cases (λ i. finishes i ≡ false) (here (is 45) p (length p) && here (is 45) p (suc (length p))) (λ t. (comment_items s).stop p)
            (λ t. (declaration_items white).stop p);
        cut = λ p n x hn hx. bang_cut s p n x hn hx (dec_lt (suc x) n);
      }

  pub bang_items : Items (bang white)
  unfolding bang
  bang_items =
      record {
        grows = λ p at h. omega (arith, (bang_from_items (pred at)).grows p (pass p at) (omega arith));
        within = λ p at h. (bang_from_items (pred at)).within p (pass p at) (omega arith);
        stop = λ p. let e : pass p (length p) ≡ length p = omega arith in rw e ((bang_from_items (pred (length p))).stop p);
        cut = λ p n at hn ha. rw (pass_scans.cut p n at (omega arith) ha) (item_cut_at (bang_from_items (pred at)) p n (pass p at) hn (omega arith));
      }

  bang_strict : (p : List ℕ) (at : ℕ) → at < length p → at < next (bang white p at)
  unfolding bang
  bang_strict p at h = omega (arith, (bang_from_items (pred at)).grows p (pass p at) (omega arith))

  -- at the end of the page stands no tag
  tag_end_lem : (p : List ℕ) (q : ℕ) → q ≤ length p → pick (ltb q (length p)) (tag white p q) (Nothing q) ≡ tag white p q
  unfolding tag
  tag_end_lem p q h =
      cases (λ i. i ≡ tag white p q) (ltb q (length p)) (λ t. refl)
      (λ t. let e : q ≡ length p = omega (arith, ltb-false q (length p) t) in
      let a : tag_end white p q ≡ length p = omega (arith, (tag_end_scans white).grows p q h, (tag_end_scans white).within p q h) in
      rw (a, here_stop (is 47) p, here_stop (is 62) p) (ap Nothing e))

  rest_items : Items (λ p q. pick (ltb q (length p)) (tag white p q) (Nothing q))
  rest_items =
      record {
        grows = λ p q h. rw (tag_end_lem p q h) ((tag_items white).grows p q h);
        within = λ p q h. rw (tag_end_lem p q h) ((tag_items white).within p q h);
        stop = λ p. rw (tag_end_lem p (length p) (omega arith)) ((tag_items white).stop p);
        cut = λ p n q hn hq. rw (tag_end_lem p q (omega arith), tag_end_lem (take n p) q (omega (arith, length_cut n p (omega arith))))
            ((tag_items white).cut p n q hn hq);
      }

  pub markup_items : Items (markup white)
  unfolding markup
  markup_items =
      branch_items (is 47) (then_items pass_scans (closing_items white))
      (branch_items (is 33) bang_items rest_items bang_strict)
      (λ p at h. omega (arith, (closing_items white).grows p (pass p at) (omega arith)))

  text_items : Items (λ p at. Text (skip (other 60) p at))
  text_items =
      record {
        grows = λ p at h. (skip_scans (other 60)).grows p at h;
        within = λ p at h. (skip_scans (other 60)).within p at h;
        stop = λ p. refl;
        cut = λ p n at hn ha. rw ((skip_scans (other 60)).cut p n at (omega arith) ha) (go n (skip (other 60) p at) (dec_le (skip (other 60) p at) n));
      }
    where
      go : (n e : ℕ) → Dec (e ≤ n) → Cut n (Text e) (Text (min n e))
      go n e (yes h) = let c : min n e ≡ e = omega arith in rw c (whole refl h)
      go n e (no h) = past (omega arith) (omega arith) refl

  markup_strict : (p : List ℕ) (at : ℕ) → at < length p → at < next (markup white p (skip white p (pass p at)))
  markup_strict p at h =
      omega (
        arith,
        (skip_scans white).grows p (pass p at) (omega arith),
        markup_items.grows p (skip white p (pass p at)) ((skip_scans white).within p (pass p at) (omega arith)),
      )

  pub item_items : Items (item_at white)
  unfolding item_at
  item_items =
      branch_items (is 60) (then_items (then_scans pass_scans (skip_scans white)) markup_items) text_items markup_strict

  pub item_grows : (p : List ℕ) (at : ℕ) → at < length p → (at < next (item_at white p at)) × (next (item_at white p at) ≤ length p)
  unfolding item_at
  item_grows p at h = (
    cases (λ i. at < next i) (here (is 60) p at) (λ t. markup_strict p at h)
        (λ t. skip_strict (other 60) p at (rw (lt-ltb at (length p) h, rw (lt-ltb at (length p) h) at t))),
    item_items.within p at (omega arith),
  )

  tag_formed : (x : ℕ) (p : List ℕ) (at : ℕ) → x < at → at ≤ length p → Formed x (tag white p at)
  unfolding tag
  tag_formed x p at l h =
      cases (Formed x) (here (is 47) p (tag_end white p at)) (λ t. go (pass p (tag_end white p at)) true (omega (arith, b)))
      (λ t. go (tag_end white p at) false (omega arith))
    where
      g : skip is_ident p at ≤ length p
      g = (skip_scans is_ident).within p at h

      a : skip is_ident p at ≤ tag_end white p at
      a = (end_grows white (length p) p (skip is_ident p at) g).0

      b : tag_end white p at ≤ length p
      b = (end_grows white (length p) p (skip is_ident p at) g).1

      go : (c : ℕ) (slash : Bool) → tag_end white p at ≤ c → Formed x (tag_to p at (skip is_ident p at) c slash)
      go c slash k =
          cases (Formed x) (here (is 62) p c)
          (λ t. let i : c < length p = here_below (is 62) p c _ refl t in (l, (skip_scans is_ident).grows p at h, omega (arith, a)))
          (λ t. tt)

  bang_formed : (x : ℕ) (p : List ℕ) (q : ℕ) → x < q → q < length p → Formed x (bang white p q)
  unfolding bang
  bang_formed x p q l h =
      cases (Formed x) (here (is 45) p (pass p q) && here (is 45) p (suc (pass p q)))
      (λ t. go (comment_end (length p) p (pass p q)) (comment_end_lem (length p) p (pass p q)))
      (λ t. cases (Formed x) (same_lower (part p (pass p q) (skip is_ident p (pass p q))) doctype_name) (λ u. tt) (λ u. tt))
    where
      go : (e : ℕ) → Ends p (pass p q) e → Formed x (comment_to p (pred q) e)
      go e (inl z) = rw z (omega arith, omega arith, omega arith, omega arith)
      go e (inr m) =
          rw (ne_eqb e 0 (λ z. omega (arith, m.0)))
          (omega (arith, m.0, m.1), omega arith, omega (arith, m.0, m.1), omega arith)

  markup_formed : (x : ℕ) (p : List ℕ) (q : ℕ) → x < q → q ≤ length p → Formed x (markup white p q)
  unfolding markup closing
  markup_formed x p q l h =
      cases (Formed x) (here (is 47) p q) (λ t. (omega arith, omega (arith, (skip_scans (other 62)).within p (pass p q) (omega arith))))
      (λ t. cases (Formed x) (here (is 33) p q)
      (λ u. bang_formed x p q l (here_below (is 33) p q _ refl u))
      (λ u. cases (Formed x) (ltb q (length p)) (λ v. tag_formed x p q l h) (λ v. tt)))

  pub item_formed : (p : List ℕ) (at : ℕ) → at < length p → Formed at (item_at white p at)
  unfolding item_at
  item_formed p at h =
      cases (Formed at) (here (is 60) p at)
      (λ t. markup_formed at p (skip white p (pass p at)) (omega (arith, (skip_scans white).grows p (pass p at) (omega arith)))
      ((skip_scans white).within p (pass p at) (omega arith)))
      (λ t. tt)

  pub item_cut : (p : List ℕ) (n at : ℕ) → n ≤ length p → at < n → Cut n (item_at white p at) (item_at white (take n p) at)
  item_cut p n at hn h = go (dec_lt n (length p))
    where
      go : Dec (n < length p) → Cut n (item_at white p at) (item_at white (take n p) at)
      go (yes l) = item_items.cut p n at l (omega arith)
      go (no l) = let e : n ≡ length p = omega arith in rw (e, take-length p) (whole refl (item_items.within p at (omega arith)))
