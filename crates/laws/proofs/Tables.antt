-- The table that a reading leaves is sound, as the test of a table's words says it.
use Rattle.std.proofs.Common.{Result, Ok, Err}
use mathlib.Core.Path.{◌≡◌, refl, sym, ap, ◌∙◌}
use mathlib.Core.Bool.{Bool, true, false, ◌||◌}
use mathlib.Core.List.{List, [], ◌∷◌}
use Prim.Native.Nat.{ℕ, zero, suc, ◌-◌, ◌≤◌, ◌<◌}
use native.Mathlib.Omega.{arith}
use native.Mathlib.Decide.{ℕ_discrete}
use borrow.Author.Tests.{le-leb, eq-eqb, ltb-false}
use lib.Dec.{eqb, ltb}
use lib.ListN.{length, get_or}
use Rattle.rules.specs.Scan.{pick, part, same}
use Rattle.rules.specs.Lexer.{item_at}
use Rattle.rules.specs.Profile.{Settings}
use Rattle.rules.specs.Reader.{Reading, no_node, node, close_into, put, step, steps, begin}
use Rattle.rules.specs.Table.{head_words, row_at, node_at, head_of, filled, Filled}
use Rattle.rules.specs.Sound.{reaching, last_at, parent_at, row_sound, head_sound, count_of, sound}
use Rattle.rules.specs.Refusals.{profile_not_fine, page_too_long}
use Rattle.rules.specs.Answers.{reading, parse_answer, parsed_table, parse_table}
use Rattle.rules.specs.declared.Item.{Item}
use Rattle.rules.specs.declared.Refusal.TheVariants.{ProfileNotFine, PageTooLong, TableTooSmall}
use Rattle.rules.specs.declared.Item.TheVariants.{Text, Close, Comment, Doctype, Tag, Nothing}
use Rattle.rules.specs.declared.Node.{Node}
use Rattle.rules.proofs.Table.{filled_size, filled_node}
use Rattle.rules.proofs.Sound.{reaching_pass, reaching_here, all_from, row_sound_from, sound_is}
use Rattle.rules.proofs.Pick.{cases}
use Rattle.laws.proofs.Soundness.{SoundNodes, page_sound}
use Rattle.rules.specs.declared.Refusal.{Refusal}

-- the greatest handle below k that reaches h, where it is known: q - 1, or none
found : (last : ℕ → ℕ) (h k q : ℕ) → q ≤ k → ((g : ℕ) → q ≤ g → g < k → last g < h) → ((g : ℕ) → q ≡ suc g → h ≤ last g) → reaching last h k ≡ q
unfolding reaching
found last h zero q l p r = omega arith
found last h (suc k) q l p r = go (ℕ_discrete q (suc k)) (λ m. found last h k q m (λ g a b. p g a (omega arith)) r)
  where
    go : Dec (q ≡ suc k) → (q ≤ k → reaching last h k ≡ q) → reaching last h (suc k) ≡ q
    go (yes e) ih = reaching_here last h k (r k e) ∙ sym e
    go (no n) ih = reaching_pass last h k (p k (omega arith) (omega arith)) ∙ ih (omega arith)

-- the version is 0 or 5
abbrev Known : ℕ → Type 0
Known v = (eqb v 0 || eqb v 5) ≡ true

module _ (white : ℕ → Bool) (void : List ℕ → Bool) (p : List ℕ) where
  put_known : (r : Reading) (i : Item) → Known r.version → Known (put void p r i).version
  unfolding put close_into
  put_known r (Text e) k = k
  put_known r (Close a e n) k = go r.opens
    where
      go : (hs : List ℕ) → Known (close_into p r a e n hs).version
      go [] = k
      go (h ∷ hs) = cases (λ (s : Reading). Known s.version) (same (part p (node r.nodes h).name (node r.nodes h).stop) (part p a e)) (λ t. k) (λ t. k)
  put_known r (Comment a e n) k = k
  put_known r (Doctype true n) k = refl
  put_known r (Doctype false n) k = k
  put_known r (Tag a e n s) k = k
  put_known r (Nothing n) k = k

  steps_known : (k : ℕ) (r : Reading) → Known r.version → Known (steps white void p k r).version
  unfolding steps step
  steps_known zero r v = v
  steps_known (suc k) r v =
      cases (λ (s : Reading). Known s.version) (ltb r.at (length p))
      (λ t. steps_known k (put void p r (item_at white p r.at)) (put_known r (item_at white p r.at) v)) (λ t. v)

-- a table with sound nodes
module _ (len v : ℕ) {ws t : List ℕ} {ns : List Node} (S : SoundNodes len ns) (F : Filled ws t (head_of (length ns) v len) ns) where
  counts : count_of ws ≡ length ns
  unfolding filled
  counts = ap (λ (w : List ℕ). get_or w 0 0) F.words

  head_right : Known v → head_sound len ws ≡ true
  unfolding filled
  head_right h = ap (head_sound len) F.words ∙ rw (h, eq-eqb len len refl)

  at : (h : ℕ) → h < length ns → node_at ws h ≡ node ns h
  at h l = filled_node F h no_node l

  last_at_lem : (h : ℕ) → h < length ns → last_at ws h ≡ (node ns h).last
  last_at_lem h l = ap (λ (n : Node). n.last) (at h l)

  parent_right : (h : ℕ) → h < length ns → parent_at ws h ≡ (node ns h).parent
  parent_right h l =
      let N = S.nested in
      found (last_at ws) h h (node ns h).parent (N.lower h l)
      (λ g a b. rw (last_at_lem g (omega arith)) (N.passed h g l a b))
      (λ g e. rw (last_at_lem g (omega (arith, N.lower h l))) (N.reached h g l e).0)

  row_right : (h : ℕ) → h < length ns → row_sound len ws (length ns) h ≡ true
  row_right h l =
      let n = S.nodes h l in
      let N = S.nested in
      let e = at h l in
      row_sound_from len ws (length ns) h
      (record {
        kind_low = rw e n.some;
        kind_high = rw e n.known;
        start_end = rw e n.ordered;
        end_len = rw e n.within;
        tag = rw e (λ k. let g = n.tag k in record { name = g.0; stop = g.1; opened = g.2; end = g.3 });
        other = rw e (λ k. let g = n.plain k in ((g.0, g.1), g.2));
        last_low = rw (last_at_lem h l) (N.own h l);
        last_high = rw (last_at_lem h l) (N.inside h l);
        leaf = λ k. last_at_lem h l ∙ (n.plain (λ z. k (ap (λ (m : Node). m.kind) e ∙ z))).3;
        parent = ap (λ (m : Node). m.parent) e ∙ sym (parent_right h l);
        within = λ k.
            let q : ℕ = (node ns h).parent - 1 in
            let z : (node ns h).parent ≡ 0 → ⊥ = λ o. k (parent_right h l ∙ o) in
            let s : (node ns h).parent ≡ suc q = omega arith in
            rw (parent_right h l, last_at_lem h l, last_at_lem q (omega (arith, N.lower h l))) (N.reached h q l s).1;
        ended = rw e n.ended;
      })

  sound_filled : Known v → sound len ws ≡ true
  sound_filled h =
      sound_is len ws (le-leb head_words (length ws) (omega (arith, filled_size F, F.fits))) (head_right h)
      (le-leb (row_at (count_of ws)) (length ws) (rw counts (omega (arith, filled_size F, F.fits))))
      (rw counts (all_from (row_sound len ws (length ns)) (length ns) row_right))

module _ (f : Settings) (p : List ℕ) where
  abbrev page : Reading
  page = reading f p

  abbrev count : ℕ
  count = length page.nodes

  -- the table of a page's reading is sound
  pub page_table_sound : {ws t : List ℕ} → Filled ws t (head_of count page.version (length p)) page.nodes → sound (length p) ws ≡ true
  page_table_sound F =
      sound_filled (length p) page.version (page_sound f.white f.void p) F (steps_known f.white f.void p (length p) begin refl)

  -- the answer, by the tests of refusals 14, 1 and 2
  abbrev parsed : Bool → Bool → Bool → Result ℕ Refusal
  parsed a b c = pick a (Err ProfileNotFine) (pick b (Err PageTooLong) (pick c (Err TableTooSmall) (Ok count)))

  -- what an accepted reading leaves: a sound table, whose rows are the page's nodes
  pub record Accepted (ws : List ℕ) : Type 0 where
    pub fine : profile_not_fine f ≡ false
    pub short : page_too_long f p ≡ false
    pub sound_table : sound (length p) ws ≡ true
    pub counted : count_of ws ≡ count
    pub row : (h : ℕ) → h < count → node_at ws h ≡ node page.nodes h

  from_filled : profile_not_fine f ≡ false → page_too_long f p ≡ false → {ws t : List ℕ}
      → Filled ws t (head_of count page.version (length p)) page.nodes → Accepted ws
  from_filled d e {ws} {t} F =
      record {
        fine = d;
        short = e;
        sound_table = page_table_sound F;
        counted = counts (length p) page.version (page_sound f.white f.void p) F;
        row = λ h l. filled_node F h no_node l;
      }

  pub accepted : (t : List ℕ) (n : ℕ) → parse_answer f p (length t) ≡ Ok n → Accepted (parse_table f p t)
  unfolding parse_answer parse_table
  accepted t n = go (profile_not_fine f) refl (page_too_long f p) refl (ltb (length t) (row_at count)) refl
    where
      go : (a : Bool) → profile_not_fine f ≡ a → (b : Bool) → page_too_long f p ≡ b → (c : Bool) → ltb (length t) (row_at count) ≡ c
          → parsed a b c ≡ Ok n → Accepted (parsed_table f p t (parsed a b c))
      go true d b o c q e = let z : ◌≡◌ {A = ℕ} 0 1 = cc in absurd (omega arith)
      go false d true o c q e = let z : ◌≡◌ {A = ℕ} 0 1 = cc in absurd (omega arith)
      go false d false o true q e = let z : ◌≡◌ {A = ℕ} 0 1 = cc in absurd (omega arith)
      go false d false o false q e = from_filled d o {t = t} (record { words = refl; head = refl; fits = ltb-false (length t) (row_at count) q })

  -- an accepted page leaves a sound table
  pub parsed_sound : (t : List ℕ) (n : ℕ) → parse_answer f p (length t) ≡ Ok n → sound (length p) (parse_table f p t) ≡ true
  parsed_sound t n e = (accepted t n e).sound_table
