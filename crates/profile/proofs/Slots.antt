-- The table by which a name is looked for: how it is filled, name by name, and what a search along its links finds.
use mathlib.Core.Path.{◌≡◌, refl, sym, ap, ◌∙◌}
use mathlib.Core.Bool.{Bool, true, false, ◌||◌, Bool-set, or-true, true≢false}
use mathlib.Core.List.{List, map}
use Prim.Native.Nat.{ℕ, zero, suc, ◌+◌, ◌*◌, ◌-◌, ◌%◌, ◌≤◌, ◌<◌}
use Rattle.std.proofs.Math.Logic.{∥∥₁_elim, ∥∥₁_map}
use native.Mathlib.Decide.{ℕ_discrete}
use native.Mathlib.Bridge.{le_prop}
use native.Mathlib.Nat.{mod-lt, ℕ_set}
use native.Mathlib.Numerals.{add-one}
use native.Mathlib.Omega.{arith}
use lib.ListN.{length, get_or, drop, set, replicate, length-set, length-take, length-drop}
use lib.Seq.{get_or-set_same, get_or-set_other, get_or-take, get_or-drop}
use Rattle.std.proofs.lemmas.List.{get_or-replicate}
use Rattle.rules.specs.Scan.{same, part}
use Rattle.rules.specs.Lists.{from}
use Rattle.rules.specs.Names.{one_of}
use Rattle.rules.specs.Profile.{name_start, void_name}
use Rattle.rules.proofs.Names.{same_is}
use Rattle.rules.proofs.Profile.{name_byte_lem}
use Rattle.profile.specs.declared.names.Heads.{Heads}
use Rattle.profile.specs.Made.{slot_by, void_slot, Leads, HasNames, Prepared}
use Rattle.profile.specs.Made.Leads.{here, later}

slot_below : (xs : List ℕ) → void_slot xs < 256
slot_below xs = mod-lt (9 * get_or xs 0 0 + get_or xs (length xs - 1) 0 + 5 * (length xs % 256)) (omega arith)

-- the slot of name i, by the bytes of its place
pub slot_name : (q : List ℕ) (i a n : ℕ) → a ≡ name_start q i → n ≡ length (void_name q i) → 0 < n
    → slot_by (get_or q a 0) (get_or q (a + n - 1) 0) n ≡ void_slot (void_name q i)
slot_name q i a n d e p =
    let z : name_start q i + 0 ≡ name_start q i = omega arith in
    let y : name_start q i + n - 1 ≡ name_start q i + (n - 1) = omega arith in
    rw (d, y, ← e, name_byte_lem q i 0 (omega arith), name_byte_lem q i (n - 1) (omega arith), z)

-- the slot of a part of a page, by its bytes
pub slot_part : (p : List ℕ) (a e : ℕ) → a < e → e ≤ length p → slot_by (get_or p a 0) (get_or p (e - 1) 0) (e - a) ≡ void_slot (part p a e)
slot_part p a e l m =
    let n : length (part p a e) ≡ e - a = omega (arith, length-take (e - a) (drop a p), length-drop a p) in
    let g : (j : ℕ) → j < e - a → get_or (part p a e) j 0 ≡ get_or p (a + j) 0 = λ j h. get_or-take (e - a) (drop a p) j 0 h ∙ get_or-drop a p j 0 in
    let z : a + 0 ≡ a = omega arith in
    let y : a + (e - a - 1) ≡ e - 1 = omega arith in
    rw (n, g 0 (omega arith), g (e - a - 1) (omega arith), z, y)

-- ---- filling it

pub put_first : (q : List ℕ) → HasNames q (record { first = replicate 256 0; links = replicate 24 0; lengths = replicate 24 0 }) 0
put_first q =
    record {
      slots = refl;
      names = (refl, refl);
      firsts = λ s h. rw (get_or-replicate {A = ℕ} 256 s 0 0 h) (omega arith);
      links = λ k h. rw (get_or-replicate {A = ℕ} 24 k 0 0 h) (omega arith);
      lengths = λ k h. absurd (omega arith);
      leads = λ k h p. absurd (omega arith);
    }

-- a way along the links of the first m names is one where those links are the same
kept : {m : ℕ} {l u : List ℕ} → ((k : ℕ) → k < m → get_or l k 0 ≤ k) → ((k : ℕ) → k < m → get_or u k 0 ≡ get_or l k 0)
    → {i k : ℕ} → i ≤ m → Leads l i k → Leads u i k
kept low e h here = here
kept {m} {l} {u} low e h (later {i = i} {k = k} r) =
    let w : Leads u (get_or u i 0) k = rw (e i (omega arith)) (kept low e (omega (arith, low i (omega arith))) r) in
    later w

module _ {q : List ℕ} {t : Heads} {m : ℕ} (F : HasNames q t m) (b : m < 24) where
  -- the lengths with that of name m
  module _ (n : ℕ) (z : n ≡ length (void_name q m)) where
    long : (k : ℕ) → k < m + 1 → Dec (k ≡ m) → get_or (set t.lengths m n) k 0 ≡ length (void_name q k)
    long k h (yes y) = rw y (get_or-set_same t.lengths m n 0 (omega (arith, F.names.1)) ∙ z)
    long k h (no y) = get_or-set_other t.lengths m k n 0 y ∙ F.lengths k (omega arith)

  -- a place with no name
  pub put_none : 0 ≡ length (void_name q m) → HasNames q (record { first = t.first; links = t.links; lengths = set t.lengths m 0 }) (m + 1)
  put_none z =
      record {
        slots = F.slots;
        names = (F.names.0, length-set t.lengths m 0 ∙ F.names.1);
        firsts = λ s h. omega (arith, F.firsts s h);
        links = F.links;
        lengths = λ k h. long 0 z k h (ℕ_discrete k m);
        leads = λ k h p. lead k h p (ℕ_discrete k m);
      }
    where
      lead : (k : ℕ) → k < m + 1 → 0 < length (void_name q k) → Dec (k ≡ m) → Leads t.links (get_or t.first (void_slot (void_name q k)) 0) k
      lead k h p (yes y) = absurd (omega (arith, ap (λ (j : ℕ). length (void_name q j)) y))
      lead k h p (no y) = F.leads k (omega arith) p

  -- a name of n bytes, at the slot s
  pub put_some : (n s : ℕ) → n ≡ length (void_name q m) → s < 256 → s ≡ void_slot (void_name q m)
      → HasNames q (record { first = set t.first s (m + 1); links = set t.links m (get_or t.first s 0); lengths = set t.lengths m n }) (m + 1)
  put_some n s z l e =
      record {
        slots = length-set t.first s (m + 1) ∙ F.slots;
        names = (length-set t.links m o ∙ F.names.0, length-set t.lengths m n ∙ F.names.1);
        firsts = λ x h. firsts x h (ℕ_discrete x s);
        links = λ k h. links k h (ℕ_discrete k m);
        lengths = λ k h. long n z k h (ℕ_discrete k m);
        leads = λ k h p. lead k h p (ℕ_discrete k m) (ℕ_discrete (void_slot (void_name q k)) s);
      }
    where
      o : ℕ
      o = get_or t.first s 0

      first : List ℕ
      first = set t.first s (m + 1)

      next : List ℕ
      next = set t.links m o

      at_slot : get_or first s 0 ≡ suc m
      at_slot = get_or-set_same t.first s (m + 1) 0 (omega (arith, F.slots)) ∙ add-one m

      at_link : get_or next m 0 ≡ o
      at_link = get_or-set_same t.links m o 0 (omega (arith, F.names.0))

      firsts : (x : ℕ) → x < 256 → Dec (x ≡ s) → get_or first x 0 ≤ m + 1
      firsts x h (yes y) = rw (y, at_slot) (omega arith)
      firsts x h (no y) = rw (get_or-set_other t.first s x (m + 1) 0 y) (omega (arith, F.firsts x h))

      links : (k : ℕ) → k < 24 → Dec (k ≡ m) → get_or next k 0 ≤ k
      links k h (yes y) = rw (y, at_link) (F.firsts s l)
      links k h (no y) = rw (get_or-set_other t.links m k o 0 y) (F.links k h)

      -- the links of the names before are as they were
      still : {i k : ℕ} → i ≤ m → Leads t.links i k → Leads next i k
      still h r = kept (λ k g. F.links k (omega arith)) (λ j g. get_or-set_other t.links m j o 0 (λ y. omega arith)) h r

      lead : (k : ℕ) → k < m + 1 → 0 < length (void_name q k) → Dec (k ≡ m) → Dec (void_slot (void_name q k) ≡ s)
          → Leads next (get_or first (void_slot (void_name q k)) 0) k
      lead k h p (yes y) d = rw (y, ← e, at_slot) here
      lead k h p (no y) (yes d) =
          let w : Leads next (get_or next m 0) k = rw at_link (still (F.firsts s l) (rw d at (F.leads k (omega arith) p))) in
          rw (d, at_slot) (later w)
      lead k h p (no y) (no d) =
          let x : ℕ = void_slot (void_name q k) in
          rw (get_or-set_other t.first s x (m + 1) 0 d) (still (F.firsts x (slot_below (void_name q k))) (F.leads k (omega arith) p))

-- ---- looking for x

pub all_put : {q : List ℕ} {b : Bool} {t : Heads} → ∥ Prepared q b t ∥₁ → b ≡ false → ∥ HasNames q t 24 ∥₁
all_put p e = ∥∥₁_map p (λ f. f.listed e)

module _ {q : List ℕ} {t : Heads} (F : ∥ HasNames q t 24 ∥₁) where
  pub first_low : (s : ℕ) → s < 256 → get_or t.first s 0 ≤ 24
  first_low s l = ∥∥₁_elim F le_prop (λ f. f.firsts s l)

  pub link_low : (k : ℕ) → k < 24 → get_or t.links k 0 ≤ k
  link_low k l = ∥∥₁_elim F le_prop (λ f. f.links k l)

  pub length_is : (k : ℕ) → k < 24 → get_or t.lengths k 0 ≡ length (void_name q k)
  length_is k l = ∥∥₁_elim F (ℕ_set _ _) (λ f. f.lengths k l)

module _ (q : List ℕ) (t : Heads) (x : List ℕ) where
  -- if x is a name, the way from i leads to it
  abbrev pub Ahead : ℕ → Type 0
  Ahead i = (k : ℕ) → k < 24 → same x (void_name q k) ≡ true → ∥ Leads t.links i k ∥₁

  pub ahead_first : ∥ HasNames q t 24 ∥₁ → 0 < length x → Ahead (get_or t.first (void_slot x) 0)
  ahead_first F p k l e =
      let z : x ≡ void_name q k = same_is x (void_name q k) e in
      ∥∥₁_map F (λ f. rw z (f.leads k l (rw z at p)))

  step : {i k : ℕ} → Leads t.links i k → same x (void_name q k) ≡ true
      → same x (void_name q (i - 1)) ≡ false → Leads t.links (get_or t.links (i - 1) 0) k
  step (here {k = k}) e n = let z : suc k - 1 ≡ k = omega arith in absurd (true≢false (sym e ∙ (rw z at n)))
  step (later {i = i} r) e n = let z : suc i - 1 ≡ i = omega arith in rw z r

  pub ahead_next : (i : ℕ) → Ahead i → same x (void_name q (i - 1)) ≡ false → Ahead (get_or t.links (i - 1) 0)
  ahead_next i A n k l e = ∥∥₁_map (A k l e) (λ r. step r e n)

  leads_from : {i k : ℕ} → Leads t.links i k → 0 < i
  leads_from here = omega arith
  leads_from (later r) = omega arith

  some_of : (lo n k : ℕ) → lo ≤ k → k < lo + n → same x (void_name q k) ≡ true → one_of x (map (void_name q) (from lo n)) ≡ true
  unfolding from one_of
  some_of lo zero k l h e = absurd (omega arith)
  some_of lo (suc n) k l h e = go (ℕ_discrete k lo) (λ m. some_of (suc lo) n k m (omega arith) e)
    where
      go : Dec (k ≡ lo) → (suc lo ≤ k → one_of x (map (void_name q) (from (suc lo) n)) ≡ true)
          → (same x (void_name q lo) || one_of x (map (void_name q) (from (suc lo) n))) ≡ true
      go (yes y) r = rw (rw y at e)
      go (no y) r = rw (r (omega arith)) (or-true (same x (void_name q lo)))

  pub one_hit : (k : ℕ) → k < 24 → same x (void_name q k) ≡ true → one_of x (map (void_name q) (from 0 24)) ≡ true
  one_hit k l e = some_of 0 24 k (omega arith) (omega arith) e

  none_of : (lo n : ℕ) → ((k : ℕ) → k < lo + n → same x (void_name q k) ≡ false) → one_of x (map (void_name q) (from lo n)) ≡ false
  unfolding from one_of
  none_of lo zero f = refl
  none_of lo (suc n) f = rw (f lo (omega arith)) (none_of (suc lo) n (λ k l. f k (omega arith)))

  -- 0 leads nowhere
  pub none_hit : Ahead 0 → one_of x (map (void_name q) (from 0 24)) ≡ false
  none_hit A = none_of 0 24 (λ k l. not k (omega arith) (same x (void_name q k)) refl)
    where
      not : (k : ℕ) → k < 24 → (v : Bool) → same x (void_name q k) ≡ v → v ≡ false
      not k l true e = ∥∥₁_elim (A k l e) (Bool-set _ _) (λ r. absurd (omega (arith, leads_from r)))
      not k l false e = refl
