-- The parts of a row's test, put together.
--     tag_places, tag_end_lem         the places of a tag
--     ended-..                    how a tag ended, by whether it ends above its opening
--     other_sound                 kind, places and ending of another node
--     own_not, own_is             what a row says of itself
--     under-..                    what it says of its parent, by where the climb stands
--     next_is                     what a row leaves for the next one
--     next_not, next_from_lem         what that says of the row, and of the next row's climb
use Rattle.std.proofs.Common.{Option, Some, None}
use mathlib.Core.Path.{◌≡◌, refl, sym, ap, ◌∙◌}
use mathlib.Core.Bool.{Bool, true, false, not, ◌&&◌, ◌||◌, and-true, and-false, and_assoc}
use mathlib.Core.List.{List}
use Prim.Native.Nat.{ℕ, zero, suc, ◌+◌, ◌-◌, ◌≤◌, ◌<◌}
use native.Mathlib.Decide.{dec_le, dec_lt}
use native.Mathlib.Numerals.{add-one}
use native.Mathlib.Omega.{arith}
use borrow.Author.Tests.{ltb-true, leb-true, eqb-true, eqb-false, le-leb, lt-leb, lt-ltb, le-ltb, eq-eqb, ne_eqb}
use lib.Dec.{leb, ltb, eqb}
use mir.Val.{bool_byte}
use Rattle.rules.specs.Scan.{pick}
use Rattle.rules.specs.Table.{node_at}
use Rattle.rules.specs.declared.Node.{Node}
use Rattle.rules.specs.Sound.{tagged, places_sound, ended_sound, last_at, reaching, parent_at, row_sound}
use Rattle.std.proofs.lemmas.Bool.{and_parts}
use Rattle.rules.proofs.Sound.{sound_row, climb_step, reaching_le, reaching_here, reaching_pass}
use Rattle.sound.specs.Row.{own_sound, under_sound, ClimbStart, next_climb}

-- ---- a row by itself

-- a test t from which the test s follows
implied : (t s e : Bool) → (t ≡ true → s ≡ true) → (t && e) ≡ (s && e && t && true)
implied true true true f = refl
implied true true false f = refl
implied true false e f = let z : false ≡ true = f refl in cc
implied false s e f = rw and-false

-- a tag's places are in order, so its start is not after its end
ordered : (a b c d e : ℕ) → (ltb a b && leb b c && ltb c d && leb d e) ≡ true → leb a e ≡ true
ordered a b c d e t =
    let abcd = (and_parts (ltb a b && leb b c && ltb c d) (leb d e) t).0 in
    let abc = (and_parts (ltb a b && leb b c) (ltb c d) abcd).0 in
    let ab = ltb-true a b (and_parts (ltb a b) (leb b c) abc).0 in
    let bc = leb-true b c (and_parts (ltb a b) (leb b c) abc).1 in
    let cd = ltb-true c d (and_parts (ltb a b && leb b c) (ltb c d) abcd).1 in
    let de = leb-true d e (and_parts (ltb a b && leb b c && ltb c d) (leb d e) t).1 in
    le-leb a e (omega arith)

module _ (len : ℕ) (n : Node) where
  pub tag_places : n.kind ≡ 1
      → (ltb n.start n.name && leb n.name n.stop && ltb n.stop n.opened && leb n.opened n.end && leb n.end len)
      ≡ places_sound len n
  tag_places k =
      let inner = ltb n.start n.name && leb n.name n.stop && ltb n.stop n.opened && leb n.opened n.end in
      rw k (implied inner (leb n.start n.end) (leb n.end len) (ordered n.start n.name n.stop n.opened n.end))

  pub tag_end_lem : n.kind ≡ 1 → places_sound len n ≡ true → n.opened ≤ n.end
  tag_end_lem k e =
      let front = ltb n.start n.name && leb n.name n.stop && ltb n.stop n.opened in
      leb-true n.opened n.end
      (and_parts front (leb n.opened n.end) (and_parts (front && leb n.opened n.end) (leb n.end len) (tag_places k ∙ e)).0).1

-- the numbers with which a tag may have ended, where a closing tag closed it, and where none did; own says that it is its own last
abbrev ends_by : ℕ → Bool → Bool → Bool → Bool
ends_by e there above own = leb e 3 && true && pick (eqb e 0 || eqb e 3) there above && (not (eqb e 3) || own)

no_end : (e : ℕ) (there above own : Bool) → 4 ≤ e → ends_by e there above own ≡ false
no_end e there above own l = rw (lt-leb e 3 (omega arith))

closing_ends : (e : ℕ) (own : Bool) → (eqb e 1 || eqb e 2) ≡ ends_by e false true own
closing_ends zero own = refl
closing_ends (suc zero) own = refl
closing_ends (suc (suc zero)) own = refl
closing_ends (suc (suc (suc zero))) own = refl
closing_ends (suc (suc (suc (suc k)))) own =
    let e : ℕ = suc (suc (suc (suc k))) in
    rw (no_end e false true own (omega arith), ne_eqb e 1 (λ q. omega arith), ne_eqb e 2 (λ q. omega arith))

others_end : (e : ℕ) (own : Bool) → (eqb e 0 || (eqb e 3 && own)) ≡ ends_by e true false own
others_end zero own = refl
others_end (suc zero) own = refl
others_end (suc (suc zero)) own = refl
others_end (suc (suc (suc zero))) own = refl
others_end (suc (suc (suc (suc k)))) own =
    let e : ℕ = suc (suc (suc (suc k))) in
    rw (no_end e true false own (omega arith), ne_eqb e 0 (λ q. omega arith), ne_eqb e 3 (λ q. omega arith))

-- a tag, which does not end before its opening does: by whether it ends above it, as the number that the code compares
module _ (h : ℕ) (n : Node) (k : n.kind ≡ 1) (l : n.opened ≤ n.end) where
  ended_above : n.opened < n.end → (eqb n.ended 1 || eqb n.ended 2) ≡ ended_sound h n
  ended_above m =
      rw (k, lt-ltb n.opened n.end m, ne_eqb n.end n.opened (λ e. omega arith)) (closing_ends n.ended (eqb n.last h))

  ended_there : n.end ≤ n.opened → (eqb n.ended 0 || (eqb n.ended 3 && eqb n.last h)) ≡ ended_sound h n
  ended_there m =
      rw (k, le-ltb n.opened n.end m, eq-eqb n.end n.opened (omega arith)) (others_end n.ended (eqb n.last h))

  abbrev above : ℕ
  above = bool_byte (ltb n.opened n.end)

  is_above : above ≡ 1 → n.opened < n.end
  is_above e = go (ltb n.opened n.end) refl e
    where
      go : (b : Bool) → ltb n.opened n.end ≡ b → bool_byte b ≡ 1 → n.opened < n.end
      go true t q = ltb-true n.opened n.end t
      go false t q = absurd (omega arith)

  above_is : n.opened < n.end → above ≡ 1
  above_is m = rw (lt-ltb n.opened n.end m)

  there_is : n.end ≤ n.opened → above ≡ 0
  there_is m = rw (le-ltb n.opened n.end m)

  pub ended_usual : n.ended ≡ above → true ≡ ended_sound h n
  ended_usual e = go (dec_lt n.opened n.end)
    where
      go : Dec (n.opened < n.end) → true ≡ ended_sound h n
      go (yes m) = let one : true ≡ (eqb n.ended 1 || eqb n.ended 2) = rw (eq-eqb n.ended 1 (e ∙ above_is m)) in one ∙ ended_above m
      go (no m) =
          let q : n.end ≤ n.opened = omega arith in
          let none : true ≡ (eqb n.ended 0 || (eqb n.ended 3 && eqb n.last h)) = rw (eq-eqb n.ended 0 (e ∙ there_is q)) in
          none ∙ ended_there q

  pub ended_short : above ≡ 1 → (n.ended ≡ above → ⊥) → eqb n.ended 2 ≡ ended_sound h n
  ended_short a d =
      let other : eqb n.ended 2 ≡ (eqb n.ended 1 || eqb n.ended 2) = rw (ne_eqb n.ended 1 (λ z. d (z ∙ sym a))) in
      other ∙ ended_above (is_above a)

  pub ended_never : (above ≡ 1 → ⊥) → (n.ended ≡ above → ⊥) → (eqb n.ended 3 && eqb n.last h) ≡ ended_sound h n
  ended_never a d =
      let q : n.end ≤ n.opened = go (dec_lt n.opened n.end) in
      let other : (eqb n.ended 3 && eqb n.last h) ≡ (eqb n.ended 0 || (eqb n.ended 3 && eqb n.last h)) =
      rw (ne_eqb n.ended 0 (λ z. d (z ∙ sym (there_is q)))) in
      other ∙ ended_there q
    where
      go : Dec (n.opened < n.end) → n.end ≤ n.opened
      go (yes m) = absurd (a (above_is m))
      go (no m) = omega arith

-- another node than a tag, which is its own last
module _ (len h : ℕ) (n : Node) where
  ended_other : (n.kind ≡ 1 → ⊥) → n.last ≡ h → eqb n.ended 0 ≡ ended_sound h n
  ended_other k l = rw (ne_eqb n.kind 1 k, eq-eqb n.last h l) (zero_ends n.ended)
    where
      zero_ends : (e : ℕ) → eqb e 0 ≡ (leb e 3 && eqb e 0 && true && (not (eqb e 3) || true))
      zero_ends zero = refl
      zero_ends (suc e) = rw (ne_eqb (suc e) 0 (λ q. omega arith), and-false)

  pub other_sound : (n.kind ≡ 1 → ⊥) → n.last ≡ h
      → (leb 1 n.kind && leb n.kind 3 && leb n.start n.end && leb n.end len && eqb n.name 0 && eqb n.stop 0
      && eqb n.opened 0 && eqb n.ended 0)
      ≡ (places_sound len n && ended_sound h n)
  other_sound k l = rw (← ended_other k l, ne_eqb n.kind 1 k) (simp (and-true, and_assoc))

module _ (len count h : ℕ) (n : Node) where
  abbrev last_sound : Bool
  last_sound = leb h n.last && ltb n.last count && (tagged n || eqb n.last h)

  -- the last is not right
  pub own_not : last_sound ≡ false → false ≡ own_sound len count h n
  own_not e = rw (e, and-false)

  -- it is right, and the places decide, and how the node ended
  pub own_is : {r : Bool} → r ≡ (places_sound len n && ended_sound h n) → last_sound ≡ true → r ≡ own_sound len count h n
  own_is p e = rw (e, ← p, and-true)

-- ---- a row and its parent

-- the climb for row h stands at p: what reaches h among the rows below p is what reaches it among all rows below h
module _ (ws : List ℕ) (h p : ℕ) (s : reaching (last_at ws) h p ≡ parent_at ws h) (n : Node) where
  abbrev Under : Bool → Type 0
  Under r = r ≡ under_sound ws (parent_at ws h) n

  another : (k : ℕ) → parent_at ws h ≡ k → (k ≡ n.parent → ⊥) → Under false
  another k e d = rw (e, ne_eqb n.parent k (λ q. d (sym q)))

  top : p ≡ 0 → parent_at ws h ≡ 0
  unfolding reaching
  top z = sym s ∙ ap (reaching (last_at ws) h) z

  pub under_none : p ≡ 0 → (p ≡ n.parent → ⊥) → Under false
  under_none z d = another 0 (top z) (λ q. d (z ∙ q))

  pub under_top : p ≡ 0 → p ≡ n.parent → Under true
  under_top z e = rw (top z, eq-eqb n.parent 0 (sym e ∙ z))

  -- row k, the one before p
  module _ (k : ℕ) (q : p ≡ suc k) where
    -- it reaches h
    here : h ≤ last_at ws k → parent_at ws h ≡ p
    here l = sym s ∙ ap (reaching (last_at ws) h) q ∙ reaching_here (last_at ws) h k l ∙ sym q

    -- it does not
    beyond : last_at ws k < h → parent_at ws h ≤ k
    beyond l =
        let e : parent_at ws h ≡ reaching (last_at ws) h k = sym s ∙ ap (reaching (last_at ws) h) q ∙ reaching_pass (last_at ws) h k l in
        omega (arith, reaching_le (last_at ws) h k)

    pub under_other : h ≤ last_at ws k → (p ≡ n.parent → ⊥) → Under false
    under_other l d = another p (here l) d

    pub under_parent : p ≡ n.parent → h ≤ n.last → Under (leb n.last (last_at ws k))
    under_parent e l = go (dec_le h (last_at ws k))
      where
        go : Dec (h ≤ last_at ws k) → Under (leb n.last (last_at ws k))
        go (yes m) =
            let z : p ≡ 0 → ⊥ = λ z. omega arith in
            let f : p - 1 ≡ k = omega arith in
            rw (here m, eq-eqb n.parent p (sym e), ne_eqb p 0 z, f)
        go (no m) =
            let b = beyond (omega arith) in
            rw (lt-leb n.last (last_at ws k) (omega arith)) (another (parent_at ws h) refl (λ z. omega arith))

module _ (len : ℕ) (ws : List ℕ) (count h : ℕ) where
  row_is : row_sound len ws count h ≡ (own_sound len count h (node_at ws h) && under_sound ws (parent_at ws h) (node_at ws h))
  row_is = simp and_assoc

  -- what the test of the row found, said of its node n
  pub own_of : (n : Node) → n ≡ node_at ws h → {r b : Bool} → r ≡ own_sound len count h (node_at ws h) → r ≡ b → own_sound len count h n ≡ b
  own_of n en p q = rw en (sym p ∙ q)

  -- by the node n, and the three tests at their values
  pub next_is : (n : Node) → n ≡ node_at ws h → {a b c : Bool}
      → own_sound len count h n ≡ a → under_sound ws (parent_at ws h) n ≡ b → tagged n ≡ c
      → pick (a && b) (Some (pick c (h + 1) (parent_at ws h))) None ≡ next_climb len ws count h
  next_is n en ea eb ec = rw (row_is, ← en, ea, eb, ec)

  -- a node that is right about its parent names it
  pub own_parent : (n : Node) → under_sound ws (parent_at ws h) n ≡ true → n.parent ≡ parent_at ws h
  own_parent n e = eqb-true n.parent (parent_at ws h) (and_parts (eqb n.parent (parent_at ws h)) _ e).0

  pub own_last : (n : Node) → own_sound len count h n ≡ true → h ≤ n.last
  own_last n e =
      let last = (and_parts (places_sound len n && ended_sound h n) (last_sound len count h n) e).1 in
      let low = (and_parts (leb h n.last && ltb n.last count) (tagged n || eqb n.last h) last).0 in
      leb-true h n.last (and_parts (leb h n.last) (ltb n.last count) low).0

  pub next_not : (r : Option ℕ) → r ≡ next_climb len ws count h → r ≡ None → row_sound len ws count h ≡ false
  next_not r e u = go (row_sound len ws count h) _ (sym e ∙ u)
    where
      go : (b : Bool) (f : ℕ) → pick b (Some f) None ≡ None → b ≡ false
      go true f e = cc
      go false f e = refl

  -- after a tag the climb starts at the row before, after another node at its parent, as if it had climbed there (`climb_step`)
  starts : (c : Bool) (f : ℕ) → tagged (node_at ws h) ≡ c → row_sound len ws count h ≡ true → pick c (h + 1) (parent_at ws h) ≡ f
      → ClimbStart ws (h + 1) f
  starts true f t s e = record { low = omega arith; same = ap (reaching (last_at ws) (h + 1)) (sym e) }
  starts false f t s e =
      let own : last_at ws h ≡ h = (sound_row len ws count h s).leaf (eqb-false (node_at ws h).kind 1 t) in
      let step = climb_step (last_at ws) (h + 1) h f (omega arith) (omega arith) (sym e) in
      record { low = omega (arith, reaching_le (last_at ws) h h); same = step ∙ ap (reaching (last_at ws) (h + 1)) (sym (add-one h)) }

  pub next_from_lem : (r : Option ℕ) (f : ℕ) → r ≡ next_climb len ws count h → r ≡ Some f
      → (row_sound len ws count h ≡ true) × ClimbStart ws (h + 1) f
  next_from_lem r f e g = go (row_sound len ws count h) refl (sym e ∙ g)
    where
      go : (b : Bool) → row_sound len ws count h ≡ b → pick b (Some (pick (tagged (node_at ws h)) (h + 1) (parent_at ws h))) None ≡ Some f
          → (row_sound len ws count h ≡ true) × ClimbStart ws (h + 1) f
      go true s e = (s, starts (tagged (node_at ws h)) f refl s (cc))
      go false s e = let z : ◌≡◌ {A = ℕ} 0 1 = cc in absurd (omega arith)
