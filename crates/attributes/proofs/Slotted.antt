-- Names of a text and their slots: how the table is filled, and that a name to which a slot does not lead is another.
use mathlib.Core.Path.{◌≡◌, refl, ap, ◌∙◌}
use mathlib.Core.Bool.{Bool, true, false}
use mathlib.Core.List.{List}
use Prim.Native.Nat.{ℕ, zero, suc, ◌+◌, ◌-◌, ◌≤◌, ◌<◌}
use native.Mathlib.Decide.{ℕ_discrete}
use native.Mathlib.Omega.{arith}
use lib.ListN.{length, get_or, set, replicate, length-set}
use lib.Seq.{get_or-set_same, get_or-set_other}
use Rattle.rules.specs.Scan.{same}
use Rattle.rules.proofs.Names.{same_is}
use Rattle.attributes.specs.Slots.{name_at, slot_of, many, Slotted}

zeros : (n i : ℕ) → ◌≡◌ {A = ℕ} (get_or (replicate n 0) i 0) 0
zeros zero i = refl
zeros (suc n) zero = refl
zeros (suc n) (suc i) = zeros n i

module _ (s es : List ℕ) where
  pub slotted_none : Slotted s es 0 (replicate 256 0)
  slotted_none =
      record { size = refl; leads = λ j l. absurd (omega arith); inside = λ i l. omega (arith, zeros 256 i) }

  module _ {n : ℕ} {t : List ℕ} (d : Slotted s es n t) where
    -- name n has the slot at `at`, which is v now
    module _ (at v : ℕ) (q : at ≡ slot_of (name_at s es n)) (l : at < 256) (new : v < many → (get_or t at 0 ≡ 0) × (v ≡ suc n)) where
      m : at < length t
      m = omega (arith, d.size)

      stored : (P : ℕ → Type 0) (i : ℕ) → (i ≡ at → P v) → P (get_or t i 0) → P (get_or (set t at v) i 0)
      stored P i here other = go (ℕ_discrete i at)
        where
          go : Dec (i ≡ at) → P (get_or (set t at v) i 0)
          go (yes e) = rw (e, get_or-set_same t at v 0 m) (here e)
          go (no e) = rw (get_or-set_other t at i v 0 e) other

      old : (j : ℕ) → j < n → slot_of (name_at s es j) ≡ at → v < many → ⊥
      old j l e u =
          let z = (new u).0 in
          let y = rw e at (d.leads j l) in
          omega (arith, z, y (omega (arith, z)))

      pub slotted_more : Slotted s es (n + 1) (set t at v)
      slotted_more =
          record {
            size = length-set t at v ∙ d.size;
            leads = λ j l. lead j l (ℕ_discrete j n);
            inside = λ i. stored (λ c. c < many → c ≤ n + 1) i (λ e u. omega (arith, (new u).1)) (λ u. omega (arith, d.inside i u));
          }
        where
          lead : (j : ℕ) → j < n + 1 → Dec (j ≡ n) → get_or (set t at v) (slot_of (name_at s es j)) 0 < many
              → get_or (set t at v) (slot_of (name_at s es j)) 0 ≡ suc j
          lead j l (yes e) = rw (e, ← q, get_or-set_same t at v 0 m) (λ u. (new u).1)
          lead j l (no e) =
              stored (λ c. c < many → c ≡ suc j) (slot_of (name_at s es j)) (λ i u. absurd (old j (omega arith) i u)) (d.leads j (omega arith))

    -- k has the slot at `at`
    module _ (k : List ℕ) {at : ℕ} (q : at ≡ slot_of k) where
      slot_other : (j : ℕ) → j < n → get_or t at 0 < many → (get_or t at 0 ≡ suc j → ⊥) → same k (name_at s es j) ≡ false
      slot_other j l u o = go (same k (name_at s es j)) refl
        where
          go : (b : Bool) → same k (name_at s es j) ≡ b → b ≡ false
          go true y =
              let e : at ≡ slot_of (name_at s es j) = q ∙ ap slot_of (same_is k (name_at s es j) y) in
              absurd (o (rw e (d.leads j l (rw e at u))))
          go false y = refl

      pub no_name : get_or t at 0 ≡ 0 → (j : ℕ) → j < n → same k (name_at s es j) ≡ false
      no_name z j l = slot_other j l (omega arith) (λ e. omega arith)

      module _ (some : get_or t at 0 ≡ 0 → ⊥) (one : get_or t at 0 < many) where
        pub name_inside : get_or t at 0 - 1 < n
        name_inside = omega (arith, d.inside at one)

        pub one_name : (i : ℕ) → i < n → (i ≡ get_or t at 0 - 1 → ⊥) → same k (name_at s es i) ≡ false
        one_name i l o = slot_other i l one (λ e. o (omega arith))
