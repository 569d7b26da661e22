-- Prefixes of lists, and of what two walks over handles give.
use Prim.Native.Nat.{ℕ, zero, suc, ◌+◌, ◌-◌, ◌≤◌, ◌<◌}
use native.Mathlib.Omega.{arith}
use native.Mathlib.Decide.{dec_lt}
use mathlib.Core.Logic.{◌⊎◌, inl, inr}
use mathlib.Core.Path.{◌≡◌, refl, sym, ap, ◌∙◌}
use mathlib.Core.List.{List, [], ◌∷◌, ◌++◌, append_assoc, append-nil}
use lib.ListN.{length, length-append}
use Rattle.rules.specs.Lists.{from, each}
use Rattle.rules.proofs.Lists.{from_append, each_append}
use Rattle.cut.specs.Text.{Prefix}

same_prefix : {xs ys : List ℕ} → xs ≡ ys → Prefix xs ys
same_prefix {xs} {ys} e = record { rest = []; is = sym e ∙ sym (append-nil xs) }

-- each is a prefix of the other
pub both_prefix : {xs ys : List ℕ} → Prefix xs ys → Prefix ys xs → xs ≡ ys
both_prefix {xs} {ys} a b =
    let m : length ys ≡ length xs + length a.rest = ap length a.is ∙ length-append xs a.rest in
    let n : length xs ≡ length ys + length b.rest = ap length b.is ∙ length-append ys b.rest in
    sym (a.is ∙ ap (λ (zs : List ℕ). xs ++ zs) (none a.rest (omega arith)) ∙ append-nil xs)
  where
    none : (zs : List ℕ) → length zs ≡ 0 → zs ≡ []
    none [] e = refl
    none (z ∷ zs) e = absurd (omega arith)

-- k handles from lo on, and as many or more: each but the last gives the same, and the last a prefix
each_prefix : (f g : ℕ → List ℕ) (lo k m : ℕ) → k ≤ m → ((d : ℕ) → lo ≤ d → d < lo + k → Prefix (f d) (g d))
    → ((d : ℕ) → lo ≤ d → suc d < lo + k → f d ≡ g d) → Prefix (each f (from lo k)) (each g (from lo m))
unfolding from each
each_prefix f g lo zero m l P S = record { rest = each g (from lo m); is = refl }
each_prefix f g lo (suc k) zero l P S = absurd (omega arith)
each_prefix f g lo (suc zero) (suc m) l P S =
    let a = P lo (omega arith) (omega arith) in
    let more = each g (from (suc lo) m) in
    record { rest = a.rest ++ more; is = rw (a.is, append-nil (f lo)) (append_assoc (f lo) a.rest more) }
each_prefix f g lo (suc (suc k)) (suc m) l P S =
    let b =
    each_prefix f g (suc lo) (suc k) m (omega arith)
    (λ d a c. P d (omega arith) (omega arith)) (λ d a c. S d (omega arith) (omega arith)) in
    let more = each f (from (suc lo) (suc k)) in
    record { rest = b.rest; is = rw (b.is, ← S lo (omega arith) (omega arith)) (sym (append_assoc (f lo) more b.rest)) }

-- The handles after h up to a, and those up to b. Below c both give the same, and what is below c and within the first range is
-- within the other. The first goes no further than c, and gives nothing there, or a prefix of what the other gives.
module _ (f g : ℕ → List ℕ) (h c a b : ℕ) (hc : h < c) (hb : h ≤ b) (ha : h ≤ a) (ac : a ≤ c)
    (same : (d : ℕ) → d < c → f d ≡ g d) (kept : (d : ℕ) → h < d → d < c → d ≤ a → d ≤ b)
    (tail : c ≤ a → (f c ≡ []) ⊎ ((c ≤ b) × Prefix (f c) (g c))) where
  abbrev Walked : ℕ → Type 0
  Walked d = Prefix (each f (from (suc h) (d - h))) (each g (from (suc h) (b - h)))

  reaches : (d : ℕ) → h ≤ d → d < c → d ≤ a → d ≤ b
  reaches d l m n = go (dec_lt h d)
    where
      go : Dec (h < d) → d ≤ b
      go (yes y) = kept d y m n
      go (no y) = omega arith

  up_to : (d : ℕ) → h ≤ d → d < c → d ≤ a → Walked d
  up_to d l m n =
      each_prefix f g (suc h) (d - h) (b - h) (omega (arith, reaches d l m n))
      (λ x i j. same_prefix (same x (omega arith))) (λ x i j. same x (omega arith))

  -- where c gives nothing, it may be left out
  without_last : a ≡ c → f c ≡ [] → each f (from (suc h) (a - h)) ≡ each f (from (suc h) ((c - 1) - h))
  unfolding from each
  without_last e z =
      let k : ℕ = (c - 1) - h in
      let l : a - h ≡ k + 1 = omega arith in
      let m : suc h + k ≡ c = omega arith in
      rw (l, from_append (suc h) k 1, each_append f (from (suc h) k) (from (suc h + k) 1), m, z) (append-nil (each f (from (suc h) k)))

  -- where c gives a prefix, each before gives the same
  with_last_lem : a ≡ c → c ≤ b → Prefix (f c) (g c) → Walked a
  with_last_lem e l t =
      each_prefix f g (suc h) (a - h) (b - h) (omega arith) (λ d i j. here d (omega arith) (dec_lt d c)) (λ d i j. same d (omega arith))
    where
      here : (d : ℕ) → d ≤ c → Dec (d < c) → Prefix (f d) (g d)
      here d i (yes y) = same_prefix (same d y)
      here d i (no y) = let z : d ≡ c = omega arith in rw z t

  pub walk_prefix : Walked a
  walk_prefix = go (dec_lt a c)
    where
      at_c : a ≡ c → (f c ≡ []) ⊎ ((c ≤ b) × Prefix (f c) (g c)) → Walked a
      at_c e (inl z) = rw (without_last e z) (up_to (c - 1) (omega arith) (omega arith) (omega arith))
      at_c e (inr t) = with_last_lem e t.0 t.1

      go : Dec (a < c) → Walked a
      go (yes y) = up_to a ha y (omega arith)
      go (no n) = at_c (omega arith) (tail (omega arith))
