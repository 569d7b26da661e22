-- Two walks over handles find the same, where what passes in the one passes in the other.
use Prim.Native.Nat.{ℕ, zero, suc, ◌+◌, ◌≤◌, ◌<◌}
use native.Mathlib.Omega.{arith}
use mathlib.Core.Bool.{Bool, true, false, ◌&&◌, and-true}
use mathlib.Core.Path.{◌≡◌, refl, sym, ◌∙◌}
use mathlib.Core.List.{List, [], ◌∷◌}
use Rattle.std.proofs.lemmas.Bool.{and_parts}
use Rattle.rules.specs.Scan.{pick}
use Rattle.rules.specs.Lists.{from, only}

-- of those that pass one test, those that pass another
only_only : (t f : ℕ → Bool) (xs : List ℕ) → only t (only f xs) ≡ only (λ h. f h && t h) xs
unfolding only
only_only t f [] = refl
only_only t f (x ∷ xs) = go (f x) (only_only t f xs)
  where
    go : (b : Bool) → only t (only f xs) ≡ only (λ h. f h && t h) xs
        → only t (pick b (x ∷ only f xs) (only f xs)) ≡ pick (b && t x) (x ∷ only (λ h. f h && t h) xs) (only (λ h. f h && t h) xs)
    go true e = rw e
    go false e = e

-- what passes f among k handles from lo on passes g among m
abbrev Passes : (ℕ → Bool) → (ℕ → Bool) → ℕ → ℕ → ℕ → Type 0
Passes f g lo k m = (h : ℕ) → lo ≤ h → h < lo + k → f h ≡ true → (h < lo + m) × (g h ≡ true)

passes_on : (f g : ℕ → Bool) (lo k m : ℕ) → Passes f g lo (suc k) (suc m) → Passes f g (suc lo) k m
passes_on f g lo k m F h l b e = let r = F h (omega arith) (omega arith) e in (omega arith, r.1)

-- no handle is left on the other side, so none passes
none_passes : (f g : ℕ → Bool) (lo k : ℕ) → Passes f g lo k 0 → only f (from lo k) ≡ []
unfolding from only
none_passes f g lo zero F = refl
none_passes f g lo (suc k) F =
    go (f lo) refl (none_passes f g (suc lo) k (λ h l b e. absurd (omega (arith, (F h (omega arith) (omega arith) e).0))))
  where
    go : (b : Bool) → f lo ≡ b → only f (from (suc lo) k) ≡ [] → pick b (lo ∷ only f (from (suc lo) k)) (only f (from (suc lo) k)) ≡ []
    go true e ih = absurd (omega (arith, (F lo (omega arith) (omega arith) e).0))
    go false e ih = ih

same_only : (f g : ℕ → Bool) (lo k m : ℕ) → Passes f g lo k m → Passes g f lo m k → only f (from lo k) ≡ only g (from lo m)
unfolding from only
same_only f g lo zero m F G = sym (none_passes g f lo m G)
same_only f g lo (suc k) zero F G = none_passes f g lo (suc k) F
same_only f g lo (suc k) (suc m) F G =
    go (f lo) refl (g lo) refl (same_only f g (suc lo) k m (passes_on f g lo k m F) (passes_on g f lo m k G))
  where
    go : (b : Bool) → f lo ≡ b → (c : Bool) → g lo ≡ c → only f (from (suc lo) k) ≡ only g (from (suc lo) m)
        → pick b (lo ∷ only f (from (suc lo) k)) (only f (from (suc lo) k)) ≡ pick c (lo ∷ only g (from (suc lo) m)) (only g (from (suc lo) m))
    go true e true d ih = rw ih
    go true e false d ih = let z : ◌≡◌ {A = ℕ} 0 1 = cc (F lo (omega arith) (omega arith) e).1 in absurd (omega arith)
    go false e true d ih = let z : ◌≡◌ {A = ℕ} 0 1 = cc (G lo (omega arith) (omega arith) d).1 in absurd (omega arith)
    go false e false d ih = ih

-- Tests f and g that agree on what t passes, over ranges that hold the same of that: where f passes no other, it finds what t passes
-- of g's finds.
pub kept_finds : (t f g : ℕ → Bool) (lo k m : ℕ) → ((h : ℕ) → lo ≤ h → h < lo + k → f h ≡ true → t h ≡ true)
    → ((h : ℕ) → t h ≡ true → f h ≡ g h)
    → ((h : ℕ) → t h ≡ true → lo ≤ h → h < lo + k → h < lo + m) → ((h : ℕ) → t h ≡ true → lo ≤ h → h < lo + m → h < lo + k)
    → only f (from lo k) ≡ only t (only g (from lo m))
kept_finds t f g lo k m kept alike F G =
    same_only f (λ h. g h && t h) lo k m
    (λ h l b e. let q = kept h l b e in (F h q l b, rw (← alike h q, e) q))
    (λ h l b e. let q = and_parts (g h) (t h) e in (G h q.1 l b, alike h q.1 ∙ q.0))
    ∙ sym (only_only t g (from lo m))

-- and else it finds the same of what t passes
pub same_finds : (t f g : ℕ → Bool) (lo k m : ℕ) → ((h : ℕ) → t h ≡ true → f h ≡ g h)
    → ((h : ℕ) → t h ≡ true → lo ≤ h → h < lo + k → h < lo + m) → ((h : ℕ) → t h ≡ true → lo ≤ h → h < lo + m → h < lo + k)
    → only t (only f (from lo k)) ≡ only t (only g (from lo m))
same_finds t f g lo k m alike F G =
    only_only t f (from lo k)
    ∙ kept_finds t (λ h. f h && t h) g lo k m (λ h l b e. (and_parts (f h) (t h) e).1) (λ h e. rw (e, and-true) (alike h e)) F G
