-- The chain at a place, one step at a time and with no bound on the pieces. Reading goes forward, so that a chain has no more pieces
-- than bytes are left, and further steps than that change nothing.
use Rattle.std.proofs.Common.{Option, Some, None}
use mathlib.Core.Path.{◌≡◌, refl, sym, ap, subst, ◌∙◌}
use mathlib.Core.Bool.{Bool, true, false}
use mathlib.Core.List.{List, [], ◌∷◌}
use Prim.Native.Nat.{ℕ, zero, suc, ◌+◌, ◌-◌, ◌≤◌, ◌<◌}
use native.Mathlib.Omega.{arith}
use lib.Dec.{ltb}
use lib.ListN.{length}
use Rattle.rules.specs.Bytes.{is}
use Rattle.rules.specs.Scan.{pick, here}
use Rattle.rules.specs.Selector.{spaces_end, simple_at}
use Rattle.rules.specs.Chain.{piece, join_at, before, combinator_at, selector_of, selector_at, chain_at}
use Rattle.rules.specs.declared.Simple.{Simple}
use Rattle.rules.specs.declared.Joiner.{Joiner}
use Rattle.rules.specs.declared.Joiner.TheVariants.{End}
use Rattle.rules.specs.declared.Piece.{Piece}
use Rattle.rules.proofs.Runs.{skip_ge}
use Rattle.rules.proofs.Pick.{cases}
use Rattle.selector.proofs.Ahead.{Ahead, simple_ahead}
use Rattle.queryselector.specs.Chains.{joiner_at}

-- ---- the joiner

-- the rest starts at m or just after it
abbrev After : ℕ → Joiner × ℕ → Type 0
After m j = (m ≤ j.1) × (j.1 ≤ m + 1)

join_after : (s : List ℕ) (k m : ℕ) → After m (join_at s k m)
join_after s k m =
    cases (After m) (here (is 44) s m) (λ _. omega arith)
    (λ _. cases (After m) (here (is 62) s m) (λ _. omega arith) (λ _. omega arith))

-- ---- `parse_combinator`, over any reader of the rest

-- the chain of the simple selector x, by the joiner that follows it
abbrev pub joined : (ℕ → Option (List Piece)) → Simple → Option (Joiner × ℕ) → Option (List Piece)
joined rest x (Some (j, n)) = before (piece x j) (rest n)
joined rest x None = Some (piece x End ∷ [])

pub combinator_joined : (rest : ℕ → Option (List Piece)) (s : List ℕ) (x : Simple) (k : ℕ)
    → combinator_at rest s x k ≡ joined rest x (joiner_at s k)
combinator_joined rest s x k = go (ltb (spaces_end s k) (length s)) (join_at s k (spaces_end s k))
  where
    go : (t : Bool) (j : Joiner × ℕ) → pick t (before (piece x j.0) (rest j.1)) (Some (piece x End ∷ []))
        ≡ joined rest x (pick t (Some j) None)
    go true j = refl
    go false j = refl

-- ---- two readers of the rest that agree where it is read

combinator_same : (f g : ℕ → Option (List Piece)) (s : List ℕ) (x : Simple) (k : ℕ) → ((m : ℕ) → k ≤ m → f m ≡ g m)
    → combinator_at f s x k ≡ combinator_at g s x k
combinator_same f g s x k h =
    let j : Joiner × ℕ = join_at s k (spaces_end s k) in
    let far : k ≤ j.1 = omega (arith, join_after s k (spaces_end s k), skip_ge (is 32) s k) in
    let t : Bool = ltb (spaces_end s k) (length s) in
    ap (λ (o : Option (List Piece)). pick t (before (piece x j.0) o) (Some (piece x End ∷ []))) (h j.1 far)

selector_same : (f g : ℕ → Option (List Piece)) (s : List ℕ) (i : ℕ) → ((m : ℕ) → i < m → f m ≡ g m)
    → selector_of f s (simple_at s i) ≡ selector_of g s (simple_at s i)
selector_same f g s i h = go (simple_at s i) (simple_ahead s i)
  where
    go : (r : Option (Simple × ℕ)) → Ahead i (length s) r → selector_of f s r ≡ selector_of g s r
    go (Some (x, k)) a = combinator_same f g s x k (λ m l. h m (omega arith))
    go None a = refl

-- ---- with enough steps, more make no difference

none_at : (n : ℕ) (s : List ℕ) (i : ℕ) → length s ≤ i → selector_at n s i ≡ None
unfolding selector_at
none_at zero s i h = refl
none_at (suc n) s i h = go (simple_at s (spaces_end s i)) (simple_ahead s (spaces_end s i))
  where
    go : (r : Option (Simple × ℕ)) → Ahead (spaces_end s i) (length s) r → selector_of (selector_at n s) s r ≡ None
    go (Some (x, k)) a = absurd (omega (arith, skip_ge (is 32) s i))
    go None a = refl

enough : (n m : ℕ) (s : List ℕ) (i : ℕ) → length s - i ≤ n → length s - i ≤ m → selector_at n s i ≡ selector_at m s i
unfolding selector_at
enough zero m s i h k = sym (none_at m s i (omega arith))
enough (suc n) zero s i h k = none_at (suc n) s i (omega arith)
enough (suc n) (suc m) s i h k =
    selector_same (selector_at n s) (selector_at m s) s (spaces_end s i)
    (λ p l. enough n m s p (omega (arith, skip_ge (is 32) s i)) (omega (arith, skip_ge (is 32) s i)))

pub chain_step : (s : List ℕ) (i : ℕ) → chain_at s i ≡ selector_of (chain_at s) s (simple_at s (spaces_end s i))
unfolding chain_at selector_at
chain_step s i =
    enough (length s - i) (suc (length s - i)) s i (omega arith) (omega arith)
    ∙ selector_same (selector_at (length s - i) s) (chain_at s) s (spaces_end s i)
    (λ p l. enough (length s - i) (length s - p) s p (omega (arith, skip_ge (is 32) s i)) (omega arith))

-- ---- no more pieces than bytes are left

abbrev Short : ℕ → Option (List Piece) → Type 0
Short n None = Unit {0}
Short n (Some ps) = length ps ≤ n

short_before : (n : ℕ) (p : Piece) (o : Option (List Piece)) → Short n o → Short (suc n) (before p o)
short_before n p None h = tt
short_before n p (Some ps) h = omega arith

short : (n : ℕ) (s : List ℕ) (i : ℕ) → Short n (selector_at n s i)
unfolding selector_at
short zero s i = tt
short (suc n) s i = go (λ m. short n s m) (simple_at s (spaces_end s i))
  where
    go : ((m : ℕ) → Short n (selector_at n s m)) → (r : Option (Simple × ℕ)) → Short (suc n) (selector_of (selector_at n s) s r)
    go f (Some (x, k)) =
        let j : Joiner × ℕ = join_at s k (spaces_end s k) in
        cases (Short (suc n)) (ltb (spaces_end s k) (length s))
        (λ _. short_before n (piece x j.0) (selector_at n s j.1) (f j.1)) (λ _. omega arith)
    go f None = tt

pub chain_length : (s : List ℕ) (i : ℕ) (ps : List Piece) → chain_at s i ≡ Some ps → length ps ≤ length s - i
unfolding chain_at
chain_length s i ps e = subst (Short (length s - i)) e (short (length s - i) s i)
