-- A walk over handles: the first that passes a test, and the buffer into which those that pass are written one after the other.
use Rattle.std.proofs.Common.{Some, None, Ok, Err}
use mathlib.Core.Path.{◌≡◌, refl, ap, sym, ◌∙◌}
use mathlib.Core.Bool.{Bool, true, false}
use mathlib.Core.List.{List, [], ◌∷◌, ◌++◌, append_assoc, append-nil}
use Prim.Native.Nat.{ℕ, zero, suc, ◌+◌, ◌-◌, ◌≤◌, ◌<◌}
use native.Mathlib.Numerals.{add-one}
use native.Mathlib.Omega.{arith}
use borrow.Author.Tests.{lt-ltb, le-ltb}
use lib.ListN.{length, drop, set, replicate, get_or, length-append, length-drop}
use lib.Seq.{drop-cons, set_at}
use Rattle.rules.specs.Lists.{from, only}
use Rattle.rules.specs.Refusals.{Counts}
use Rattle.rules.specs.Answers.{first_found}
use Rattle.rules.specs.declared.Refusal.TheVariants.{BufferTooShort}
use Rattle.rules.proofs.Lists.{from_append, only_append}

some_same : {a b : ℕ} → Some a ≡ Some b → a ≡ b
some_same e = cc

-- ---- among k numbers from m on

module _ (f : ℕ → Bool) where
  -- one number more, which passes or not
  pub one_more : (m k : ℕ) → only f (from m (k + 1)) ≡ only f (from m k) ++ only f ((m + k) ∷ [])
  unfolding from
  one_more m k = rw (from_append m k 1, only_append f (from m k) (from (m + k) 1))

  pub nothing : (m : ℕ) → only f (from m 0) ≡ []
  unfolding from only
  nothing m = refl

  pub passed : (m k : ℕ) → only f (from m k) ≡ [] → f (m + k) ≡ false → only f (from m (k + 1)) ≡ []
  unfolding only
  passed m k e t = rw (one_more m k, e, t)

  -- after k that do not pass comes h, which does: it is the first of what passes
  pub found_after : (m k h n : ℕ) → h ≡ m + k → k < n → only f (from m k) ≡ [] → f h ≡ true → Some h ≡ first_found (only f (from m n))
  unfolding from only
  found_after m k h n q l e t =
      let cut : n ≡ k + suc (n - suc k) = omega arith in
      rw (cut, from_append m k (suc (n - suc k)), only_append f (from m k) (from (m + k) (suc (n - suc k))), e, ← q, t)

  -- if h is the first of what passes, the rest comes after it
  pub rest_after : (m n h : ℕ) → Some h ≡ first_found (only f (from m n)) → only f (from m n) ≡ h ∷ only f (from (h + 1) (m + n - (h + 1)))
  unfolding from only
  rest_after m zero h e = let z : ◌≡◌ {A = ℕ} 0 1 = cc in absurd (omega arith)
  rest_after m (suc n) h e = go (f m) refl (rest_after (suc m) n h)
    where
      go : (b : Bool) → f m ≡ b
          → (Some h ≡ first_found (only f (from (suc m) n)) → only f (from (suc m) n) ≡ h ∷ only f (from (h + 1) (suc m + n - (h + 1))))
          → only f (from m (suc n)) ≡ h ∷ only f (from (h + 1) (m + suc n - (h + 1)))
      go true t on =
          let q : h ≡ m = some_same (e ∙ rw t) in
          let k : m + suc n - (h + 1) ≡ n = omega arith in
          rw (t, k, q, add-one)
      go false t on =
          let k : m + suc n - (h + 1) ≡ suc m + n - (h + 1) = omega arith in
          rw (t, k) (on (e ∙ rw t))

pub none_passed : {xs : List ℕ} → xs ≡ [] → None ≡ first_found xs
none_passed e = rw e

pub none_found : (xs : List ℕ) → None ≡ first_found xs → xs ≡ []
none_found [] e = refl
none_found (h ∷ hs) e = let z : ◌≡◌ {A = ℕ} 0 1 = cc in absurd (omega arith)

-- ---- what was found, before what is left of the whole, is n numbers, which stand in the lent buffer out₀, which is now out

pub record Walked (whole out₀ out : List ℕ) (n : ℕ) (left : List ℕ) : Type 0 where
  pub found : List ℕ
  pub is : whole ≡ found ++ left
  pub number : n ≡ length found
  pub room : n ≤ length out₀
  pub buffer : out ≡ found ++ drop n out₀

-- x is stored after xs, which stands at the front of d
store : (xs d : List ℕ) (n x : ℕ) → length xs ≡ n → n < length d → set (xs ++ drop n d) n x ≡ (xs ++ (x ∷ [])) ++ drop (n + 1) d
store xs d n x e l =
    rw (drop-cons d n 0 l, set_at xs (get_or d n 0) (drop (suc n) d) x n e, add-one) (sym (append_assoc xs (x ∷ []) (drop (suc n) d)))

pub walk_none : (whole out : List ℕ) → Walked whole out out 0 whole
walk_none whole out = record { found = []; is = refl; number = refl; room = omega arith; buffer = refl }

-- at the start: a and b are where the walk begins and ends
pub walk_begin : (g : List ℕ → List ℕ) (out : List ℕ) {s e a b : ℕ} → a ≡ s → b ≡ e → Walked (g (from s (e - s))) out out 0 (g (from a (b - a)))
walk_begin g out {s = s} {e = e} p q = rw (p, q) (walk_none (g (from s (e - s))) out)

module _ {whole out₀ out left : List ℕ} {n : ℕ} (w : Walked whole out₀ out n left) where
  pub walk_size : length out ≡ length out₀
  walk_size = ap length w.buffer ∙ length-append w.found (drop n out₀) ∙ (simp length-drop (omega (arith, w.number, w.room)))

  module _ {h : ℕ} {rest : List ℕ} (next : left ≡ h ∷ rest) where
    pub walk_on : n < length out → Walked whole out₀ (set out n h) (n + 1) rest
    walk_on l =
        record {
          found = w.found ++ (h ∷ []);
          is = w.is ∙ rw next (sym (append_assoc w.found (h ∷ []) rest));
          number = omega (arith, w.number, length-append w.found (h ∷ []));
          room = omega (arith, walk_size);
          buffer = ap (λ (d : List ℕ). set d n h) w.buffer ∙ store w.found out₀ n h (sym w.number) (omega (arith, walk_size));
        }

    -- the same of a number x that is h, and a count m that is one more
    pub walk_next : {x m : ℕ} → x ≡ h → m ≡ n + 1 → n < length out → Walked whole out₀ (set out n x) m rest
    walk_next e f l = rw (e, f) (walk_on l)

    -- there is no room for it
    pub walk_short : {done : List ℕ} → length out ≤ n → done ≡ replicate (length out) 0 → Counts whole out₀ (Err BufferTooShort) done
    walk_short b e =
        let y : length whole ≡ length w.found + suc (length rest) = ap length w.is ∙ length-append w.found left ∙ rw next in
        let z : length out₀ < length whole = omega (arith, walk_size, w.number) in
        record { is = rw (lt-ltb (length out₀) (length whole) z); left = e ∙ rw walk_size }

  -- nothing is left
  pub walk_end : left ≡ [] → Counts whole out₀ (Ok n) out
  walk_end e =
      let all : whole ≡ w.found = w.is ∙ rw e (append-nil w.found) in
      let z : length whole ≤ length out₀ = rw (all, ← w.number) w.room in
      record { is = rw (le-ltb (length out₀) (length whole) z, all, w.number); left = w.buffer ∙ rw (all, w.number) }
