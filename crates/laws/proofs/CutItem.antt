-- What stands at a place of a page, and of its beginning.
use Prim.Native.Nat.{ℕ, zero, suc, ◌+◌, ◌-◌, ◌≤◌, ◌<◌}
use native.Mathlib.Omega.{arith}
use native.Mathlib.Decide.{dec_le}
use mathlib.Core.Bool.{Bool, true, false, ◌&&◌}
use mathlib.Core.Logic.{◌⊎◌, inl, inr, ⊎_elim}
use mathlib.Core.Path.{◌≡◌, refl, sym, ◌∙◌}
use mathlib.Core.List.{List}
use lib.ListN.{length, take, get_or}
use lib.Dec.{ltb, leb}
use borrow.Author.Tests.{lt-ltb, le-leb, lt-leb}
use Rattle.rules.specs.Bytes.{is}
use Rattle.rules.specs.Scan.{pick, here}
use Rattle.rules.specs.Lexer.{comment_end}
use Rattle.rules.proofs.Pick.{cases}
use Rattle.rules.proofs.Places.{here_below}
use Rattle.laws.proofs.Cut.{here_cut, length_cut}

-- a comment's end is none, or past the three bytes that close it
abbrev pub Ends : List ℕ → ℕ → ℕ → Type 0
Ends p at e = (e ≡ 0) ⊎ ((at + 3 ≤ e) × (e ≤ length p))

pub comment_end_lem : (k : ℕ) (p : List ℕ) (at : ℕ) → Ends p at (comment_end k p at)
unfolding comment_end
comment_end_lem zero p at = inl refl
comment_end_lem (suc k) p at =
    cases (Ends p at) (ltb at (length p))
    (λ t. cases (Ends p at) (here (is 45) p at && here (is 45) p (suc at))
    (λ d. cases (Ends p at) (here (is 62) p (suc (suc at)))
    (λ g. let l : suc (suc at) < length p = here_below (is 62) p (suc (suc at)) _ refl g in inr (omega arith, omega arith))
    (λ g. later (comment_end_lem k p (suc (suc (suc at)))) (omega arith)))
    (λ d. later (comment_end_lem k p (suc at)) (omega arith)))
    (λ t. inl refl)
  where
    later : {a e : ℕ} → Ends p a e → at ≤ a → Ends p at e
    later (inl z) h = inl z
    later (inr l) h = inr (omega (arith, l.0), l.1)

-- fewer than three bytes hold no end of a comment
pub comment_none : (k : ℕ) (p : List ℕ) (at : ℕ) → length p ≤ at + 2 → comment_end k p at ≡ 0
comment_none k p at h = ⊎_elim (λ z. z) (λ l. let z : ◌≡◌ {A = ℕ} 0 1 = omega (arith, l.0, l.1) in omega (arith, z)) (comment_end_lem k p at)

-- what is found within the first n bytes
abbrev pub below : ℕ → ℕ → ℕ
below n e = pick (leb e n) e 0

below_none : (n : ℕ) (p : List ℕ) (at e : ℕ) → Ends p at e → n ≤ at + 2 → below n e ≡ 0
below_none n p at e (inl z) h = rw z (zero_below n)
  where
    zero_below : (n : ℕ) → below n 0 ≡ 0
    zero_below n = cases (λ e. e ≡ 0) (leb 0 n) (λ t. refl) (λ t. refl)
below_none n p at e (inr l) h = rw (lt-leb e n (omega (arith, l.0)))

pub comment_cut : (k k' : ℕ) (p : List ℕ) (n at : ℕ) → n ≤ length p → length p - at ≤ k → n - at ≤ k'
    → comment_end k' (take n p) at ≡ below n (comment_end k p at)
unfolding comment_end
comment_cut zero k' p n at hn e e' =
    let q : length (take n p) ≡ n = length_cut n p hn in
    comment_none k' (take n p) at (omega arith) ∙ sym (below_none n p at 0 (inl refl) (omega arith))
comment_cut (suc k) zero p n at hn e e' = sym (below_none n p at (comment_end (suc k) p at) (comment_end_lem (suc k) p at) (omega arith))
comment_cut (suc k) (suc k') p n at hn e e' =
    go (dec_le n (at + 2)) (comment_cut k k' p n (suc (suc (suc at))) hn (omega arith) (omega arith))
    (comment_cut k k' p n (suc at) hn (omega arith) (omega arith))
  where
    q : length (take n p) ≡ n
    q = length_cut n p hn

    go : Dec (n ≤ at + 2) → comment_end k' (take n p) (suc (suc (suc at))) ≡ below n (comment_end k p (suc (suc (suc at))))
        → comment_end k' (take n p) (suc at) ≡ below n (comment_end k p (suc at)) → comment_end (suc k') (take n p) at ≡ below n (comment_end (suc k) p at)
    go (yes h) past on =
        comment_none (suc k') (take n p) at (omega (arith, q, h)) ∙ sym (below_none n p at (comment_end (suc k) p at) (comment_end_lem (suc k) p at) h)
    go (no h) past on =
        rw (
          past,
          on,
          here_cut (is 45) p n at hn (omega (arith, h)),
          here_cut (is 45) p n (suc at) hn (omega (arith, h)),
          here_cut (is 62) p n (suc (suc at)) hn (omega (arith, h)),
          lt-ltb at (length p) (omega (arith, h)),
          lt-ltb at (length (take n p)) (omega (arith, h, q)),
        )
        (two (is 45 (get_or p at 0) && here (is 45) p (suc at)) (here (is 62) p (suc (suc at))))
      where
        two : (b g : Bool)
            → pick b (pick g (suc (suc (suc at))) (below n (comment_end k p (suc (suc (suc at)))))) (below n (comment_end k p (suc at)))
            ≡ below n (pick b (pick g (suc (suc (suc at))) (comment_end k p (suc (suc (suc at))))) (comment_end k p (suc at)))
        two true true = rw (le-leb (suc (suc (suc at))) n (omega (arith, h)))
        two true false = refl
        two false g = refl
