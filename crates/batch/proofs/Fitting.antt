-- Writing a list piece by piece, where it is not known before whether there is room for all of it.
use mathlib.Core.Path.{◌≡◌, refl, ap, ◌∙◌}
use mathlib.Core.List.{List, [], ◌∷◌, ◌++◌}
use Prim.Native.Nat.{ℕ, ◌+◌, ◌≤◌, ◌<◌}
use native.Mathlib.Omega.{arith}
use lib.ListN.{length, length-append}
use Rattle.rules.specs.Buffers.{Wrote}
use Rattle.rules.proofs.Buffers.{Left, left_all, left_more, left_none, length_put}

-- s is left to be written into d from `at` on, where s₀ was to be written into d₀ from at₀ on, if all of it fits
pub record Fitting (d₀ : List ℕ) (at₀ : ℕ) (s₀ d : List ℕ) (at : ℕ) (s : List ℕ) : Type 0 where
  pub size : length d ≡ length d₀
  pub room : at ≤ length d
  pub end : at + length s ≡ at₀ + length s₀
  pub left : at₀ + length s₀ ≤ length d₀ → Left d₀ at₀ s₀ d at s

pub fitting_all : (d : List ℕ) (at : ℕ) (s : List ℕ) → at ≤ length d → Fitting d at s d at s
fitting_all d at s l = record { size = refl; room = l; end = refl; left = λ m. left_all d at s m }

module _ {d₀ s₀ d s : List ℕ} {at₀ at : ℕ} (f : Fitting d₀ at₀ s₀ d at s) where
  -- the same list, said otherwise
  pub fitting_as : {s₁ : List ℕ} → s ≡ s₁ → Fitting d₀ at₀ s₀ d at s₁
  fitting_as e = rw (← e) f

  module _ (a b : List ℕ) (e : s ≡ a ++ b) where
    pieces : length s ≡ length a + length b
    pieces = ap length e ∙ length-append a b

    -- there is no room for its first piece
    pub fitting_short : length d < at + length a → length d₀ < at₀ + length s₀
    fitting_short l = omega (arith, f.end, f.size, pieces)

    -- its first piece was written
    pub fitting_more : {d₁ : List ℕ} {r : ℕ} → Wrote d at a d₁ r → at + length a ≤ length d → Fitting d₀ at₀ s₀ d₁ r b
    fitting_more {d₁} w l =
        let k : length d₁ ≡ length d = ap length w.buffer ∙ length_put d at a l in
        record {
          size = k ∙ f.size;
          room = omega (arith, w.next);
          end = omega (arith, f.end, w.next, pieces);
          left = λ m. left_more (f.left m) a b e w;
        }

  -- its first piece is empty
  pub fitting_skip : (a b : List ℕ) → s ≡ a ++ b → length a ≡ 0 → Fitting d₀ at₀ s₀ d at b
  fitting_skip [] b e z = fitting_as e
  fitting_skip (x ∷ a) b e z = absurd (omega arith)

  -- nothing is left
  module _ (e : s ≡ []) where
    pub fitting_fits : at₀ + length s₀ ≤ length d₀
    fitting_fits = omega (arith, f.end, f.room, f.size, ap length e)

    pub fitting_none : Wrote d₀ at₀ s₀ d at
    fitting_none = left_none (f.left fitting_fits) e
