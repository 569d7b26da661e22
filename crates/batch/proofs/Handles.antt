-- A list of handles, taken one by one: what a loop over it keeps is said of the handles from i on.
use mathlib.Core.Path.{◌≡◌, ap, ◌∙◌}
use mathlib.Core.List.{List, [], ◌∷◌, ◌++◌}
use Prim.Native.Nat.{ℕ, ◌+◌, ◌*◌, ◌≤◌, ◌<◌}
use native.Mathlib.Numerals.{add-one}
use native.Mathlib.Omega.{arith}
use lib.ListN.{length, drop, get_or, length-append, drop_of_length-le}
use lib.Seq.{drop-cons}
use Rattle.rules.specs.Lists.{each}
use Rattle.rules.specs.Buffers.{Wrote}
use Rattle.rules.proofs.Buffers.{Left, left_room, left_more, left_none}

-- a list that was written from the front on
pub written : {d₀ s d : List ℕ} {at : ℕ} → Wrote d₀ 0 s d at → d ≡ s ++ drop (length s) d₀
written {d₀} {s} w = let z : 0 + length s ≡ length s = omega arith in w.buffer ∙ ap (λ (k : ℕ). s ++ drop k d₀) z

-- the handle at i, and those after it
module _ (hs : List ℕ) (i : ℕ) where
  pub next : i < length hs → drop i hs ≡ get_or hs i 0 ∷ drop (i + 1) hs
  next l = rw add-one (drop-cons hs i 0 l)

  module _ (F : ℕ → List ℕ) where
    pub each_next : i < length hs → each F (drop i hs) ≡ F (get_or hs i 0) ++ each F (drop (i + 1) hs)
    unfolding each
    each_next l = rw (next l)

    pub each_end : length hs ≤ i → each F (drop i hs) ≡ []
    unfolding each
    each_end l = rw (drop_of_length-le hs l)

    -- what the handles from i on give is left to be written
    module _ {d₀ s₀ d : List ℕ} {at : ℕ} (f : Left d₀ 0 s₀ d at (each F (drop i hs))) where
      pub room_next : i < length hs → at + length (F (get_or hs i 0)) ≤ length d
      room_next l = left_room f (F (get_or hs i 0)) (each F (drop (i + 1) hs)) (each_next l)

      pub left_next : i < length hs → {d₁ : List ℕ} {r : ℕ} → Wrote d at (F (get_or hs i 0)) d₁ r → Left d₀ 0 s₀ d₁ r (each F (drop (i + 1) hs))
      left_next l w = left_more f (F (get_or hs i 0)) (each F (drop (i + 1) hs)) (each_next l) w

      -- and was written
      pub left_end : length hs ≤ i → d ≡ s₀ ++ drop (length s₀) d₀
      left_end l = written (left_none f (each_end l))

-- where each gives n entries
pub length_each : (F : ℕ → List ℕ) (n : ℕ) → ((h : ℕ) → length (F h) ≡ n) → (hs : List ℕ) → length (each F hs) ≡ n * length hs
unfolding each
length_each F n e [] = omega arith
length_each F n e (h ∷ hs) = simp length-append (rw (e h, length_each F n e hs) (omega arith))
