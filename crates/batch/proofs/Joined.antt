-- The texts of a list of handles, one after the other, and where each ends.
use mathlib.Core.Path.{◌≡◌, refl, sym}
use mathlib.Core.List.{List, [], ◌∷◌, ◌++◌}
use Prim.Native.Nat.{ℕ, ◌+◌, ◌≤◌, ◌<◌}
use native.Mathlib.Omega.{arith}
use lib.ListN.{length, drop, get_or, set, drop_of_length-le}
use Rattle.rules.specs.Lists.{each}
use Rattle.rules.specs.Buffers.{Wrote}
use Rattle.rules.specs.Batch.{ends_from}
use Rattle.rules.proofs.Buffers.{wrote_sets, Left, left_all, left_room, left_more, left_none}
use Rattle.batch.proofs.Handles.{next, each_next, each_end, written}
use Rattle.batch.proofs.Fitting.{Fitting, fitting_all, fitting_short, fitting_more, fitting_fits, fitting_none}

module _ (T : ℕ → List ℕ) where
  length_ends : (at : ℕ) (hs : List ℕ) → length (ends_from at T hs) ≡ length hs
  unfolding ends_from
  length_ends at [] = refl
  length_ends at (h ∷ hs) = rw (length_ends (at + length (T h)) hs)

  module _ (hs : List ℕ) where
    -- the texts of the first i handles stand in the lent bytes b₀, which are now b, up to `at`, and their ends in e₀, now e
    pub record Texts (e₀ b₀ : List ℕ) (i at : ℕ) (e b : List ℕ) : Type 0 where
      pub bytes : Fitting b₀ 0 (each T hs) b at (each T (drop i hs))
      pub ends : Left e₀ 0 (ends_from 0 T hs) e i (ends_from at T (drop i hs))

    pub texts_none : (e b : List ℕ) → length hs ≤ length e → Texts e b 0 0 e b
    texts_none e b l =
        record {
          bytes = fitting_all b 0 (each T hs) (omega arith);
          ends = left_all e 0 (ends_from 0 T hs) (omega (arith, length_ends 0 hs));
        }

    module _ {e₀ b₀ e b : List ℕ} {i at : ℕ} (t : Texts e₀ b₀ i at e b) where
      module _ (l : i < length hs) where
        abbrev text : List ℕ
        text = T (get_or hs i 0)

        -- the next text does not fit
        pub texts_short : length b < at + length text → length b₀ < length (each T hs)
        texts_short s =
            omega (arith, fitting_short t.bytes text (each T (drop (i + 1) hs)) (each_next hs i T l) s)

        ends_next : ends_from at T (drop i hs) ≡ (at + length text) ∷ ends_from (at + length text) T (drop (i + 1) hs)
        unfolding ends_from
        ends_next = rw (next hs i l)

        -- it was written
        pub texts_more : {b₁ : List ℕ} {x : ℕ} → Wrote b at text b₁ x → at + length text ≤ length b → Texts e₀ b₀ (i + 1) x (set e i x) b₁
        texts_more {b₁} {x} w s =
            let p : at + length text ≡ x = sym w.next in
            let more : List ℕ = ends_from x T (drop (i + 1) hs) in
            let q : ends_from at T (drop i hs) ≡ x ∷ more = rw p at ends_next in
            record {
              bytes = fitting_more t.bytes text (each T (drop (i + 1) hs)) (each_next hs i T l) w s;
              ends = left_more t.ends (x ∷ []) more q (wrote_sets e i (x ∷ []) (left_room t.ends (x ∷ []) more q));
            }

      -- all were written
      module _ (l : length hs ≤ i) where
        pub texts_fit : length (each T hs) ≤ length b₀
        texts_fit = omega (arith, fitting_fits t.bytes (each_end hs i T l))

        pub texts_bytes : b ≡ each T hs ++ drop (length (each T hs)) b₀
        texts_bytes = written (fitting_none t.bytes (each_end hs i T l))

        ends_end : ends_from at T (drop i hs) ≡ []
        unfolding ends_from
        ends_end = rw (drop_of_length-le hs l)

        pub texts_ends : e ≡ ends_from 0 T hs ++ drop (length (ends_from 0 T hs)) e₀
        texts_ends = written (left_none t.ends ends_end)
