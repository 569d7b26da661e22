-- Several numbers, read one after the other into a buffer: after i of them its first i entries are what was read, and the others
-- are still to be read.
use mathlib.Core.Path.{◌≡◌, refl, sym, ap, ◌∙◌}
use mathlib.Core.List.{List, [], ◌∷◌, ◌++◌, map, append_assoc, append-nil}
use Prim.Native.Nat.{ℕ, suc, ◌+◌, ◌-◌, ◌≤◌, ◌<◌}
use native.Mathlib.Omega.{arith}
use lib.ListN.{length, take, set}
use lib.Seq.{take_all}
use Rattle.std.proofs.Common.{Option, Some, None}
use Rattle.std.proofs.lemmas.List.{take_more_set, map-append}
use Rattle.std.specs.Option.{option_map}
use Rattle.records.specs.Records.{number_before, numbers_at}

-- numbers, and after them those that are read from there on
abbrev pub joined : List ℕ → Option (List ℕ × ℕ) → Option (List ℕ × ℕ)
joined ns x = option_map (λ y. (ns ++ y.0, y.1)) x

joined_joined : (ns ms : List ℕ) (x : Option (List ℕ × ℕ)) → joined ns (joined ms x) ≡ joined (ns ++ ms) x
joined_joined ns ms None = refl
joined_joined ns ms (Some x) = ap (λ (l : List ℕ). Some (l, x.1)) (sym (append_assoc ns ms x.0))

module _ {T : Type 0} (value : T → ℕ) (s : List ℕ) (at : ℕ) where
  -- of k numbers the first i are read
  abbrev pub Stored : ℕ → List T → ℕ → ℕ → Type 0
  Stored k ns place i = numbers_at k s at ≡ joined (map value (take i ns)) (numbers_at (k - i) s place)

  pub one_number : (k : ℕ) (ns : List T) (place i n next : ℕ) (x : T) → i < k → i < length ns → value x ≡ n
      → Some (n, next) ≡ number_before 32 s place → Stored k ns place i → Stored k (set ns i x) next (i + 1)
  unfolding numbers_at
  one_number k ns place i n next x l m v e c =
      let left : k - i ≡ suc (k - (i + 1)) = omega arith in
      let more = rw (left, ← e) at c in
      let two = joined_joined (map value (take i ns)) (n ∷ []) (numbers_at (k - (i + 1)) s next) in
      more ∙ two ∙ rw (take_more_set ns i x m, map-append, v)

  pub no_number : (k : ℕ) (ns : List T) (place i : ℕ) → i < k → None ≡ number_before 32 s place → Stored k ns place i → numbers_at k s at ≡ None
  unfolding numbers_at
  no_number k ns place i l e c = let left : k - i ≡ suc (k - (i + 1)) = omega arith in rw (left, ← e) at c

  pub all_numbers : (k : ℕ) (ns : List T) (place i : ℕ) → k ≤ i → length ns ≤ i → Stored k ns place i
      → numbers_at k s at ≡ Some (map value ns, place)
  unfolding numbers_at
  all_numbers k ns place i l m c = let left : k - i ≡ 0 = omega arith in rw (left, take_all i ns m, append-nil) at c
