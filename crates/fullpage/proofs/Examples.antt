-- Worked examples, by computing: inputs of the program, and what it writes.
use Prim.Native.Nat.{ℕ}
use mathlib.Core.Path.{◌≡◌, refl}
use mathlib.Core.List.{List, [], ◌∷◌, map}
use lib.ListN.{replicate}
use Rattle.rules.specs.Ascii.{bytes}
use Rattle.rules.specs.Scan.{span}
use Rattle.decimal.specs.Digits.{value_from, number_of, number_at}
use Rattle.maxnodes.specs.Bound.{cycle}
use Rattle.std.proofs.Common.{Some, None}
use Rattle.fullpage.specs.Asked.{asked_length, page_text}

written : List ℕ → List ℕ
written s = page_text (asked_length s)

pages : map written (bytes "0" ∷ bytes "1" ∷ bytes "2\n" ∷ bytes "3" ∷ bytes "7" ∷ bytes "7\n" ∷ bytes "007" ∷ [])
    ≡ [] ∷ bytes "a" ∷ bytes "a<" ∷ bytes "a<>" ∷ replicate 3 (bytes "a<>a<>a")
unfolding written asked_length number_at number_of value_from span cycle
pages = refl

accepted : map asked_length (bytes "00000\n" ∷ bytes "65536" ∷ bytes "65536\n" ∷ bytes "00012\n" ∷ []) ≡ Some 0 ∷ Some 65536 ∷ Some 65536 ∷ Some 12 ∷ []
unfolding asked_length number_at number_of value_from span
accepted = refl

refused : map asked_length (bytes "" ∷ bytes "\n" ∷ bytes "65537" ∷ bytes "000007" ∷ bytes "1\n\n" ∷ bytes " 1" ∷ bytes "1 " ∷ bytes "-1" ∷ [])
    ≡ replicate 8 None
unfolding asked_length number_at number_of value_from span
refused = refl
