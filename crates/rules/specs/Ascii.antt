-- Bytes written as text.
use Rattle.std.specs.Prelude.{ℕ}
use Prim.Native.Char.{code}
use Prim.Native.String.{String, [], ◌∷◌}
use mathlib.Core.List as L

-- the bytes of an ASCII text
abbrev pub bytes : String → L.List ℕ
bytes [] = L.[]
bytes (c ∷ s) = L.◌∷◌ (code c) (bytes s)
