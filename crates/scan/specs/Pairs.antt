-- Two bytes at a distance.
use Rattle.std.specs.Prelude.{◌≡◌, Bool, false, ◌&&◌, List, ℕ, ◌+◌, ◌≤◌, ◌<◌, eqb, get_or}

-- P holds at no place from lo up to hi
abbrev pub Nowhere : (ℕ → Bool) → ℕ → ℕ → Type 0
Nowhere P lo hi = (x : ℕ) → lo ≤ x → x < hi → P x ≡ false

-- a stands at place x, and b d bytes after it
abbrev pub pair_at : List ℕ → ℕ → ℕ → ℕ → ℕ → Bool
pair_at s d a b x = eqb (get_or s x 0) a && eqb (get_or s (x + d) 0) b
