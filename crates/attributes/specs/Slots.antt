-- A table of 256 slots, by which an attribute's name leads to the one of several names that it may be.
use Rattle.std.specs.Prelude.{◌≡◌, List, ◌∷◌, ℕ, suc, ◌+◌, ◌-◌, ◌%◌, ◌≤◌, ◌<◌, length, get_or}
use Rattle.rules.specs.Scan.{part}
use Rattle.rules.specs.Words.{Within}

-- name j of the text s: it starts where the one before ends, and ends at its place
abbrev pub name_at : List ℕ → List ℕ → ℕ → List ℕ
name_at s es j = part s (get_or (0 ∷ es) j 0) (get_or es j 0)

-- by a name's length and its last byte
unfoldable pub slot_of : List ℕ → ℕ
slot_of k = (length k + get_or k (length k - 1) 0) % 256

-- what the slot of several names holds, and of one whose number is too large for a byte
abbrev pub many : ℕ
many = 255

-- The slots t of the first n names: the slot of name j holds j + 1, or `many`, and no other slot leads past the names. So a slot
-- that holds 0 is no name's.
pub record Slotted (s es : List ℕ) (n : ℕ) (t : List ℕ) : Type 0 where
  pub size : length t ≡ 256
  pub leads : (j : ℕ) → j < n → get_or t (slot_of (name_at s es j)) 0 < many → get_or t (slot_of (name_at s es j)) 0 ≡ suc j
  pub inside : (i : ℕ) → get_or t i 0 < many → get_or t i 0 ≤ n

-- each name has k within: so a tag in whose opening k does not stand has none of them
abbrev pub AllHave : List ℕ → List ℕ → List ℕ → Type 0
AllHave s es k = (j : ℕ) → j < length es → Within k (name_at s es j)
