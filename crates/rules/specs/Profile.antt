-- A profile: how long a counterparty's pages may be, and what is white and which names are void in them, as 392 bytes. Bytes 0 to 3
-- are the limit, low byte first; 4 to 7 the white bytes, 0 where there is none; then come 24 places of 16 bytes, each a void name
-- followed by zeros, or all zeros where there is none.
use Rattle.std.specs.Prelude.{ℕ, ◌+◌, ◌*◌, ◌-◌, Bool, true, ◌≡◌, ◌&&◌, ◌||◌, List, [], ◌∷◌, ◌++◌, map, eqb, leb, ltb, length, get_or, take, replicate}
use Rattle.rules.specs.Bytes.{is_ident, is_white, between, is, other}
use Rattle.rules.specs.Scan.{skip, part}
use Rattle.rules.specs.Lists.{from}
use Rattle.rules.specs.Sound.{all}
use Rattle.rules.specs.Names.{one_of, is_void, void_names}

-- the longest page under any profile: its places and counts fit the words of a table
abbrev pub page_limit : ℕ
page_limit = 65536

module _ (q : List ℕ) where
  -- the longest page that is read
  unfoldable pub limit_of : ℕ
  limit_of = get_or q 0 0 + 256 * get_or q 1 0 + 65536 * get_or q 2 0 + 16777216 * get_or q 3 0

  -- b is one of the white bytes; 0 is none
  unfoldable pub white_of : ℕ → Bool
  white_of b = other 0 b && (is (get_or q 4 0) b || is (get_or q 5 0) b || is (get_or q 6 0) b || is (get_or q 7 0) b)

  -- where name i starts, and its byte j
  abbrev pub name_start : ℕ → ℕ
  name_start i = 8 + 16 * i

  abbrev pub name_byte : ℕ → ℕ → ℕ
  name_byte i j = get_or q (name_start i + j) 0

  -- name i: what stands in its 16 bytes before the first 0
  unfoldable pub void_name : ℕ → List ℕ
  void_name i = part q (name_start i) (skip (other 0) (take (name_start i + 16) q) (name_start i))

  -- xs is one of the names; the empty name is none
  unfoldable pub void_of : List ℕ → Bool
  void_of xs = ltb 0 (length xs) && one_of xs (map void_name (from 0 24))

  -- ---- the limits of a profile

  -- a byte of a name: 0, or an identifier byte, with no 0 before it in the name
  unfoldable pub name_byte_fine : ℕ → ℕ → Bool
  name_byte_fine i j = is 0 (name_byte i j) || is_ident (name_byte i j) && (eqb j 0 || other 0 (get_or q (name_start i + j - 1) 0))

  unfoldable pub name_fine : ℕ → Bool
  name_fine i = all (name_byte_fine i) 16

  -- the limit, and the white bytes
  unfoldable pub numbers_fine : Bool
  numbers_fine =
      between 1 page_limit limit_of && (leb (get_or q 4 0) 32 && leb (get_or q 5 0) 32 && leb (get_or q 6 0) 32 && leb (get_or q 7 0) 32)

  unfoldable pub profile_fine : Bool
  profile_fine = numbers_fine && all name_fine 24

-- ---- tl's profile: its 15 names, space and line feed, 65,536 bytes

-- names in their places
abbrev pub in_places : List (List ℕ) → List ℕ
in_places [] = []
in_places (n ∷ ns) = take 16 (n ++ replicate 16 0) ++ in_places ns

abbrev pub tl_profile : List ℕ
tl_profile = 0 ∷ 0 ∷ 1 ∷ 0 ∷ 32 ∷ 10 ∷ 0 ∷ 0 ∷ in_places void_names ++ replicate 144 0

-- ---- what the answers ask of a profile

-- whether it is within its limits; the longest page that is read; what is white; which names are void
pub record Settings : Type 0 where
  pub fine : Bool
  pub limit : ℕ
  pub white : ℕ → Bool
  pub void : List ℕ → Bool

abbrev pub settings_of : List ℕ → Settings
settings_of q = record { fine = profile_fine q; limit = limit_of q; white = white_of q; void = void_of q }

-- the rules without a profile
abbrev pub base : Settings
base = record { fine = true; limit = page_limit; white = is_white; void = is_void }

-- The theorem on tl's profile: it sets what the rules without a profile say, and so every answer with it is the one without.
abbrev pub AsWithout : Type 0
AsWithout = settings_of tl_profile ≡ base
