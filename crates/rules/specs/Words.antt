-- Values as text: cut into words, and compared byte for byte.
use Rattle.std.specs.Prelude.{ℕ, zero, suc, pred, ◌-◌, Bool, not, ◌&&◌, ◌||◌, ◌≡◌, List, [], ◌∷◌, ◌++◌, length, take, drop, eqb, leb}
use Rattle.rules.specs.Scan.{pick, same}

-- xs begins with v, ends in v, has v in it; the empty v is in every xs
abbrev pub begins : List ℕ → List ℕ → Bool
begins v xs = same (take (length v) xs) v

abbrev pub ends : List ℕ → List ℕ → Bool
ends v xs = leb (length v) (length xs) && same (drop (length xs - length v) xs) v

unfoldable pub contains : List ℕ → List ℕ → Bool
contains v [] = begins v []
contains v (x ∷ xs) = begins v (x ∷ xs) || contains v xs

-- the same with the place: v lies between two parts of xs
pub record Within (v xs : List ℕ) : Type 0 where
  pub before : List ℕ
  pub after : List ℕ
  pub is : xs ≡ before ++ (v ++ after)

-- the length of the separator at the front of xs, or 0
unfoldable pub gap : List (List ℕ) → List ℕ → ℕ
gap [] xs = 0
gap (s ∷ ss) xs = let more = gap ss xs in pick (begins s xs) (length s) more

-- a word before others; an empty one is none
abbrev pub word : List ℕ → List (List ℕ) → List (List ℕ)
word [] ws = ws
word (x ∷ xs) ws = (x ∷ xs) ∷ ws

-- the words in xs, where w is the word so far, and k bytes of a separator are still to be passed
unfoldable pub words_from : List (List ℕ) → List ℕ → ℕ → List ℕ → List (List ℕ)
words_from seps w k [] = word w []
words_from seps w (suc k) (x ∷ xs) = words_from seps w k xs
words_from seps w zero (x ∷ xs) =
    let n = gap seps (x ∷ xs) in
    let on = words_from seps (w ++ (x ∷ [])) zero xs in
    let next = words_from seps [] (pred n) xs in
    pick (eqb n 0) on (word w next)

-- xs, cut at the separators
abbrev pub words : List (List ℕ) → List ℕ → List (List ℕ)
words seps xs = words_from seps [] zero xs

-- how many of the words are k
unfoldable pub times : List ℕ → List (List ℕ) → ℕ
times k [] = 0
times k (w ∷ ws) = let n = times k ws in pick (same w k) (suc n) n

-- the HTML Standard's five ASCII white bytes, at which class values are cut
abbrev pub ascii_white : List (List ℕ)
ascii_white = (9 ∷ []) ∷ (10 ∷ []) ∷ (12 ∷ []) ∷ (13 ∷ []) ∷ (32 ∷ []) ∷ []

-- Unicode White_Space in UTF-8, at which `~=` cuts: U+0009-000D, 0020, 0085, 00A0, 1680, 2000-200A, 2028, 2029, 202F, 205F, 3000
abbrev pub unicode_white : List (List ℕ)
unicode_white =
    (9 ∷ [])
    ∷ (10 ∷ [])
    ∷ (11 ∷ [])
    ∷ (12 ∷ [])
    ∷ (13 ∷ [])
    ∷ (32 ∷ [])
    ∷ (194 ∷ 133 ∷ [])
    ∷ (194 ∷ 160 ∷ [])
    ∷ (225 ∷ 154 ∷ 128 ∷ [])
    ∷ (226 ∷ 128 ∷ 128 ∷ [])
    ∷ (226 ∷ 128 ∷ 129 ∷ [])
    ∷ (226 ∷ 128 ∷ 130 ∷ [])
    ∷ (226 ∷ 128 ∷ 131 ∷ [])
    ∷ (226 ∷ 128 ∷ 132 ∷ [])
    ∷ (226 ∷ 128 ∷ 133 ∷ [])
    ∷ (226 ∷ 128 ∷ 134 ∷ [])
    ∷ (226 ∷ 128 ∷ 135 ∷ [])
    ∷ (226 ∷ 128 ∷ 136 ∷ [])
    ∷ (226 ∷ 128 ∷ 137 ∷ [])
    ∷ (226 ∷ 128 ∷ 138 ∷ [])
    ∷ (226 ∷ 128 ∷ 168 ∷ [])
    ∷ (226 ∷ 128 ∷ 169 ∷ [])
    ∷ (226 ∷ 128 ∷ 175 ∷ [])
    ∷ (226 ∷ 129 ∷ 159 ∷ [])
    ∷ (227 ∷ 128 ∷ 128 ∷ [])
    ∷ []

-- k is one of the words of xs
abbrev pub has_word : List (List ℕ) → List ℕ → List ℕ → Bool
has_word seps k xs = not (eqb (times k (words seps xs)) 0)
