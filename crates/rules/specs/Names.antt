-- The 15 void names (`VOID_TAGS`), of tags that are never opened.
use Rattle.std.specs.Prelude.{Bool, false, ◌||◌, List, [], ◌∷◌, ℕ}
use Rattle.rules.specs.Ascii.{bytes}
use Rattle.rules.specs.Scan.{same}

-- xs is one of the names
unfoldable pub one_of : List ℕ → List (List ℕ) → Bool
one_of xs [] = false
one_of xs (n ∷ ns) = same xs n || one_of xs ns

abbrev pub void_names : List (List ℕ)
void_names =
    bytes "area"
    ∷ bytes "base"
    ∷ bytes "br"
    ∷ bytes "col"
    ∷ bytes "embed"
    ∷ bytes "hr"
    ∷ bytes "img"
    ∷ bytes "input"
    ∷ bytes "keygen"
    ∷ bytes "link"
    ∷ bytes "meta"
    ∷ bytes "param"
    ∷ bytes "source"
    ∷ bytes "track"
    ∷ bytes "wbr"
    ∷ []

abbrev pub is_void : List ℕ → Bool
is_void xs = one_of xs void_names
