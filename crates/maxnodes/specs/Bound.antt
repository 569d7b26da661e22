-- The most nodes that a page of n bytes may have, and a page that has them.
use Rattle.std.specs.Prelude.{ℕ, zero, suc, ◌+◌, ◌*◌, ◌/◌, ◌≤◌, ◌<◌, true, ◌≡◌, List, [], ◌∷◌, length, eqb, Ok, Err}
use Rattle.rules.specs.Scan.{pick}
use Rattle.rules.specs.Table.{row_at}
use Rattle.rules.specs.Profile.{page_limit, limit_of, profile_fine, Settings, settings_of}
use Rattle.rules.specs.Answers.{reading, parse_answer}
use Rattle.rules.specs.declared.Refusal.TheVariants.{TableTooSmall}

-- ---- the words of the statement

-- rounded down
abbrev pub max_nodes : ℕ → ℕ
max_nodes n = (2 * n + 1) / 3

abbrev pub nodes_of : Settings → List ℕ → ℕ
nodes_of f p = length (reading f p).nodes

-- `<` follows `a`, `>` follows `<`, and then comes `a` again
abbrev pub following : ℕ → ℕ
following b = pick (eqb b 97) 60 (pick (eqb b 60) 62 97)

-- n bytes, of which the first is b
unfoldable pub cycle : ℕ → ℕ → List ℕ
cycle b zero = []
cycle b (suc n) = b ∷ cycle (following b) n

-- the first n bytes of `a<>a<>a<>` and so on
abbrev pub densest : ℕ → List ℕ
densest n = cycle 97 n

-- ---- the statement

-- p has n bytes and the most nodes that so many bytes may have; reading it takes the rows of these, no row more and no row less
pub record Attains (f : Settings) (n : ℕ) (p : List ℕ) : Type 0 where
  pub size : length p ≡ n
  pub nodes : nodes_of f p ≡ max_nodes n
  pub enough : (words : ℕ) → row_at (max_nodes n) ≤ words → parse_answer f p words ≡ Ok (max_nodes n)
  pub too_few : (words : ℕ) → words < row_at (max_nodes n) → parse_answer f p words ≡ Err TableTooSmall

-- U13, for every profile
pub record NodeBound : Type 0 where
  -- no page has more nodes, whatever is white and whichever names are void, and none that is read more than the longest may have
  pub bound : (f : Settings) (p : List ℕ) → nodes_of f p ≤ max_nodes (length p)
  pub most : (q p : List ℕ) (words n : ℕ) → parse_answer (settings_of q) p words ≡ Ok n → n ≤ max_nodes page_limit
  -- so many rows are enough for every page that is not too long
  pub rows : (q : List ℕ) → profile_fine q ≡ true → (p : List ℕ) → length p ≤ limit_of q
      → (words : ℕ) → row_at (max_nodes (length p)) ≤ words → parse_answer (settings_of q) p words ≡ Ok (nodes_of (settings_of q) p)
  -- for each length some page has so many nodes
  pub attained : (q : List ℕ) → profile_fine q ≡ true → (n : ℕ) → n ≤ limit_of q → Attains (settings_of q) n (densest n)
