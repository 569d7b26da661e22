-- Rows without text, and where to look for text.
use Rattle.std.specs.Prelude.{◌&&◌, ◌≡◌, List, [], ℕ, ◌+◌, ◌*◌, ◌/◌, ◌%◌, ◌≤◌, ◌<◌, eqb, ltb, length, get_or}
use Rattle.rules.specs.Scan.{pick}
use Rattle.rules.specs.Sound.{count_of}
use Rattle.rules.specs.Text.{text_at}

-- no row from a up to e has text
abbrev pub NoText : List ℕ → List ℕ → ℕ → ℕ → Type 0
NoText p ws a e = (j : ℕ) → a ≤ j → j < e → text_at p ws j ≡ []

-- the rows from k up to r can be passed over
abbrev pub Passes : List ℕ → List ℕ → ℕ → ℕ → Type 0
Passes p ws k r = (k ≤ r) × (r ≤ count_of ws) × NoText p ws k r

-- n places, one for every `step`-th row, are no more than count rows want
pub record Covers (count step n : ℕ) : Type 0 where
  pub some : 0 < step
  pub below : step * n < count + step

-- where to look for text from row k on: what is filled in for k, or k itself
abbrev pub next_text : List ℕ → ℕ → ℕ → ℕ
next_text skip step k = pick (eqb (k % step) 0 && ltb (k / step) (length skip)) (get_or skip (k / step) 0) k

-- what is filled in leaves no text out
pub record PassesNoText (p ws : List ℕ) (step : ℕ) (skip : List ℕ) : Type 0 where
  pub some : 0 < step
  pub passes : (j : ℕ) → j < length skip → Passes p ws (step * j) (get_or skip j 0)
