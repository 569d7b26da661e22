-- A run of bytes by a test that code makes.
use Rattle.std.specs.Prelude.{◌≡◌, ℕ, ◌<◌, Bool, List}
use Rattle.rules.specs.Scan.{skip}

-- what a test answers, as `answers b r`, is P
abbrev pub Decides : (ℕ → Bool → Type 0) → (ℕ → Bool) → Type 0
Decides answers P = (b : ℕ) → b < 256 → (r : Bool) → answers b r → r ≡ P b

-- r is where the run from `at` ends by each P that the test decides
abbrev pub Skips : (ℕ → Bool → Type 0) → List ℕ → ℕ → ℕ → Type 0
Skips answers s at r = (P : ℕ → Bool) → Decides answers P → r ≡ skip P s at
