-- Reading a page by steps: what holds of every reading, and what the calls do to the table and the state that hold it.
use Rattle.std.specs.Prelude.{◌≡◌, Bool, List, ℕ, ◌≤◌, ◌<◌, length, Option, Some, None}
use Rattle.rules.specs.Profile.{page_limit}
use Rattle.rules.specs.Facts.{Fine}
use Rattle.rules.specs.Reader.{Reading, steps, finished}
use Rattle.rules.specs.Table.{row_at, head_of, filled}
use Rattle.rules.specs.declared.State.{State}
use Rattle.tree.specs.Held.{Represents}

-- ---- the steps

-- what holds of every reading of the page p: its nodes are sound, and at most as many as the bytes read
pub record Good (p : List ℕ) (R : Reading) : Type 0 where
  pub fine : Fine R
  pub few : length R.nodes ≤ R.at
  pub within : R.at ≤ length p

-- the table t₁ and the state s hold a reading of p
pub record HoldsPage (p t₁ : List ℕ) (s : State) : Type 0 where
  pub t : List ℕ
  pub hd : List ℕ
  pub R : Reading
  pub held : Represents t₁ t hd R s
  pub good : Good p R

-- The table t₁ and the state s became t₂ and r by n steps: whatever reading of p they held, they now hold it n steps later, or there
-- was no room, since n steps later it has more nodes than the table has rows.
pub record Run (white : ℕ → Bool) (void : List ℕ → Bool) (p : List ℕ) (n : ℕ)
    (t₁ : List ℕ) (s : State) (t₂ : List ℕ) (r : Option State) : Type 0 where
  pub held : (t hd : List ℕ) (R : Reading) (s₂ : State) → Represents t₁ t hd R s → Good p R → r ≡ Some s₂
      → Represents t₂ t hd (steps white void p n R) s₂
  pub full : (t hd : List ℕ) (R : Reading) → Represents t₁ t hd R s → Good p R → r ≡ None
      → length t₁ < row_at (length (steps white void p n R).nodes)

-- ---- the end

-- the table t₁ and the state s hold a reading with no more nodes than a page may have bytes
pub record HoldsReading (t₁ : List ℕ) (s : State) : Type 0 where
  pub t : List ℕ
  pub hd : List ℕ
  pub R : Reading
  pub held : Represents t₁ t hd R s
  pub few : s.count ≤ page_limit

-- whatever reading was held, the table is now that reading's, its header written and its open tags settled
pub record Finished (t₁ : List ℕ) (s : State) (len : ℕ) (t₂ : List ℕ) : Type 0 where
  pub words : (t hd : List ℕ) (R : Reading) → Represents t₁ t hd R s → t₂ ≡ filled t (head_of s.count s.version len) (finished R).nodes
