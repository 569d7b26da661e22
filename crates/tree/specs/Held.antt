-- What a table and a state hold while a page is read, and what a step does to it.
use Rattle.std.specs.Prelude.{◌≡◌, Bool, List, [], ◌∷◌, ℕ, ◌+◌, ◌-◌, ◌≤◌, ◌<◌, length, Option, Some, None, ⊤}
use Rattle.rules.specs.Scan.{pick}
use Rattle.rules.specs.Reader.{Reading, node, parent_of, with_last}
use Rattle.rules.specs.Table.{row_at, row_words, node_at, put_row, Filled}
use Rattle.rules.specs.Profile.{page_limit}
use Rattle.rules.specs.declared.Item.{Item}
use Rattle.rules.specs.declared.Item.TheVariants.{Text, Close, Comment, Doctype, Tag, Nothing}
use Rattle.rules.specs.declared.Node.{Node}
use Rattle.rules.specs.declared.State.{State}

-- ---- what is held

-- the open tags hs, innermost first, are the innermost one and its parents in word 6
abbrev pub OpenChain : List Node → List ℕ → Type 0
OpenChain ns [] = Unit {0}
OpenChain ns (h ∷ hs) = (h < length ns) × ((node ns h).parent ≡ parent_of hs) × (parent_of hs ≤ h) × OpenChain ns hs

-- the table t₁ is t with the header hd and the rows of ns, of which hs are open; inner is the innermost of them plus 1
pub record Rows (t₁ t hd : List ℕ) (ns : List Node) (hs : List ℕ) (inner : ℕ) : Type 0 where
  pub filled : Filled t₁ t hd ns
  pub chained : OpenChain ns hs
  pub innermost : inner ≡ parent_of hs

-- the table t₁ and the state s hold the reading R
pub record Represents (t₁ t hd : List ℕ) (R : Reading) (s : State) : Type 0 where
  pub rows : Rows t₁ t hd R.nodes R.opens s.inner
  pub at : s.at ≡ R.at
  pub count : s.count ≡ length R.nodes
  pub version : s.version ≡ R.version

-- ---- what a step does

-- The table t₁ and the state s became t₂ and r: whatever reading they held, they now hold F of it, or there was no room, since F of
-- it has more nodes than the table has rows.
pub record Step (F : Reading → Reading) (t₁ : List ℕ) (s : State) (t₂ : List ℕ) (r : Option State) : Type 0 where
  pub held : (t hd : List ℕ) (R : Reading) (s₂ : State) → Represents t₁ t hd R s → r ≡ Some s₂ → Represents t₂ t hd (F R) s₂
  pub full : (t hd : List ℕ) (R : Reading) → Represents t₁ t hd R s → r ≡ None → length t₁ < row_at (length (F R).nodes)

abbrev pub moved_to : State → ℕ → State
moved_to s at = record { at = at; count = s.count; inner = s.inner; version = s.version }

abbrev pub added_to : State → ℕ → ℕ → State
added_to s at inner = record { at = at; count = s.count + 1; inner = inner; version = s.version }

abbrev pub version_to : State → Bool → ℕ → State
version_to s html at = record { at = at; count = s.count; inner = s.inner; version = pick html 5 s.version }

-- the node n was written to row h of the table t₁, which has that row
pub record Written (t₁ : List ℕ) (h : ℕ) (n : Node) (t₂ : List ℕ) : Type 0 where
  pub words : t₂ ≡ put_row t₁ h n
  pub room : row_at h + row_words ≤ length t₁

-- it was, or there was no room for it
pub record Registered (t₁ : List ℕ) (h : ℕ) (n : Node) (t₂ : List ℕ) (r : Option ⊤) : Type 0 where
  pub row : r ≡ Some tt → Written t₁ h n t₂
  pub full : r ≡ None → length t₁ < row_at h + row_words

-- ---- what a step asks

-- the table has the rows so far, and the numbers of a new row fit its words
pub record RowRoom (t : List ℕ) (s : State) : Type 0 where
  pub rows : row_at s.count ≤ length t
  pub few : s.count < page_limit
  pub at : s.at ≤ page_limit

-- a part of a page of n bytes
abbrev pub IsPart : ℕ → ℕ → ℕ → Type 0
IsPart n a e = (a ≤ e) × (e ≤ n)

-- the innermost open tag has a row, and its name is a part of a page of n bytes
pub record Inner (t : List ℕ) (s : State) (n : ℕ) : Type 0 where
  pub below : s.inner ≤ s.count
  pub name : 0 < s.inner → IsPart n (node_at t (s.inner - 1)).name (node_at t (s.inner - 1)).stop

-- an item that begins at `at` lies in a page of n bytes
abbrev pub Fits : ℕ → ℕ → Item → Type 0
Fits n at (Text e) = IsPart n at e
Fits n at (Close a e x) = IsPart n a e × (x ≤ n)
Fits n at (Comment a e x) = IsPart n a e × (x ≤ n)
Fits n at (Doctype h x) = x ≤ n
Fits n at (Tag a e x s) = IsPart n a e × (x ≤ n)
Fits n at (Nothing x) = x ≤ n

-- ---- the end of the page

-- some tags of the table t₁ are open
pub record Open (t₁ : List ℕ) (inner : ℕ) : Type 0 where
  pub t : List ℕ
  pub hd : List ℕ
  pub ns : List Node
  pub hs : List ℕ
  pub rows : Rows t₁ t hd ns hs inner

-- whatever tags were open, they got their last descendant
pub record Settled (t₁ : List ℕ) (inner last : ℕ) (t₂ : List ℕ) : Type 0 where
  pub filled : (t hd : List ℕ) (ns : List Node) (hs : List ℕ) → Rows t₁ t hd ns hs inner → Filled t₂ t hd (with_last last hs ns)
