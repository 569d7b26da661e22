-- The three words of a handle.
use mathlib.Core.Path.{◌≡◌, refl}
use mathlib.Core.Bool.{Bool}
use mathlib.Core.List.{List}
use Prim.Native.Nat.{ℕ, ◌≤◌}
use native.Mathlib.Omega.{arith}
use lib.ListN.{length}
use Rattle.rules.specs.Profile.{page_limit, white_of, settings_of}
use Rattle.rules.specs.Table.{node_at}
use Rattle.rules.specs.Lookup.{Inside, lookup}
use Rattle.rules.specs.Refusals.{held_numbers}
use Rattle.rules.specs.Batch.{three_of}
use Rattle.rules.specs.declared.Node.{Node}
use Rattle.rules.specs.declared.Held.{Held}
use Rattle.rules.specs.declared.Held.TheVariants.{Absent, Bare, Value}
use Rattle.tag.specs.Tag.{Looked}
use Rattle.attributes.proofs.Words.{held_length}

inside : (n : ℕ) (v : Held) → ((a e : ℕ) → v ≡ Value a e → (a ≤ e) × (e ≤ n)) → Inside n v
inside n Absent f = tt
inside n Bare f = tt
inside n (Value a e) f = f a e refl

-- the places of what was looked up lie in its page, and so within the longest one
pub held_inside : {white : ℕ → Bool} {p k : List ℕ} {n : Node} {v : Held} → Looked white p n k v → length p ≤ page_limit → Inside page_limit v
held_inside {v = v} l few = inside page_limit v (λ a e r. let i = l.within a e r in (i.0, omega (arith, i.2, few)))

module _ (q p ws k : List ℕ) (h : ℕ) where
  abbrev pub three : List ℕ
  three = three_of (settings_of q) p ws h k

  pub three_length : length three ≡ 3
  three_length = held_length (lookup (white_of q) p (node_at ws h) k)

  -- v was looked up there
  pub three_held : {white : ℕ → Bool} → white ≡ white_of q → {n : Node} → n ≡ node_at ws h → {v : Held} → Looked white p n k v
      → three ≡ held_numbers v
  three_held w e l = rw (l.is, w, e)
