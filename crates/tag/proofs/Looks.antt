-- A tag's row: the part of the page that is lent to a lookup is the page as the tag's lookups see it.
use mathlib.Core.Path.{◌≡◌, sym, ◌∙◌}
use mathlib.Core.Bool.{Bool}
use mathlib.Core.List.{List}
use Prim.Native.Nat.{ℕ, ◌≤◌}
use native.Mathlib.Omega.{arith}
use lib.ListN.{length}
use lib.Seq.{length-take-le}
use Rattle.rules.specs.Lookup.{lookup, lookup_from, up_to}
use Rattle.rules.specs.declared.Node.{Node}
use Rattle.rules.specs.declared.Held.{Held}
use Rattle.rules.proofs.Lookup.{lookup_inside}
use Rattle.tag.specs.Tag.{Looked}

module _ (p : List ℕ) (n : Node) (inside : n.opened ≤ length p) where
  pub length_up_to : length (up_to p n) ≡ n.opened
  length_up_to = length-take-le n.opened p inside

  -- r was looked up in that part, which is q
  pub looked : {q name : List ℕ} {white : ℕ → Bool} {r : Held} → q ≡ up_to p n → r ≡ lookup_from white q n.stop name → Looked white p n name r
  looked {name = name} {white = white} {r = r} cut looked_in =
      let is : r ≡ lookup white p n name = rw cut at looked_in in
      record {
        is = is;
        within =
            λ a e q.
            let w = rw (sym is ∙ q) at (lookup_inside white (up_to p n) n.stop name) in
            (w.0, omega (arith, w.1, length_up_to), omega (arith, w.1, length_up_to));
      }
