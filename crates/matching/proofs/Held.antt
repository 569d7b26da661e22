-- What a lookup held, as an answer: a value lies before the tag's opening ends, so its bytes are those of the page that were handed back.
use mathlib.Core.Path.{◌≡◌, refl, ap, sym, ◌∙◌}
use mathlib.Core.Bool.{Bool}
use mathlib.Core.List.{List}
use Prim.Native.Nat.{ℕ, ◌≤◌}
use lib.ListN.{length}
use Rattle.rules.specs.Lookup.{answer, bytes_in, up_to, value}
use Rattle.rules.specs.Refusals.{held_part}
use Rattle.rules.specs.declared.Node.{Node}
use Rattle.rules.specs.declared.Held.{Held}
use Rattle.rules.specs.declared.Held.TheVariants.{Absent, Bare, Value}
use Rattle.laws.proofs.CutLexer.{part_cut}
use Rattle.tag.specs.Tag.{Looked}
use Rattle.matching.specs.Matching.{told_by}

pub held : (white : ℕ → Bool) (p b : List ℕ) (n : Node) (name : List ℕ) {r : Held} → Looked white p n name r
    → answer white p n name ≡ told_by r (held_part p b r)
unfolding answer
held white p b n name {r} l = ap (bytes_in (up_to p n)) (sym l.is) ∙ go r l.within
  where
    go : (v : Held) → ((a e : ℕ) → v ≡ Value a e → (a ≤ e) × (e ≤ n.opened) × (e ≤ length p))
        → bytes_in (up_to p n) v ≡ told_by v (held_part p b v)
    go Absent w = refl
    go Bare w = refl
    go (Value a e) w = ap value (part_cut p n.opened a e (w a e refl).1)
