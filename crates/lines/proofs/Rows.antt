-- The lines of the rows, one after the other, and what a sound table says of each row.
use mathlib.Core.Path.{◌≡◌, ap, ◌∙◌}
use mathlib.Core.Bool.{true}
use mathlib.Core.List.{List, ◌++◌, append_assoc, append-nil}
use Prim.Native.Nat.{ℕ, zero, suc, ◌+◌, ◌<◌}
use native.Mathlib.Numerals.{add-one}
use native.Mathlib.Omega.{arith}
use lib.ListN.{length}
use Rattle.rules.specs.Lists.{from, each}
use Rattle.rules.specs.Table.{node_at}
use Rattle.rules.specs.Sound.{count_of, sound}
use Rattle.rules.specs.declared.Node.{Node}
use Rattle.rules.proofs.Sound.{sound_rows}
use Rattle.lines.specs.Lines.{NameWithin}
use Rattle.lines.specs.Writer.{Puts}
use Rattle.lines.specs.declared.Writer.{Writer}
use Rattle.lines.proofs.Laws.{then}

-- one number more at the end
each_more : (f : ℕ → List ℕ) (lo k : ℕ) → each f (from lo (suc k)) ≡ each f (from lo k) ++ f (lo + k)
unfolding each from
each_more f lo zero = append-nil (f lo) ∙ ap f (omega arith)
each_more f lo (suc k) =
    let e : suc lo + k ≡ lo + suc k = omega arith in
    ap (λ (l : List ℕ). f lo ++ l) (each_more f (suc lo) k) ∙ rw (e, append_assoc)

pub then_row : (f : ℕ → List ℕ) {u v w : Writer} (h : ℕ) → Puts u (each f (from 0 h)) v → Puts v (f h) w → Puts u (each f (from 0 (h + 1))) w
then_row f h a b =
    let e : 0 + h ≡ h = omega arith in
    rw (add-one, each_more f 0 h, e) (then a b)

pub row_named : (p ws : List ℕ) (h : ℕ) {n : Node} → sound (length p) ws ≡ true → h < count_of ws → n ≡ node_at ws h → NameWithin p n
row_named p ws h s l e =
    rw e λ k. let row = sound_rows (length p) ws s h l in let t = row.tag k in (omega arith, omega arith)
