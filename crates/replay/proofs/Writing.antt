-- The lines of calls that write buffers.
use mathlib.Core.Path.{sym, subst}
use mathlib.Core.List.{List, [], ◌∷◌, ◌++◌}
use Prim.Native.Nat.{ℕ}
use Rattle.lines.specs.declared.Writer.{Writer}
use Rattle.lines.specs.Writer.{Puts}
use Rattle.std.proofs.lemmas.Grind.{flat_map-append}
use Rattle.tl.specs.Exports.{Exports, ExportsBoth}
use Rattle.std.specs.Prelude.{decimal, Result}
use Rattle.lines.specs.Lines.{field, line_feed}
use Rattle.records.specs.Printed.{fields, line}
use Rattle.replay.specs.Printed.{Prints, PrintsBoth}
use Rattle.rules.specs.declared.Refusal.{Refusal}

-- a line's numbers in two lists are one
pub joined : {u v : Writer} (word ns ms : List ℕ) → Puts u (word ++ ((fields ns ++ fields ms) ++ line_feed)) v → Puts u (line word (ns ++ ms)) v
unfolding line
joined {u} {v} word ns ms w =
    subst (λ (l : List ℕ). Puts u (word ++ (l ++ line_feed)) v) (sym (flat_map-append (λ m. field (decimal m)) ns ms)) w

-- the line of a call that writes one buffer
pub prints : {u v : Writer} {word : List ℕ} {answer : Result ℕ Refusal} {buffer : List ℕ} {n k : ℕ} {left : List ℕ}
    → Exports answer buffer n k left → Puts u (word ++ ((fields (n ∷ k ∷ []) ++ fields left) ++ line_feed)) v
    → Prints u word answer buffer v left
prints {word = word} {n = n} {k = k} {left = left} e w =
    record { printed = rw (← e.is, ← e.left) (joined word (n ∷ k ∷ []) left w); kept = e.left }

-- the line of a call that writes two
pub prints_both : {u v : Writer} {word : List ℕ} {answer : Result ℕ Refusal} {places texts : List ℕ} {n k : ℕ} {ends left : List ℕ}
    → ExportsBoth answer places texts n k ends left
    → Puts u (word ++ ((fields (n ∷ k ∷ []) ++ (fields ends ++ fields left)) ++ line_feed)) v
    → PrintsBoth u word answer places texts v ends left
prints_both {u} {v} {word} {n = n} {k = k} {ends = ends} {left = left} e w =
    let both = sym (flat_map-append (λ m. field (decimal m)) ends left) in
    let p = subst (λ (l : List ℕ). Puts u (word ++ ((fields (n ∷ k ∷ []) ++ l) ++ line_feed)) v) both w in
    record {
      printed = rw (← e.is, ← e.ends_left, ← e.out_left) (joined word (n ∷ k ∷ []) (ends ++ left) p);
      ends_kept = e.ends_left;
      kept = e.out_left;
    }
