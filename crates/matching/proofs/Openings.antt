-- A tag's values lie in its opening, and a value that fits has k within. So where k is not within the opening, none fits.
use mathlib.Core.Path.{◌≡◌, refl, sym}
use mathlib.Core.Bool.{Bool, true, false}
use mathlib.Core.List.{List}
use Prim.Native.Nat.{ℕ, ◌≤◌, ◌<◌}
use native.Mathlib.Omega.{arith}
use lib.ListN.{length}
use lib.Seq.{length-take-le}
use Rattle.rules.specs.Scan.{part}
use Rattle.rules.specs.Words.{Within, ascii_white, has_word}
use Rattle.rules.specs.Lookup.{Inside, Answer, absent, bare, value, answer, bytes_in, lookup, up_to}
use Rattle.rules.specs.Finds.{valued, held_times}
use Rattle.rules.specs.declared.Node.{Node}
use Rattle.rules.specs.declared.Held.{Held}
use Rattle.rules.specs.declared.Held.TheVariants.{Absent, Bare, Value}
use Rattle.rules.proofs.Lookup.{lookup_inside}
use Rattle.rules.proofs.Within.{within_part, times_none}
use Rattle.laws.proofs.CutLexer.{part_cut}
use Rattle.laws.proofs.Opening.{From, lookup_from_lem}

module _ (k : List ℕ) where
  -- k is not within the value
  abbrev Out : Answer → Type 0
  Out absent = Unit {0}
  Out bare = Unit {0}
  Out (value v) = Within k v → ⊥

  -- a test passes no value that k is not within, if what passes has k within
  pub passes_none : (P : List ℕ → Bool) → ((v : List ℕ) → P v ≡ true → Within k v) → (v : List ℕ) → (Within k v → ⊥) → P v ≡ false
  passes_none P holds v out = go (P v) (holds v)
    where
      go : (b : Bool) → (b ≡ true → Within k v) → b ≡ false
      go true h = absurd (out (h refl))
      go false h = refl

  pub word_none : (seps : List (List ℕ)) (v : List ℕ) → (Within k v → ⊥) → has_word seps k v ≡ false
  word_none seps v out = rw (times_none k seps v out)

  valued_out : (P : List ℕ → Bool) → ((v : List ℕ) → (Within k v → ⊥) → P v ≡ false) → (a : Answer) → Out a → false ≡ valued P a
  valued_out P none absent out = refl
  valued_out P none bare out = refl
  valued_out P none (value v) out = sym (none v out)

  times_out : (a : Answer) → Out a → 0 ≡ held_times k a
  times_out absent out = refl
  times_out bare out = refl
  times_out (value v) out = sym (times_none k ascii_white v out)

  module _ (white : ℕ → Bool) (p : List ℕ) (n : Node) (opening : (n.stop < n.opened) × (n.opened ≤ length p))
      (out : Within k (part p n.stop n.opened) → ⊥) (name : List ℕ)
    where
      answer_out : Out (answer white p n name)
      unfolding answer
      answer_out =
          go (lookup white p n name) (lookup_inside white q n.stop name) (lookup_from_lem white q n.stop (omega (arith, size)) name)
        where
          q : List ℕ
          q = up_to p n

          size : length q ≡ n.opened
          size = length-take-le n.opened p opening.1

          go : (r : Held) → Inside (length q) r → From n.stop r → Out (bytes_in q r)
          go Absent i f = tt
          go Bare i f = tt
          go (Value a e) i f =
              λ w. out (rw (part_cut p n.opened n.stop n.opened (omega arith)) at (within_part q n.stop a e n.opened f i.0 (omega (arith, i.1, size)) w))

      pub no_value : (P : List ℕ → Bool) → ((v : List ℕ) → (Within k v → ⊥) → P v ≡ false) → false ≡ valued P (answer white p n name)
      no_value P none = valued_out P none (answer white p n name) answer_out

      pub no_times : 0 ≡ held_times k (answer white p n name)
      no_times = times_out (answer white p n name) answer_out
