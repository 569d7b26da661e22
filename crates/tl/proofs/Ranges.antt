-- A range that is answered ascends.
use Rattle.std.proofs.Common.{Option, Some, Ok, suc}
use Prim.Native.Nat.{ℕ}
use mathlib.Core.Path.{◌≡◌, subst}
use mathlib.Core.Bool.{true}
use mathlib.Core.List.{List}
use lib.Dec.{ltb}
use borrow.Author.Tests.{ltb-true}
use native.Mathlib.Omega.{arith}
use Rattle.rules.specs.Profile.{Settings}
use Rattle.rules.specs.Sound.{last_at}
use Rattle.rules.specs.Refusals.{profile_not_fine, page_too_long, table_not_sound, not_a_tag}
use Rattle.rules.specs.Answers.{range_answer}
use Rattle.rules.proofs.Pick.{cases}
use Rattle.tl.specs.Exports.{Ascending}

-- a handle below its last
ascends : (h last : ℕ) → ltb h last ≡ true → Ascending (Ok (Some (suc h, last)))
ascends h last e = (omega arith, omega (arith, ltb-true h last e))

pub range_ascends : (f : Settings) (p ws : List ℕ) (h : ℕ) → Ascending (range_answer f p ws h)
unfolding range_answer
range_ascends f p ws h =
    cases Ascending (profile_not_fine f) (λ _. tt)
    (λ _. cases Ascending (page_too_long f p) (λ _. tt)
    (λ _. cases Ascending (table_not_sound p ws) (λ _. tt)
    (λ _. cases Ascending (not_a_tag ws h) (λ _. tt)
    (λ _. cases (λ (r : Option (ℕ × ℕ)). Ascending (Ok r)) (ltb h (last_at ws h)) (ascends h (last_at ws h)) (λ _. tt)))))

-- so does what a call answered
pub ascends_at : (f : Settings) (p ws : List ℕ) (h : ℕ) {x : Option (ℕ × ℕ)} → range_answer f p ws h ≡ Ok x → Ascending (Ok x)
ascends_at f p ws h e = subst Ascending e (range_ascends f p ws h)
