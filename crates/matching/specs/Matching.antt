-- What is told of a value, what is asked of a row, and what a piece settles.
use Rattle.std.specs.Prelude.{◌≡◌, Bool, true, false, List, ℕ, ◌≤◌, ◌<◌, length, Option, Some, None}
use Rattle.rules.specs.Scan.{pick}
use Rattle.rules.specs.Words.{Within}
use Rattle.rules.specs.Lookup.{Answer, absent, bare, value}
use Rattle.rules.specs.Finds.{valued}
use Rattle.rules.specs.declared.Node.{Node}
use Rattle.rules.specs.declared.Held.{Held}
use Rattle.rules.specs.declared.Held.TheVariants.{Absent, Bare, Value}
use Rattle.rules.specs.declared.Joiner.{Joiner}
use Rattle.rules.specs.declared.Joiner.TheVariants.{End, And, Or, Descendant, Parent}

-- what a lookup answers, by which of the three held and the bytes that it handed back
abbrev pub told_by : Held → List ℕ → Answer
told_by Absent v = absent
told_by Bare v = bare
told_by (Value a e) v = value v

-- r tells whether the answer is a value that passes a test; R says what the test returns, and only a value with k within may pass
abbrev pub ValueFits : (List ℕ → Bool → Type 0) → List ℕ → Answer → Bool → Type 0
ValueFits R k held r =
    (P : List ℕ → Bool) → ((v : List ℕ) (b : Bool) → R v b → b ≡ P v) → ((v : List ℕ) → (Within k v → ⊥) → P v ≡ false) → r ≡ valued P held

-- a tag's name ends before its opening does, and that lies in the page
abbrev pub OpeningInPage : List ℕ → Node → Type 0
OpeningInPage p n = n.kind ≡ 1 → (n.stop < n.opened) × (n.opened ≤ length p)

-- what a piece with this joiner, which fits or not, settles of its chain
abbrev pub decided : Joiner → Bool → Option Bool
decided End fits = Some fits
decided And fits = pick fits None (Some false)
decided Or fits = pick fits (Some true) None
decided Descendant fits = Some false
decided Parent fits = Some false
