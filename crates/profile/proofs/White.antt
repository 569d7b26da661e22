-- The white bytes of a profile, set one after the other.
use mathlib.Core.Path.{◌≡◌, refl, ◌∙◌}
use mathlib.Core.Bool.{Bool, true, false, not, ◌&&◌, ◌||◌}
use mathlib.Core.List.{List}
use Prim.Native.Nat.{ℕ, zero, suc, ◌+◌, ◌≤◌, ◌<◌}
use native.Mathlib.Omega.{arith}
use lib.ListN.{get_or, take, drop}
use lib.Seq.{get_or-take, get_or-drop}
use Rattle.rules.specs.Bytes.{is}
use Rattle.rules.specs.Scan.{pick}
use Rattle.rules.proofs.Profile.{FineProfile}

-- b is one of the first k of them
abbrev pub among : List ℕ → ℕ → ℕ → Bool
among q zero b = false
among q (suc k) b = among q k b || is (get_or q (4 + k) 0) b

-- one of the four
pub white_byte : (q : List ℕ) (k : ℕ) → k < 4 → get_or (take 4 (drop 4 q)) k 0 ≡ get_or q (4 + k) 0
white_byte q k h = get_or-take 4 (drop 4 q) k 0 h ∙ get_or-drop 4 q k 0

pub white_low : {q : List ℕ} → FineProfile q → (k : ℕ) → k < 4 → get_or q (4 + k) 0 ≤ 32
white_low F zero h = F.white4
white_low F (suc zero) h = F.white5
white_low F (suc (suc zero)) h = F.white6
white_low F (suc (suc (suc zero))) h = F.white7
white_low F (suc (suc (suc (suc k)))) h = absurd (omega arith)

-- none is left of the base table's
pub cleared : (s l : Bool) → pick s false (pick l false (s || l)) ≡ false
cleared true l = refl
cleared false true = refl
cleared false false = refl

-- one more
pub one_more : (v w : Bool) → pick v true w ≡ (w || v)
one_more true true = refl
one_more true false = refl
one_more false true = refl
one_more false false = refl

-- and 0 cleared
pub laid : (z a b c d : Bool) → pick z false ((((false || a) || b) || c) || d) ≡ (not z && (a || b || c || d))
laid true a b c d = refl
laid false true b c d = refl
laid false false true c d = refl
laid false false false true d = refl
laid false false false false d = refl
