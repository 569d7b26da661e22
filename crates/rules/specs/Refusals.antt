-- The refusals: their numbers and conditions, and what an answer says in numbers.
use Rattle.std.specs.Prelude.{ℕ, suc, ◌-◌, ◌≡◌, Bool, true, false, not, List, [], ◌∷◌, ◌++◌, eqb, ltb, length, drop, replicate}
use Rattle.std.specs.Prelude.{Option, Some, None, Result, Ok, Err, ⊤}
use Rattle.rules.specs.Scan.{pick, part}
use Rattle.rules.specs.Profile.{Settings}
use Rattle.rules.specs.Sound.{sound, is_tag}
use Rattle.rules.specs.declared.Refusal.{Refusal}
use Rattle.rules.specs.declared.Refusal.TheVariants.{PageTooLong, TableTooSmall, TableNotSound, NotATag, SelectorTooLong, SelectorNotRead, BufferTooShort}
use Rattle.rules.specs.declared.Refusal.TheVariants.{ProfileNotFine}
use Rattle.rules.specs.declared.Held.{Held}
use Rattle.rules.specs.declared.Manner.{Manner}
use Rattle.rules.specs.declared.Manner.TheVariants.{Scan, Closed}
use Rattle.rules.specs.declared.View.{View}
use Rattle.rules.specs.declared.View.TheVariants.{All, Finished}
use Rattle.rules.specs.declared.Held.TheVariants.{Absent, Bare, Value}

-- the longest selector
abbrev pub selector_limit : ℕ
selector_limit = 128

abbrev pub number_of : Refusal → ℕ
number_of PageTooLong = 1
number_of TableTooSmall = 2
number_of TableNotSound = 3
number_of NotATag = 4
number_of SelectorTooLong = 5
number_of SelectorNotRead = 6
number_of BufferTooShort = 7
number_of ProfileNotFine = 14

-- ---- the conditions, under what the profile sets

-- 14
abbrev pub profile_not_fine : Settings → Bool
profile_not_fine f = not f.fine

-- 1
abbrev pub page_too_long : Settings → List ℕ → Bool
page_too_long f p = ltb f.limit (length p)

-- 3
abbrev pub table_not_sound : List ℕ → List ℕ → Bool
table_not_sound p ws = not (sound (length p) ws)

-- 4
abbrev pub not_a_tag : List ℕ → ℕ → Bool
not_a_tag ws h = not (is_tag ws h)

-- 5
abbrev pub selector_too_long : List ℕ → Bool
selector_too_long s = ltb selector_limit (length s)

-- 7: the count, where the buffer has room for so many
abbrev pub counted : ℕ → ℕ → Result ℕ Refusal
counted room n = pick (ltb room n) (Err BufferTooShort) (Ok n)

-- neither 14 nor 1 nor 3: the profile is within its limits, and the table is sound for a page that is not too long
pub record Sound (f : Settings) (p ws : List ℕ) : Type 0 where
  pub fine : profile_not_fine f ≡ false
  pub short : page_too_long f p ≡ false
  pub table : sound (length p) ws ≡ true

-- refusals 14 and 1, which every call on a page comes after; 3, if it asks a table; and 4, if about a tag
module _ {A : Type 0} (f : Settings) (p : List ℕ) where
  abbrev pub on_page : Result A Refusal → Result A Refusal
  on_page answer = pick (profile_not_fine f) (Err ProfileNotFine) (pick (page_too_long f p) (Err PageTooLong) answer)

  module _ (ws : List ℕ) where
    abbrev pub asking : Result A Refusal → Result A Refusal
    asking answer = on_page (pick (table_not_sound p ws) (Err TableNotSound) answer)

    abbrev pub asking_tag : ℕ → Result A Refusal → Result A Refusal
    asking_tag h answer = asking (pick (not_a_tag ws h) (Err NotATag) answer)

-- what a check tells: that nothing is refused, or why
abbrev pub told : {A : Type 0} → Result A Refusal → Result ⊤ Refusal
told (Ok a) = Ok tt
told (Err x) = Err x

-- a lent buffer afterwards: what was found in its first entries and the rest as it was, or all zeros
abbrev pub filled_by : List ℕ → List ℕ → Result ℕ Refusal → List ℕ
filled_by out found (Ok n) = found ++ drop (length found) out
filled_by out found (Err x) = replicate (length out) 0

-- what a call answers, and the lent buffer afterwards
pub record Leaves {A : Type 0} (answer : Result ℕ Refusal) (buffer : List A) (r : Result ℕ Refusal) (out : List A) : Type 0 where
  pub is : r ≡ answer
  pub left : out ≡ buffer

-- and of a call with two buffers
pub record LeavesBoth (answer : Result ℕ Refusal) (places bytes : List ℕ) (r : Result ℕ Refusal) (ends out : List ℕ) : Type 0 where
  pub is : r ≡ answer
  pub ends_left : ends ≡ places
  pub out_left : out ≡ bytes

-- what was found is counted and written into the lent buffer b, or refused as 7 for lack of room
abbrev pub Counts : List ℕ → List ℕ → Result ℕ Refusal → List ℕ → Type 0
Counts found b r out = Leaves (counted (length b) (length found)) (filled_by b found r) r out

-- a refusal leaves the lent buffer all zero
abbrev pub Refuses : {A : Type 0} → A → List A → Refusal → Result ℕ Refusal → List A → Type 0
Refuses zero b why r out = Leaves (Err why) (replicate (length b) zero) r out

-- ---- what a view's number and a manner's say

-- 0 shows all, any other number the finished tags alone
abbrev pub view_of : ℕ → View
view_of n = pick (eqb n 0) All Finished

-- 0 is the scan in the view v, any other number the closed manner, in which v is ignored
abbrev pub manner_of : ℕ → ℕ → Manner
manner_of n v = pick (eqb n 0) (Scan (view_of v)) Closed

-- ---- each answer in numbers: the refusal's number, or 0; the count; then its values. A refusal's count is 0. An attribute's answer has
-- no count: in its place stands which of the three is held, 0 where it is absent, and 0 on a refusal too.

abbrev pub counted_numbers : Result ℕ Refusal → List ℕ
counted_numbers (Ok n) = 0 ∷ n ∷ []
counted_numbers (Err x) = number_of x ∷ 0 ∷ []

-- how many handles the range has, and the first and last of them
abbrev pub ranged_numbers : Result (Option (ℕ × ℕ)) Refusal → List ℕ
ranged_numbers (Ok (Some (a, e))) = 0 ∷ suc (e - a) ∷ a ∷ e ∷ []
ranged_numbers (Ok None) = 0 ∷ 0 ∷ 0 ∷ 0 ∷ []
ranged_numbers (Err x) = number_of x ∷ 0 ∷ 0 ∷ 0 ∷ []

-- how many tags were found, 1 or 0, and the handle
abbrev pub found_numbers : Result (Option ℕ) Refusal → List ℕ
found_numbers (Ok (Some h)) = 0 ∷ 1 ∷ h ∷ []
found_numbers (Ok None) = 0 ∷ 0 ∷ 0 ∷ []
found_numbers (Err x) = number_of x ∷ 0 ∷ 0 ∷ []

-- 0 absent, 1 without a value, 2 with a value, and where that starts and ends
abbrev pub held_numbers : Held → List ℕ
held_numbers Absent = 0 ∷ 0 ∷ 0 ∷ []
held_numbers Bare = 1 ∷ 0 ∷ 0 ∷ []
held_numbers (Value a e) = 2 ∷ a ∷ e ∷ []

abbrev pub asked_numbers : Result Held Refusal → List ℕ
asked_numbers (Ok v) = 0 ∷ held_numbers v
asked_numbers (Err x) = number_of x ∷ 0 ∷ 0 ∷ 0 ∷ []

-- the bytes that an attribute's answer hands back: the value's part of the page p, or the whole fallback b where the name is absent or has no
-- value; none on a refusal
abbrev pub held_part : List ℕ → List ℕ → Held → List ℕ
held_part p b Absent = b
held_part p b Bare = b
held_part p b (Value a e) = part p a e

abbrev pub asked_part : List ℕ → List ℕ → Result Held Refusal → List ℕ
asked_part p b (Ok v) = held_part p b v
asked_part p b (Err x) = []
