-- What the program is asked, and what it writes.
use Rattle.std.specs.Prelude.{ℕ, suc, Bool, ◌&&◌, ◌||◌, ◌≡◌, List, length, take, eqb, leb, Option, Some, None}
use Rattle.std.specs.Option.{option_and_then}
use Rattle.rules.specs.Ascii.{bytes}
use Rattle.rules.specs.Bytes.{is}
use Rattle.rules.specs.Scan.{pick, here}
use Rattle.rules.specs.Profile.{page_limit, settings_of, tl_profile}
use Rattle.decimal.specs.Digits.{number_at}
use Rattle.maxnodes.specs.Bound.{densest, Attains}

-- nothing stands at the place, or one line feed and then nothing
abbrev pub input_ends : List ℕ → ℕ → Bool
input_ends s at = eqb at (length s) || (here (is 10) s at && eqb (suc at) (length s))

-- a number of up to 5 digits, no greater than the longest page has bytes, and the end of the input after it
abbrev pub asked_by : List ℕ → ℕ × ℕ → Option ℕ
asked_by s x = pick (leb x.1 5 && leb x.0 page_limit && input_ends s x.1) (Some x.0) None

-- the number stands at the beginning of the input; none: the input is refused
unfoldable pub asked_length : List ℕ → Option ℕ
asked_length s = option_and_then (asked_by s) (number_at s 0)

-- what is written
abbrev pub page_text : Option ℕ → List ℕ
page_text (Some n) = densest n
page_text None = bytes "refused"

-- what is written where a page is asked for has the most nodes, under the Rust's profile; and seven bytes of the
-- input are enough to tell what is asked
pub record FullPage : Type 0 where
  pub page : (s : List ℕ) (n : ℕ) → asked_length s ≡ Some n → Attains (settings_of tl_profile) n (page_text (asked_length s))
  pub seven : (s : List ℕ) → asked_length (take 7 s) ≡ asked_length s
