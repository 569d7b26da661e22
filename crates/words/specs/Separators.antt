-- Where a value is cut into words.
use Rattle.std.specs.Prelude.{List, ℕ, eqb, Option, Some, None}
use Rattle.rules.specs.Scan.{pick}
use Rattle.rules.specs.Words.{gap, ascii_white, unicode_white}
use Rattle.words.specs.declared.White.{White}
use Rattle.words.specs.declared.White.TheVariants.{Ascii, Unicode}

-- `~=` cuts at Unicode white, class values at ASCII white
abbrev pub separators : White → List (List ℕ)
separators Unicode = unicode_white
separators Ascii = ascii_white

-- the length of the separator at the front of xs, if one stands there
abbrev pub separator_of : List (List ℕ) → List ℕ → Option ℕ
separator_of seps xs = let n = gap seps xs in pick (eqb n 0) None (Some n)
