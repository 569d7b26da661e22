-- What the calls on a list of handles answer.
use Rattle.std.specs.Prelude.{Bool, ℕ, Result, Ok, Err}
use Rattle.rules.specs.Scan.{pick}
use Rattle.rules.specs.declared.Refusal.TheVariants.{BufferTooShort}
use Rattle.rules.specs.declared.Refusal.{Refusal}

-- refusal 7, or the count
abbrev pub unless : Bool → ℕ → Result ℕ Refusal
unless short n = pick short (Err BufferTooShort) (Ok n)
