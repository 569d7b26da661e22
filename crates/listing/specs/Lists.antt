-- What listing a page leaves in its two buffers.
use Rattle.std.specs.Prelude.{◌≡◌, List, ℕ, length, Result}
use Rattle.rules.specs.Profile.{settings_of, tl_profile}
use Rattle.rules.specs.Refusals.{Counts}
use Rattle.rules.specs.Answers.{parse_answer, parse_table}
use Rattle.lines.specs.Lines.{answer_text}
use Rattle.rules.specs.declared.Refusal.{Refusal}

-- the page p is read under tl's profile into the table t, and what is printed of it is written into the buffer `out`
pub record Lists (p t out t₂ out₂ : List ℕ) (r : Result ℕ Refusal) : Type 0 where
  pub table : t₂ ≡ parse_table (settings_of tl_profile) p t
  pub text : Counts (answer_text p (parse_table (settings_of tl_profile) p t) (parse_answer (settings_of tl_profile) p (length t))) out r out₂
