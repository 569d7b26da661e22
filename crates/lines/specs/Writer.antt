-- What a writer's methods leave.
use Rattle.std.specs.Prelude.{◌≡◌, List, ℕ}
use Rattle.lines.specs.Writes.{Writes}
use Rattle.lines.specs.declared.Writer.{Writer}

-- the text is written at the writer's place, as far as there is room, into the same buffer
pub record Puts (before : Writer) (text : List ℕ) (after : Writer) : Type 0 where
  pub written : Writes before.out.now before.at text after.out.now after.at
  pub same : after.out.ghost_name ≡ before.out.ghost_name
