-- What the functions that read from a stream promise. The rules answer what is read and the place after it; the functions answer what
-- is read, and leave the stream at that place.
use Rattle.std.specs.Prelude.{ℕ, suc, ◌≡◌, List, Option, Some, None}
use Rattle.rules.specs.Bytes.{is}
use Rattle.rules.specs.Scan.{pick, here}
use Rattle.rules.specs.Selector.{with_value, operand_at}
use Rattle.rules.specs.declared.Span.{Span}
use Rattle.rules.specs.declared.Simple.{Simple}
use Rattle.selector.specs.declared.stream.Stream.{Stream}

-- t is the stream s at the place n
pub record At (s : Stream) (n : ℕ) (t : Stream) : Type 0 where
  pub same : t.«data» ≡ s.«data»
  pub place : t.idx ≡ n

-- what was read, if anything, with the place after it
abbrev pub with_place : {A : Type 0} → Option A → ℕ → Option (A × ℕ)
with_place (Some x) n = Some (x, n)
with_place None n = None

-- r was read from the stream s, as the rule says, and t is the stream afterwards. Where nothing was read nothing is said of its place:
-- the whole selector is refused then, and nobody reads on.
pub record Reads {A : Type 0} (rule : Option (A × ℕ)) (s : Stream) (r : Option A) (t : Stream) : Type 0 where
  pub same : t.«data» ≡ s.«data»
  pub read : with_place r t.idx ≡ rule

-- the byte q at i
abbrev pub past : ℕ → List ℕ → ℕ → Option (ℕ × ℕ)
past q s i = pick (here (is q) s i) (Some (q, suc i)) None

-- at i: `=` and a value, of which f makes a simple selector
abbrev pub operator_at : List ℕ → (Span → Simple) → ℕ → Option (Simple × ℕ)
operator_at s f i = pick (here (is 61) s i) (with_value f (operand_at s (suc i))) None
