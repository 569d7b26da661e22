-- `parser::parse_single` meets its contract: whatever reading was held at first, what is held now has the rest of the steps left.
use Prim.Native.Nat.{◌-◌}
use Rattle.rules.specs.Profile.{void_of}
use Rattle.scan.specs.Marks.{white_in}
use Rattle.parser.proofs.Running.{Along}
use Rattle.parser.proofs.parse_single.Given as goal

abbrev pub invariant-loop : goal.invariant-loop
invariant-loop l = Along (white_in l.t) (void_of l.void.profile.bytes.now) l.page l.budget l.initial.table l.initial.s l.table l.s (l.budget - l.counter)
