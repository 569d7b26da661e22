-- The byte is up to the space, so it has no mark but white.
use mathlib.Core.Path.{◌≡◌}
use Prim.Native.Nat.{◌*◌}
use borrow.Author.Rules.{rules}
use Rattle.scan.specs.Marks.{bit}
use Rattle.scan.proofs.White.{white_set, marked_set}
use Rattle.scan.proofs.Marks.set_white.Goals as goal
use Rattle.scan.proofs.Marks.set_white.Goals.{then-white, else-white}

mark_is : (c : goal.After-way_told-1) → c.if-white.self ≡ 2 * bit c.args.white
mark_is c = elim c.if-white.branch [ then-white w ↦ search rules | else-white w ↦ search rules ]

pub invariant_of-self : goal.invariant_of-self
invariant_of-self c = rw (mark_is c) (marked_set c.self.invariant c.args.b c.requires c.args.white)

pub returns : goal.returns
returns c = rw (mark_is c, ← c.self.view_is) (white_set c.self.invariant c.args.b c.requires c.args.white)
