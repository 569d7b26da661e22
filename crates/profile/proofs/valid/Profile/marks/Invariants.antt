-- White are the profile's first k white bytes.
use mathlib.Core.Path.{◌≡◌}
use Prim.Native.Nat.{ℕ}
use Rattle.scan.specs.Marks.{white_in}
use Rattle.profile.proofs.White.{among}
use Rattle.profile.proofs.valid.Profile.marks.Given as goal

abbrev pub invariant-loop-b : goal.invariant-loop-b
invariant-loop-b l = (b : ℕ) → white_in l.t b ≡ among l.self.bytes.now l.b-index b
