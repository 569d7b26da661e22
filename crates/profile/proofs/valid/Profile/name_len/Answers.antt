-- `profile::valid::Profile::name_len` meets its contract: the name ends at the first 0 of its place.
use mathlib.Core.Path.{◌≡◌}
use Prim.Native.Nat.{ℕ, ◌+◌, ◌-◌, ◌*◌}
use native.Mathlib.Omega.{arith}
use lib.Dec.{eqb}
use lib.ListN.{take, drop}
use Rattle.std.proofs.Common.{rules, tests}
use Rattle.std.proofs.lemmas.Iterator.{YieldsList-from_slice}
use Rattle.std.proofs.lemmas.Iterator.Search.{position_from_yields_List}
use Rattle.profile.proofs.Compared.{name_first}
use Rattle.profile.proofs.valid.Profile.name_len.Goals as goal

pub returns : goal.returns
returns c =
    let q = c.args.self.now.bytes.now in
    let s : ℕ = 8 + 16 * c.args.i in
    let first = position_from_yields_List {all = take (s + 16 - s) (drop s q)} (λ (b : ℕ). eqb b 0) c.position.new.self _ _ c.position.ensures.ran
    (YieldsList-from_slice _ (cc)) (λ p b r k. search (rules, tests)) in
    let z : s + 16 - s ≡ 16 = omega arith in
    rw c.unwrap_or.ensures (name_first q (search rules) c.args.i c.requires c.position.result (rw z at first))
