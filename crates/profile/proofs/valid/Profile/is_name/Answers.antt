-- `profile::valid::Profile::is_name` meets its contract: a name of another length is not there, and one of the same is compared.
use Rattle.std.proofs.Common.{rules}
use mathlib.Core.Path.{sym, ◌∙◌}
use Prim.Native.Nat.{◌-◌}
use native.Mathlib.Omega.{arith}
use lib.ListN.{drop, length-take, length-drop}
use Rattle.rules.specs.Scan.{part}
use Rattle.rules.specs.Profile.{void_name}
use Rattle.rules.proofs.Names.{agree_uneven}
use Rattle.profile.proofs.Compared.{name_short, name_run}
use Rattle.profile.proofs.valid.Profile.is_name.Goals as goal

pub returns-then-m-n : goal.returns-then-m-n
returns-then-m-n c = let a = c.args in
    let p = a.page.now in
    agree_uneven (λ y. y) (part p a.a a.e) (void_name a.self.now.bytes.now a.i)
    (λ z. c.if-m-n.true (omega (arith, c.requires.number.1, c.requires.part, length-take (a.e - a.a) (drop a.a p), length-drop a.a p)))

pub is_bytes-requires : goal.is_bytes-requires
is_bytes-requires c = let a = c.args in
    let m = name_short a.self.now.bytes.now (search rules) a.i c.requires.number.0 in
    (omega (arith, c.requires), omega (arith, c.requires, m, c.if-m-n.false), omega (arith, c.requires))

pub returns : goal.returns
returns c = let a = c.args in
    let q = a.self.now.bytes.now in
    c.is_bytes.ensures
    ∙ name_run q (search rules) a.i c.requires.number.0 a.page.now a.a a.e (omega (arith, c.requires.part.0)) c.requires.part.1
    (sym c.requires.number.1 ∙ c.if-m-n.false)
