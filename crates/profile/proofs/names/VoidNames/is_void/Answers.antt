-- `profile::names::VoidNames::is_void` meets its contract: tl's names are the fixed ones.
use mathlib.Core.Path.{◌≡◌, sym, ap, ◌∙◌}
use mathlib.Core.Bool.{Bool, Bool-set}
use mathlib.Core.List.{List}
use Prim.Native.Nat.{ℕ}
use Rattle.std.proofs.Math.Logic.{∥∥₁_elim}
use Rattle.rules.specs.Scan.{part}
use Rattle.rules.specs.Names.{is_void}
use Rattle.rules.specs.Profile.{void_of, tl_profile}
use Rattle.rules.proofs.Profile.{void_tl}
use Rattle.profile.proofs.names.VoidNames.is_void.Goals as goal

pub returns-then-self : goal.returns-then-self
returns-then-self c = let a = c.args in
    let x = part a.page.now a.a a.e in
    let void : is_void x ≡ void_of tl_profile x = ap (λ (f : List ℕ → Bool). f x) (sym void_tl) in
    ∥∥₁_elim a.self.now.prepared (Bool-set _ _) (λ f. rw (f.fixed c.if-self.true) (c.is_void.ensures ∙ void))
