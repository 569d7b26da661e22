-- `profile::names::VoidNames::is_listed` meets its contract: if the name is void, the way from i leads to it.
use borrow.Author.Tests.{lt-ltb, le-ltb}
use mathlib.Core.Path.{◌≡◌, sym, ◌∙◌}
use mathlib.Core.List.{List}
use Prim.Native.Nat.{ℕ, ◌-◌, ◌≤◌, ◌<◌}
use native.Mathlib.Omega.{arith}
use lib.ListN.{length, drop, length-take, length-drop}
use Rattle.rules.specs.Scan.{part}
use Rattle.rules.specs.Profile.{void_of}
use Rattle.profile.proofs.Slots.{slot_part, all_put, first_low, link_low, length_is, ahead_first, ahead_next, one_hit, none_hit}
use Rattle.profile.proofs.names.VoidNames.is_listed.Goals as goal

-- the name is not empty
some : (p : List ℕ) (a e : ℕ) → a < e → e ≤ length p → 0 < length (part p a e)
some p a e l m = omega (arith, length-take (e - a) (drop a p), length-drop a p)

pub returns-then-a-e : goal.returns-then-a-e
unfolding void_of
returns-then-a-e c = let a = c.args in
    let p = a.page.now in
    rw (le-ltb 0 (length (part p a.a a.e)) (omega (arith, c.if-a-e.true, length-take (a.e - a.a) (drop a.a p))))

pub loop-i-init : goal.loop-i-init
loop-i-init c = let a = c.args in
    let p = a.page.now in
    let h = all_put a.self.now.prepared c.requires.2 in
    let l : a.a < a.e = omega (arith, c.requires.0, c.if-a-e.false) in
    let e = c.from-i.ensures in (
      omega (arith, e, first_low h c.slot-s.result c.slot-s.ensures.1),
      rw (e, c.slot-s.ensures.0, slot_part p a.a a.e l c.requires.1)
          (ahead_first a.self.now.profile.bytes.now a.self.now.heads (part p a.a a.e) h (some p a.a a.e l c.requires.1)),
    )

pub is_name-requires : goal.is_name-requires
is_name-requires c =
    let b : c.loop-i.i - 1 < 24 = omega (arith, c.loop-i.invariant.0, c.loop-i-test.true) in
    record {
      number = (b, c.from-m.ensures ∙ length_is (all_put c.args.self.now.prepared c.requires.2) (c.loop-i.i - 1) b);
      part = (omega (arith, c.requires.0, c.if-a-e.false), c.requires.1);
    }

pub returns-then-is_name : goal.returns-then-is_name
unfolding void_of
returns-then-is_name c = let a = c.args in
    let p = a.page.now in
    let x = part p a.a a.e in
    let k = c.loop-i.i - 1 in
    sym (rw (lt-ltb 0 (length x) (some p a.a a.e (omega (arith, c.requires.0, c.if-a-e.false)) c.requires.1))
    (one_hit a.self.now.profile.bytes.now a.self.now.heads x k (omega (arith, c.loop-i.invariant.0, c.loop-i-test.true))
    (sym c.is_name.ensures ∙ c.if-is_name.true)))

pub loop-i-smaller : goal.loop-i-smaller
loop-i-smaller c =
    omega (
      arith,
      c.from-i-in-loop-i.ensures,
      c.loop-i-test.true,
      link_low (all_put c.args.self.now.prepared c.requires.2) (c.loop-i.i - 1) (omega (arith, c.loop-i.invariant.0, c.loop-i-test.true)),
    )

pub loop-i-preserved : goal.loop-i-preserved
loop-i-preserved c = let a = c.args in
    let x = part a.page.now a.a a.e in
    let i = c.loop-i.i in (
      omega (
        arith,
        c.from-i-in-loop-i.ensures,
        c.loop-i.invariant.0,
        link_low (all_put c.args.self.now.prepared c.requires.2) (i - 1) (omega (arith, c.loop-i.invariant.0, c.loop-i-test.true)),
      ),
      rw (c.from-i-in-loop-i.ensures)
          (ahead_next a.self.now.profile.bytes.now a.self.now.heads x i c.loop-i.invariant.1 (sym c.is_name.ensures ∙ c.if-is_name.false)),
    )

pub returns : goal.returns
unfolding void_of
returns c = let a = c.args in
    let p = a.page.now in
    let x = part p a.a a.e in
    let z : c.loop-i.i ≡ 0 = omega (arith, c.loop-i-test.false) in
    sym (rw (lt-ltb 0 (length x) (some p a.a a.e (omega (arith, c.requires.0, c.if-a-e.false)) c.requires.1))
    (none_hit a.self.now.profile.bytes.now a.self.now.heads x (rw z at c.loop-i.invariant.1)))
