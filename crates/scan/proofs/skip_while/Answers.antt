-- The byte at i passes or fails each P that the test decides.
use Rattle.std.proofs.Common.{arith, sym, ◌∙◌, get_or}
use Rattle.rules.proofs.Runs.{again, stopped, ended}
use Rattle.scan.proofs.skip_while.Goals as goal
use Rattle.scan.proofs.skip_while.Goals.{then-loop-i-test+else-test, else-loop-i-test}

pub loop-i-preserved : goal.loop-i-preserved
loop-i-preserved g c = λ P d. let i = c.loop-i.i in
    let s = c.args.s.now in
    again P s c.args.at i (c.loop-i.invariant P d) c.loop-i-test.true
    (sym (d (get_or s i 0) (omega (arith, c.type_inv.s i)) _ c.test.ensures) ∙ c.if-test.true)

pub returns : goal.returns
returns g c = λ P d. let i = c.loop-i.i in
    let s = c.args.s.now in
    elim c.loop-i-test.branch [
      | then-loop-i-test+else-test w ↦
          stopped P s c.args.at i (c.loop-i.invariant P d) w.loop-i-test.true
          (sym (d (get_or s i 0) (omega (arith, c.type_inv.s i)) _ w.test.ensures) ∙ w.if-test.false)
      | else-loop-i-test w ↦ ended P s c.args.at i (c.loop-i.invariant P d) w.loop-i-test.false
    ]
