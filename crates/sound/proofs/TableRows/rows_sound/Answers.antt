-- `sound::TableRows::rows_sound` meets its contract: the rows below h are sound, so their parents are right and the climb for h may trust them.
use borrow.Author.Rules.{rules}
use native.Mathlib.Omega.{arith}
use mathlib.Core.Path.{◌≡◌, refl, sym}
use Rattle.rules.specs.Sound.{all, row_sound}
use Rattle.rules.proofs.Sound.{all_true, all_false, all_more, row_parent}
use Rattle.sound.proofs.Rows.{next_not, next_from_lem}
use Rattle.sound.proofs.TableRows.rows_sound.Goals as goal

pub loop-h-init : goal.loop-h-init
unfolding all
loop-h-init c = (refl, record { low = search rules; same = refl })

pub row_sound-requires : goal.row_sound-requires
row_sound-requires c = let a = c.args in
    let l = c.loop-h in
    let test = row_sound a.self.now.len a.self.now.table.now a.self.now.count in
    record {
      h_lt_count = (omega arith, l.invariant.1);
      by_index = λ j b. row_parent a.self.now.len a.self.now.table.now a.self.now.count j (all_true test l.h j l.invariant.0 b);
    }

pub returns-in_default : goal.returns-in_default
returns-in_default c = let a = c.args in
    let h = c.loop-h.h in
    let left = next_not a.self.now.len a.self.now.table.now a.self.now.count h _ c.row_sound.ensures c.in_default.is in
    sym (all_false (row_sound a.self.now.len a.self.now.table.now a.self.now.count) a.self.now.count h (omega arith) left)

pub loop-h-preserved : goal.loop-h-preserved
loop-h-preserved c = let a = c.args in
    let l = c.loop-h in
    let left = next_from_lem a.self.now.len a.self.now.table.now a.self.now.count l.h _ _ c.row_sound.ensures c.in-Some.is in
    (all_more (row_sound a.self.now.len a.self.now.table.now a.self.now.count) l.h l.invariant.0 left.0, left.1)

pub returns : goal.returns
returns c = let done : c.loop-h.h ≡ c.args.self.now.count = omega arith in
    sym (rw done at c.loop-h.invariant.0)
