-- `sound::table_sound` meets its contract: each return knows some of the definition's four tests, and one that fails decides (`sound_is`).
use borrow.Author.Tests.{lt-leb, le-leb}
use native.Mathlib.Omega.{arith}
use mathlib.Core.Path.{refl, sym, ◌∙◌}
use Prim.Native.Nat.{◌≤◌, ◌<◌}
use lib.ListN.{length}
use Rattle.rules.specs.Table.{row_at}
use Rattle.rules.specs.Sound.{count_of}
use Rattle.rules.proofs.Sound.{sound_is}
use Rattle.sound.proofs.table_sound.Goals as goal

pub returns-then-table-lt-HEAD : goal.returns-then-table-lt-HEAD
returns-then-table-lt-HEAD c = let a = c.args in
    sym (sound_is a.len a.table.now (lt-leb _ _ c.if-table-lt-HEAD.true) refl refl refl)

pub returns-then-not-head_sound : goal.returns-then-not-head_sound
returns-then-not-head_sound c = let a = c.args in
    let head = sym c.head_sound.ensures ∙ c.if-not-head_sound.true in
    sym (sound_is a.len a.table.now (le-leb _ _ c.if-table-lt-HEAD.false) head refl refl)

-- the count against the rows that there is room for
pub returns-then-room-count : goal.returns-then-room-count
returns-then-room-count c = let a = c.args in
    let head = sym c.head_sound.ensures ∙ c.if-not-head_sound.false in
    let ws = a.table.now in
    let over : length ws < row_at (count_of ws) = omega arith in
    sym (sound_is a.len ws (le-leb _ _ c.if-table-lt-HEAD.false) head (lt-leb _ _ over) refl)

pub returns : goal.returns
returns c = let a = c.args in
    let head = sym c.head_sound.ensures ∙ c.if-not-head_sound.false in
    let ws = a.table.now in
    let fit : row_at (count_of ws) ≤ length ws = omega arith in
    sym (sound_is a.len ws (le-leb _ _ c.if-table-lt-HEAD.false) head (le-leb _ _ fit) (sym c.rows_sound.ensures))
