-- `sound::TableRows::row_sound` meets its contract: what the row says of itself and of its parent decides (`next_is`).
use Rattle.std.proofs.Common.{Some, None}
use mathlib.Core.Path.{◌≡◌, refl, sym, ap, ◌∙◌}
use mathlib.Core.Bool.{Bool, true, false}
use Prim.Native.Nat.{◌+◌}
use Rattle.rules.specs.Scan.{pick}
use Rattle.rules.specs.Sound.{tagged, parent_at}
use Rattle.sound.specs.Row.{next_climb}
use Rattle.sound.proofs.Rows.{own_of, next_is, own_parent, own_last}
use Rattle.sound.proofs.TableRows.row_sound.Goals as goal
use Rattle.sound.proofs.TableRows.row_sound.Goals.{After-under}

pub returns-then-not-own_sound : goal.returns-then-not-own_sound
returns-then-not-own_sound c = let a = c.args in
    let row = c.row-n.ensures in
    let own = own_of a.self.now.len a.self.now.table.now a.self.now.count a.h _ row c.own_sound.ensures c.if-not-own_sound.true in
    next_is a.self.now.len a.self.now.table.now a.self.now.count a.h _ row own refl refl

pub under-requires : goal.under-requires
under-requires c = let a = c.args in
    let n = c.row-n in
    let own =
    own_of a.self.now.len a.self.now.table.now a.self.now.count a.h n.result n.ensures c.own_sound.ensures c.if-not-own_sound.false in
    let last = own_last a.self.now.len a.self.now.table.now a.self.now.count a.h n.result own in
    record { h_in_bounds = (c.requires.h_lt_count.0, c.requires.h_lt_count.1, last); by_index = c.requires.by_index }

-- the row is right by itself
module _ (c : After-under) where
  decided : {b : Bool} (t : Bool) → c.under.result ≡ b → tagged c.row-n.result ≡ t
      → (let a = c.args in
      pick b (Some (pick t (a.h + 1) (parent_at a.self.now.table.now a.h))) None ≡ next_climb a.self.now.len a.self.now.table.now a.self.now.count a.h)
  decided t u k =
      let a = c.args in
      let right = c.if-not-own_sound.false in
      let own = own_of a.self.now.len a.self.now.table.now a.self.now.count a.h _ c.row-n.ensures c.own_sound.ensures right in
      next_is a.self.now.len a.self.now.table.now a.self.now.count a.h _ c.row-n.ensures own (sym c.under.ensures ∙ u) k

pub returns-then-not-under : goal.returns-then-not-under
returns-then-not-under c = decided (goal.at.returns-then-not-under c).After-under _ c.if-not-under.true refl

pub returns-then-is_tag : goal.returns-then-is_tag
returns-then-is_tag c = decided (goal.at.returns-then-is_tag c).After-under true c.if-not-under.false (sym c.is_tag.ensures ∙ c.if-is_tag.true)

pub returns : goal.returns
returns c = let a = c.args in
    let right = c.if-not-under.false in
    let parent = own_parent a.self.now.len a.self.now.table.now a.self.now.count a.h c.row-n.result (sym c.under.ensures ∙ right) in
    ap Some parent ∙ decided (goal.at.returns c).After-under false right (sym c.is_tag.ensures ∙ c.if-is_tag.false)
