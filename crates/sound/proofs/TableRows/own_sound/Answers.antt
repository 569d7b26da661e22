-- `sound::TableRows::own_sound` meets its contract: a last that is not right decides (`own_not`), else the places do, and how the node ended
-- (`own_is`).
use borrow.Author.Rules.{rules}
use borrow.Author.Tests.{lt-leb, le-leb, le-ltb, lt-ltb, eq-eqb, ne_eqb, eqb-true, eqb-false}
use native.Mathlib.Omega.{arith}
use mathlib.Core.Path.{◌≡◌, sym, ◌∙◌}
use mathlib.Core.Bool.{true, and-false}
use Rattle.rules.specs.Table.{node_at}
use Rattle.rules.specs.Sound.{places_sound}
use Rattle.sound.proofs.Rows.{tag_end_lem, own_not, own_is}
use Rattle.sound.proofs.TableRows.own_sound.Goals as goal
use Rattle.sound.proofs.TableRows.own_sound.Goals.{Else-not-tag_places}

-- a tag
pub returns-then-last-h : goal.returns-then-last-h
returns-then-last-h c = let a = c.args in
    let n = c.row-n.result in
    let low = lt-leb a.h n.last (omega arith) in
    rw (← c.row-n.ensures) (own_not a.self.now.len a.self.now.count a.h n (rw low))

pub returns-then-self-last : goal.returns-then-self-last
returns-then-self-last c = let a = c.args in
    let n = c.row-n.result in
    let low = le-leb a.h n.last (omega arith) in
    let high = le-ltb n.last a.self.now.count (omega arith) in
    rw (← c.row-n.ensures) (own_not a.self.now.len a.self.now.count a.h n (rw (low, high)))

pub tag_places-requires : goal.tag_places-requires
tag_places-requires c = let kind : c.row-n.result.kind ≡ 1 = eqb-true c.row-n.result.kind 1 (sym c.is_tag.ensures ∙ c.if-is_tag.true) in
    record { handle = search rules; tag = rw (← c.row-n.ensures) kind }

pub returns-then-not-tag_places : goal.returns-then-not-tag_places
returns-then-not-tag_places c = rw (sym c.tag_places.ensures ∙ c.if-not-tag_places.true)

-- its places are right
places : (c : Else-not-tag_places) → let a = c.args in
    places_sound a.self.now.len (node_at a.self.now.table.now a.h) ≡ true
places c = sym c.tag_places.ensures ∙ c.if-not-tag_places.false

pub tag_ended-requires : goal.tag_ended-requires
tag_ended-requires c = let a = c.args in
    let kind : c.row-n.result.kind ≡ 1 = eqb-true c.row-n.result.kind 1 (sym c.is_tag.ensures ∙ c.if-is_tag.true) in
    let tag : (node_at a.self.now.table.now a.h).kind ≡ 1 = rw (← c.row-n.ensures) kind in
    record {
      handle = search rules;
      tag = (tag, tag_end_lem a.self.now.len (node_at a.self.now.table.now a.h) tag (places (goal.at.tag_ended-requires c).Else-not-tag_places));
    }

pub returns-then-is_tag : goal.returns-then-is_tag
returns-then-is_tag c = let a = c.args in
    let n = c.row-n.result in
    let row = c.row-n.ensures in
    let low = le-leb a.h n.last (omega arith) in
    let high = lt-ltb n.last a.self.now.count (omega arith) in
    let tag = sym c.is_tag.ensures ∙ c.if-is_tag.true in
    let right = places (goal.at.returns-then-is_tag c).Else-not-tag_places in
    own_is a.self.now.len a.self.now.count a.h (node_at a.self.now.table.now a.h) (rw right c.tag_ended.ensures)
    (rw (← row) (rw (low, high, tag)))

-- another node
pub returns-then-last-h-2 : goal.returns-then-last-h-2
returns-then-last-h-2 c = let a = c.args in
    let n = c.row-n.result in
    let other = sym c.is_tag.ensures ∙ c.if-is_tag.false in
    let own = ne_eqb n.last a.h c.if-last-h-2.true in
    rw (← c.row-n.ensures) (own_not a.self.now.len a.self.now.count a.h n (rw (other, own, and-false)))

pub other_sound-requires : goal.other_sound-requires
other_sound-requires c = let kind = eqb-false c.row-n.result.kind 1 (sym c.is_tag.ensures ∙ c.if-is_tag.false) in
    record { handle = search rules; no_tag = rw (← c.row-n.ensures) (kind, c.if-last-h-2.false) }

pub returns : goal.returns
returns c = let a = c.args in
    let n = c.row-n.result in
    let low = le-leb a.h n.last (omega arith) in
    let high = lt-ltb n.last a.self.now.count (omega arith) in
    let other = sym c.is_tag.ensures ∙ c.if-is_tag.false in
    let own = eq-eqb n.last a.h c.if-last-h-2.false in
    own_is a.self.now.len a.self.now.count a.h (node_at a.self.now.table.now a.h) c.other_sound.ensures
    (rw (← c.row-n.ensures) (rw (low, high, other, own)))
