-- The walks over the rows below h: row k was the last one read, and what is left is the text of the rows after it.
use mathlib.Core.Path.{◌≡◌, ap}
use mathlib.Core.Bool.{true, false}
use mathlib.Core.List.{List, [], ◌++◌}
use Prim.Native.Nat.{ℕ, suc, ◌+◌, ◌≤◌, ◌<◌}
use native.Mathlib.Numerals.{add-one}
use native.Mathlib.Omega.{arith}
use lib.ListN.{length}
use Rattle.rules.specs.Scan.{pick}
use Rattle.rules.specs.Table.{row_at, row_words, node_at}
use Rattle.rules.specs.Sound.{count_of, last_at, sound, tagged}
use Rattle.rules.specs.Text.{inner_text}
use Rattle.rules.specs.declared.Node.{Node}
use Rattle.rules.proofs.Sound.{sound_fits, sound_rows}
use Rattle.rules.proofs.Nest.{sound_nests}
use Rattle.rules.proofs.Text.{text_from, text_all, text_none, text_next, text_child}
use Rattle.tag.specs.Tag.{node_text}

-- a walk over the rows of h, up to its last, stands at row k
pub record Walk (ws : List ℕ) (h last k : ℕ) : Type 0 where
  pub top : last ≡ last_at ws h
  pub count : last < count_of ws
  pub low : h ≤ k
  pub high : k ≤ last

-- the text of the rows of h after row k
abbrev pub after : List ℕ → List ℕ → ℕ → ℕ → List ℕ
after p ws h k = text_from p ws h (suc k)

pub after_all : (p ws : List ℕ) (h : ℕ) → after p ws h h ≡ inner_text p ws h
after_all p ws h = text_all p ws h

module _ (p ws : List ℕ) {h last k : ℕ} (w : Walk ws h last k) where
  pub after_none : last ≤ k → after p ws h k ≡ []
  after_none l = text_none p ws h (suc k) (omega (arith, w.top))

-- ---- the text of the rows of h from row k on; the last of h is that of its node

module _ (p ws : List ℕ) (h : ℕ) where
  pub from_all : text_from p ws h (h + 1) ≡ inner_text p ws h
  from_all = rw add-one (text_all p ws h)

  module _ (k : ℕ) {t : Node} (q : t ≡ node_at ws h) where
    own_last : t.last ≡ last_at ws h
    own_last = ap (λ (n : Node). n.last) q

    pub from_none : t.last < k → text_from p ws h k ≡ []
    from_none l = text_none p ws h k (omega (arith, own_last))

    -- row k is n, and s its text
    pub from_next : k ≤ t.last → {n : Node} → n ≡ node_at ws k → {s : List ℕ} → s ≡ node_text p n
        → text_from p ws h k ≡ s ++ text_from p ws h (k + 1)
    from_next l e y = rw (y, e, add-one) (text_next p ws h k (omega (arith, own_last)))

module _ (p ws : List ℕ) (e : sound (length p) ws ≡ true) where
  -- row k, as it was read
  pub record Row (k : ℕ) (n : Node) : Type 0 where
    pub ordered : n.start ≤ n.end
    pub inside : n.end ≤ length p
    pub low : k ≤ n.last
    pub high : n.last < count_of ws

  pub fits : (k : ℕ) → k < count_of ws → row_at k + row_words ≤ length ws
  fits k l = omega (arith, sound_fits (length p) ws e)

  pub row : {k : ℕ} {n : Node} → k < count_of ws → n ≡ node_at ws k → Row k n
  row {k} l q =
      let r = sound_rows (length p) ws e k l in
      rw q (record { ordered = r.start_end; inside = r.end_len; low = r.last_low; high = r.last_high })

  -- the walk begins at h itself
  pub walk : {h : ℕ} {n : Node} → h < count_of ws → n ≡ node_at ws h → Walk ws h n.last h
  walk l q =
      let r = row l q in
      record { top = ap (λ (n : Node). n.last) q; count = r.high; low = omega arith; high = r.low }

  module _ {h last k : ℕ} (w : Walk ws h last k) (t : k < last) where
    module _ {n : Node} (q : n ≡ node_at ws (k + 1)) where
      pub next_row : Row (k + 1) n
      next_row = row (omega (arith, w.count)) q

      -- n is a child of h: the rows after it go on after its last, and before them stands what lies below it, or its own text
      child : after p ws h k ≡ pick (tagged n) (inner_text p ws (k + 1)) (node_text p n) ++ after p ws h n.last
      child =
          rw (q, add-one) (text_child (length p) p ws e h (suc k) (omega (arith, w.low, w.count)) (omega (arith, w.low)) (omega (arith, w.top)))

      pub after_tag : tagged n ≡ true → after p ws h k ≡ inner_text p ws (k + 1) ++ after p ws h n.last
      after_tag y = rw y at child

      pub after_leaf : tagged n ≡ false → after p ws h k ≡ node_text p n ++ after p ws h n.last
      after_leaf x = rw x at child

      pub walk_child : Walk ws h last n.last
      walk_child =
          let l : n.last ≤ last_at ws h =
          rw q (sound_nests (length p) ws e (k + 1) h (omega (arith, w.count)) (omega (arith, w.low)) (omega (arith, w.top))) in
          let r = next_row in
          record { top = w.top; count = w.count; low = omega (arith, w.low, r.low); high = omega (arith, w.top) }
