-- What holds of every reading of a page, and so of the item that a step puts.
use mathlib.Core.Path.{◌≡◌}
use mathlib.Core.Bool.{Bool}
use mathlib.Core.List.{List}
use Prim.Native.Nat.{ℕ, zero, suc, ◌-◌, ◌≤◌, ◌<◌}
use native.Mathlib.Omega.{arith}
use borrow.Author.Tests.{ltb-true}
use lib.Dec.{ltb}
use lib.ListN.{length}
use Rattle.rules.specs.Lexer.{next, item_at}
use Rattle.rules.specs.Reader.{Reading, begin, put, step, steps}
use Rattle.rules.specs.Profile.{page_limit}
use Rattle.rules.specs.declared.Item.{Item}
use Rattle.rules.specs.declared.Item.TheVariants.{Text, Close, Comment, Doctype, Tag, Nothing}
use Rattle.rules.specs.declared.State.{State}
use Rattle.rules.proofs.Table.{filled_size}
use Rattle.rules.proofs.Pick.{cases}
use Rattle.laws.proofs.CutLexer.{Formed, item_grows, item_formed}
use Rattle.laws.proofs.Lockstep.{put_at_lem}
use Rattle.laws.proofs.Step.{adds_few, put_count}
use Rattle.laws.proofs.Soundness.{begin_fine, put_fine}
use Rattle.tree.specs.Held.{Represents, RowRoom, Fits, Inner}
use Rattle.tree.proofs.Rows.{inner_below, innermost}
use Rattle.parser.specs.Parsing.{Good}

-- ---- the places of an item lie in the page

fits_of : (n at : ℕ) (i : Item) → Formed at i → at < next i → next i ≤ n → Fits n at i
fits_of n at (Text e) f l m = (omega arith, m)
fits_of n at (Close a e x) f l m = ((f.0, omega (arith, f.1)), m)
fits_of n at (Comment a e x) f l m = ((f.0, omega (arith, f.1)), m)
fits_of n at (Doctype h x) f l m = m
fits_of n at (Tag a e x s) f l m = ((f.1, omega (arith, f.2)), m)
fits_of n at (Nothing x) f l m = m

-- the first of the readings is good
pub good_begin : (p : List ℕ) → Good p begin
good_begin p = record { fine = begin_fine; few = omega arith; within = omega arith }

module _ (white : ℕ → Bool) (p : List ℕ) where
  pub item_fits : (at : ℕ) → at < length p → Fits (length p) at (item_at white p at)
  item_fits at l =
      let g = item_grows white p at l in fits_of (length p) at (item_at white p at) (item_formed white p at l) g.0 g.1

  -- ---- and so are those that come after it

  pub good_step : (void : List ℕ → Bool) {R : Reading} → Good p R → R.at < length p → Good p (put void p R (item_at white p R.at))
  good_step void {R} G l =
      let i : Item = item_at white p R.at in
      let g = item_grows white p R.at l in
      let a : (put void p R i).at ≡ next i = put_at_lem white void p R i in
      record {
        fine = put_fine white void p R i g.0 (item_formed white p R.at l) G.fine;
        few = omega (arith, put_count void p R i, adds_few i, G.few, g.0, a);
        within = omega (arith, g.1, a);
      }

  pub good_steps : (void : List ℕ → Bool) (k : ℕ) {R : Reading} → Good p R → Good p (steps white void p k R)
  unfolding steps step
  good_steps void zero G = G
  good_steps void (suc k) {R} G =
      cases (Good p) (ltb R.at (length p)) (λ t. good_steps void k (good_step void G (ltb-true R.at (length p) t))) (λ t. G)

-- ---- what a table and a state that hold a good reading show to `put`

module _ {p t₁ t hd : List ℕ} {R : Reading} {s : State} (H : Represents t₁ t hd R s) (G : Good p R) where
  pub room_of : length p ≤ page_limit → s.at < length p → RowRoom t₁ s
  room_of limit l =
      record {
        rows = omega (arith, H.count, H.rows.filled.fits, filled_size H.rows.filled);
        few = omega (arith, H.count, G.few, H.at);
        at = omega arith;
      }

  pub inner_of : Inner t₁ s (length p)
  inner_of =
      record {
        below = omega (arith, H.rows.innermost, H.count, inner_below R.nodes R.opens H.rows.chained);
        name = λ l.
            let I = innermost H.rows l in
            let S = G.fine.nodes (s.inner - 1) I.below in
            let tags = rw I.opens at G.fine.tags in
            let T = S.tag tags.1 in
            rw I.row (T.1, omega (arith, T.2, T.3, S.within, G.within));
      }
