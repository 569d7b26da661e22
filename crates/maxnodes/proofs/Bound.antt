-- No page has more nodes than two for every three bytes, and one for a text at the end. A step adds at most one node. What begins
-- with `<` takes two bytes for it; a text takes one, and then `<` follows or the page ends.
use Prim.Native.Nat.{ℕ, zero, suc, ◌+◌, ◌*◌, ◌≤◌, ◌<◌, pred}
use native.Mathlib.Omega.{arith}
use mathlib.Core.Bool.{Bool, true, false, not}
use mathlib.Core.Path.{◌≡◌, refl, sym, ap, ◌∙◌}
use mathlib.Core.List.{List}
use lib.ListN.{length, get_or}
use lib.Dec.{eqb, ltb}
use borrow.Author.Tests.{ltb-true}
use Rattle.rules.specs.Bytes.{is, other}
use Rattle.rules.specs.Scan.{skip, here}
use Rattle.rules.specs.declared.Item.{Item}
use Rattle.rules.specs.declared.Item.TheVariants.{Text}
use Rattle.rules.specs.Lexer.{next, item_at}
use Rattle.rules.specs.Reader.{Reading, put, step, steps, begin, read}
use Rattle.rules.proofs.Pick.{cases}
use Rattle.rules.proofs.Runs.{skip_ends}
use Rattle.rules.proofs.Places.{here_in}
use Rattle.laws.proofs.CutLexer.{item_grows}
use Rattle.laws.proofs.Lockstep.{put_at_lem}
use Rattle.laws.proofs.Step.{adds, adds_few, put_count, item_text, item_wide}
use Rattle.laws.proofs.Tree.{last_length}
use Rattle.maxnodes.specs.Bound.{max_nodes}

module _ (white : ℕ → Bool) (void : List ℕ → Bool) (p : List ℕ) where
  -- the nodes so far; where a text may come next, the last one was followed by `<`
  record Few (r : Reading) : Type 0 where
    pub within : r.at ≤ length p
    pub nodes : 3 * length r.nodes ≤ 2 * r.at + 1
    pub before_text : here (other 60) p r.at ≡ true → 3 * length r.nodes ≤ 2 * r.at

  abbrev item : Reading → Item
  item r = item_at white p r.at

  put_few : (r : Reading) → r.at < length p → Few r → Few (put void p r (item r))
  put_few r l F = go (here (is 60) p r.at) refl
    where
      i : Item
      i = item r

      at : (put void p r i).at ≡ next i
      at = put_at_lem white void p r i

      count : length (put void p r i).nodes ≡ length r.nodes + adds i
      count = put_count void p r i

      grows : (r.at < next i) × (next i ≤ length p)
      grows = item_grows white p r.at l

      go : (b : Bool) → here (is 60) p r.at ≡ b → Few (put void p r i)
      go true h =
          let w : r.at + suc (adds i) ≤ next i = item_wide white p r.at l h in
          let few : 3 * length (put void p r i).nodes ≤ 2 * (put void p r i).at = omega (arith, at, count, adds_few i, F.nodes) in
          record { within = omega (arith, at, grows); nodes = omega arith; before_text = λ t. few }
      go false h =
          let e : i ≡ Text (skip (other 60) p r.at) = item_text white p r.at h in
          let one : adds i ≡ 1 = ap adds e in
          let no : eqb (get_or p r.at 0) 60 ≡ false = sym (here_in (is 60) p r.at l) ∙ h in
          let t : here (other 60) p r.at ≡ true = here_in (other 60) p r.at l ∙ ap not no in
          let f : 3 * length r.nodes ≤ 2 * r.at = F.before_text t in
          let stop : here (other 60) p (put void p r i).at ≡ false =
          ap (here (other 60) p) (at ∙ ap next e) ∙ skip_ends (other 60) p r.at in
          record {
            within = omega (arith, at, grows);
            nodes = omega (arith, at, count, grows);
            before_text = λ u. let z : ◌≡◌ {A = ℕ} 0 1 = cc in absurd (omega arith);
          }

  steps_few : (k : ℕ) (r : Reading) → Few r → Few (steps white void p k r)
  unfolding steps step
  steps_few zero r F = F
  steps_few (suc k) r F =
      cases Few (ltb r.at (length p)) (λ t. steps_few k (put void p r (item r)) (put_few r (ltb-true r.at (length p) t) F)) (λ t. F)

  pub bounded : length (read white void p).nodes ≤ max_nodes (length p)
  bounded =
      let s : Reading = steps white void p (length p) begin in
      let F : Few s = steps_few (length p) begin (record { within = omega arith; nodes = omega arith; before_text = λ t. omega arith }) in
      let n : length (read white void p).nodes ≡ length s.nodes = last_length (pred (length s.nodes)) s.opens s.nodes in
      omega (arith, n, F.nodes, F.within)
