-- A finished tag of a beginning's nodes: the whole page has the same node. Both have it from their common reading: what the beginning adds
-- to that finishes no tag, and what the whole page adds leaves all but the open tags as they were.
use Prim.Native.Nat.{ℕ, suc, ◌-◌, ◌≤◌, ◌<◌, pred}
use native.Mathlib.Omega.{arith}
use mathlib.Core.Bool.{Bool}
use mathlib.Core.Path.{◌≡◌, refl, ap, sym, ◌∙◌}
use mathlib.Core.List.{List}
use lib.ListN.{length, take}
use Rattle.rules.specs.Lexer.{item_at}
use Rattle.rules.specs.declared.Node.{Node}
use Rattle.rules.specs.Reader.{node, Reading, steps, begin, read}
use Rattle.laws.proofs.Nodes.{kind_in}
use Rattle.laws.proofs.Lockstep.{Ending, there, short, Meets, meets}
use Rattle.laws.proofs.Soundness.{begin_fine, steps_fine}
use Rattle.laws.proofs.Finished.{FinishedTag, NoneFinishes, none_trans, put_none, last_none, finished_kind, unfinished, not_open}
use Rattle.laws.proofs.Tree.{steps_shape, begin_shape}
use Rattle.rules.specs.Lists.{from}
use Rattle.rules.proofs.All.{all_from, each_same}
use Rattle.cut.proofs.TextNodes.{node_text, nodes_text, same_text, whole_grows}

module _ (white : ℕ → Bool) (void : List ℕ → Bool) (p : List ℕ) (n : ℕ) (hn : n ≤ length p) where
  abbrev q : List ℕ
  q = take n p

  -- the beginning's reading before its open tags are settled, and the common one
  abbrev first : Reading
  first = steps white void q (length q) begin

  abbrev meeting : Meets white void p n begin first (steps white void p (length p) begin)
  meeting = meets white void p n hn

  abbrev R : Reading
  R = meeting.common

  abbrev ns : List Node
  ns = (read white void q).nodes

  abbrev ms : List Node
  ms = (read white void p).nodes

  -- what follows in the beginning finishes no tag
  ending_none : (s : Reading) → Ending white void p n R s → NoneFinishes R.nodes s.nodes
  ending_none s (there e o) = rw o (λ h d. refl)
  ending_none s (short d x y z o) = rw o (put_none void q R (item_at white q R.at) z)

  first_none : NoneFinishes R.nodes ns
  first_none =
      let F = (steps_fine white void q (length q) begin (omega arith) begin_fine).0 in
      none_trans R.nodes first.nodes ns (ending_none first meeting.ending)
      (last_none (pred (length first.nodes)) (length first.nodes) first.opens first.nodes F.tags)

  pub finished_same : (h : ℕ) → FinishedTag (node ns h) → node ns h ≡ node ms h
  finished_same h d =
      let t : Node = node R.nodes h in
      let e : node ns h ≡ t = first_none h d in
      let c : FinishedTag t = rw e at d in
      e ∙ sym ((whole_grows white void p n hn).stays h (kind_in R.nodes h (finished_kind t c)) (λ o. unfinished t (rw o.1) c))

  -- in the common reading it is not open, so it reaches no further than a node of that
  reaches_common : (h : ℕ) → FinishedTag (node R.nodes h) → (node R.nodes h).last < length R.nodes
  reaches_common h d =
      let t : Node = node R.nodes h in
      let S = rw meeting.reached at (steps_shape white void p meeting.turns begin begin_shape) in
      let F = rw meeting.reached at (steps_fine white void p meeting.turns begin (omega arith) begin_fine).0 in
      rw (not_open R.nodes h (length R.nodes) R.opens F.tags d) at (S.nested.inside h (kind_in R.nodes h (finished_kind t d)))

  -- so the texts below it are those of the whole page
  pub finished_text : (h : ℕ) → FinishedTag (node ns h) → nodes_text q ns h ≡ nodes_text p ms h
  finished_text h d =
      let a : (node ns h).last ≡ (node R.nodes h).last = ap (λ (t : Node). t.last) (first_none h d) in
      let l : (node R.nodes h).last < length R.nodes = reaches_common h (rw (first_none h d) at d) in
      let k : ℕ = (node ns h).last - h in
      rw (← finished_same h d)
      (each_same (node_text q ns) (node_text p ms) (from (suc h) k)
      (all_from _ (suc h) k (λ x b c. same_text white void p n hn x (omega arith))))
