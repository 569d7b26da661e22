-- U14. The two tables hold the nodes of the two readings, so the inner texts by the tables are those by the nodes.
use Rattle.std.proofs.Common.{Result, Ok}
use Prim.Native.Nat.{ℕ, suc, ◌-◌, ◌≤◌, ◌<◌}
use native.Mathlib.Omega.{arith}
use mathlib.Core.Path.{◌≡◌, ap, sym, ◌∙◌}
use mathlib.Core.List.{List}
use lib.Dec.{ltb}
use lib.ListN.{length, take, drop}
use lib.Seq.{take-append_seam}
use Rattle.rules.specs.Lists.{from}
use Rattle.rules.specs.declared.Node.{Node}
use Rattle.rules.specs.Profile.{Settings}
use Rattle.rules.specs.Reader.{node}
use Rattle.rules.specs.Table.{node_at}
use Rattle.rules.specs.Sound.{last_at}
use Rattle.rules.specs.Text.{text_at, inner_text}
use Rattle.rules.specs.Refusals.{filled_by}
use Rattle.rules.specs.Answers.{reading, text_answer, text_buffer}
use Rattle.rules.proofs.All.{all_from, each_same}
use Rattle.laws.proofs.Tree.{page_nested}
use Rattle.laws.proofs.Tables.{Accepted, accepted}
use Rattle.rules.specs.Descends.{Descends}
use Rattle.cut.specs.Cut.{IsTag, found}
use Rattle.cut.specs.Text.{LastBelow, TextRoom, given, Gives, TextCut, TextPrefix}
use Rattle.cut.proofs.Selected.{fits_found}
use Rattle.cut.proofs.Accepts.{tag_node_lem, text_is, last_is, descends}
use Rattle.cut.proofs.TextNodes.{node_text, nodes_text, text_prefix, text_same}
use Rattle.cut.proofs.CutOff.{cut_off}
use Rattle.rules.specs.declared.Refusal.{Refusal}

module _ {f : Settings} {p ws : List ℕ} (A : Accepted f p ws) (h : ℕ) (t : IsTag ws h) where
  abbrev ns : List Node
  ns = (reading f p).nodes

  last_in : (node ns h).last < length ns
  last_in = (page_nested f.white f.void p).inside h (omega (arith, A.counted, t.0))

  -- the inner text by the table is that by the nodes
  pub by_nodes : inner_text p ws h ≡ nodes_text p ns h
  by_nodes =
      let l : last_at ws h ≡ (node ns h).last = last_is A h t in
      rw (← l)
      (each_same (text_at p ws) (node_text p ns) (from (suc h) (last_at ws h - h))
      (all_from _ (suc h) (last_at ws h - h)
      (λ d a b. let e : node_at ws d ≡ node ns d = A.row d (omega (arith, last_in)) in rw e)))

  -- the call gives it, if it has room
  gives_text : (out : List ℕ) → TextRoom f p ws h out → Gives f p ws h out
  unfolding text_buffer
  gives_text out e =
      let x : List ℕ = inner_text p ws h in
      let a = text_is A h (length out) t in
      let c : text_answer f p ws h (length out) ≡ Ok (length x) = a ∙ fits_found (ltb (length out) (length x)) x (rw a at e) in
      record { answer = c; text = ap (λ (r : Result ℕ Refusal). found r (filled_by out x r)) c ∙ take-append_seam x (drop (length x) out) }

  -- the last descendant is the one that word 7 names
  last_end : (d : ℕ) → LastBelow ws h d → (node_at ws d).end ≡ (node ns (node ns h).last).end
  last_end d b =
      let l : last_at ws h ≡ (node ns h).last = last_is A h t in
      let r = (descends A h t d).0 b.descends in
      let s = b.last (last_at ws h) ((descends A h t (last_at ws h)).1 (omega arith)) in
      let e : d ≡ (node ns h).last = omega arith in
      ap (λ (x : Node). x.end) (A.row d (omega (arith, last_in))) ∙ ap (λ (x : ℕ). (node ns x).end) e

  no_last : ((d : ℕ) → Descends ws h d → ⊥) → h < (node ns h).last → ⊥
  no_last none l = none (last_at ws h) ((descends A h t (last_at ws h)).1 (omega (arith, last_is A h t)))

module _ (f : Settings) (p : List ℕ) (n : ℕ) (hn : n ≤ length p) {ws vs : List ℕ}
    (A : Accepted f (take n p) ws) (B : Accepted f p vs) (h : ℕ) (i : IsTag ws h) (j : IsTag vs h)
    (out out' : List ℕ) (d : TextRoom f (take n p) ws h out) (g : TextRoom f p vs h out') where
  one : (node (reading f (take n p)).nodes h).kind ≡ 1
  one = (tag_node_lem A h i).1

  text : given f (take n p) ws h out ≡ nodes_text (take n p) (reading f (take n p)).nodes h
  text = (gives_text A h i out d).text ∙ by_nodes A h i

  text_whole : given f p vs h out' ≡ nodes_text p (reading f p).nodes h
  text_whole = (gives_text B h j out' g).text ∙ by_nodes B h j

  text_cut : TextCut f n (take n p) ws p vs h out out'
  text_cut =
      record {
        gives = gives_text A h i out d;
        gives_whole = gives_text B h j out' g;
        begins = rw (text, text_whole) (text_prefix f.white f.void p n hn h one);
        ended = λ x b e. text ∙ text_same f.white f.void p n hn h one (λ r. omega (arith, last_end B h j x b)) ∙ sym text_whole;
        empty = λ e. text ∙ text_same f.white f.void p n hn h one (λ r. absurd (no_last B h j e r)) ∙ sym text_whole;
      }

-- U14
pub text_begins : TextPrefix
text_begins f p n hn t u k m a b h i out out' d g =
    text_cut f p n hn (accepted f (take n p) t k a) (accepted f p u m b) h i
    (((cut_off f p n hn t u k m a b).tags h).0 i).0 out out' d g
