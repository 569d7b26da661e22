-- Nodes that come out unfinished: what a broken-off item makes of them, and what the open tags' last descendants do.
use Prim.Native.Nat.{ℕ, pred}
use native.Mathlib.Omega.{arith}
use mathlib.Core.Bool.{Bool, true, false, ◌||◌}
use mathlib.Core.Path.{◌≡◌, refl, ◌∙◌}
use mathlib.Core.List.{List, [], ◌∷◌, ◌++◌}
use lib.ListN.{length, set}
use lib.Dec.{eqb, ltb}
use borrow.Author.Tests.{eqb-true, ne_eqb}
use Rattle.std.proofs.lemmas.Bool.{and_parts}
use Rattle.rules.specs.Scan.{part, same}
use Rattle.rules.specs.declared.Item.{Item}
use Rattle.rules.specs.declared.Item.TheVariants.{Text, Close, Comment, Doctype, Tag, Nothing}
use Rattle.rules.specs.declared.Node.{Node}
use Rattle.rules.specs.declared.View.TheVariants.{Finished}
use Rattle.rules.specs.Reader.{node, Reading, leaf, closed, settled, ended_by, close_into, put, with_last}
use Rattle.rules.specs.Facts.{Tags}
use Rattle.rules.specs.Sound.{tagged}
use Rattle.rules.specs.Finds.{shows}
use Rattle.rules.proofs.Pick.{cases}
use Rattle.laws.proofs.CutLexer.{finishes}
use Rattle.laws.proofs.Nodes.{snoc_all, set_all}
use Rattle.laws.proofs.Soundness.{tags_set}
use Rattle.laws.proofs.Tree.{mem}

-- t is a finished tag
abbrev pub FinishedTag : Node → Type 0
FinishedTag t = shows Finished t ≡ true

-- what is finished in ms is the same node in ns
abbrev pub NoneFinishes : List Node → List Node → Type 0
NoneFinishes ns ms = (h : ℕ) → FinishedTag (node ms h) → node ms h ≡ node ns h

pub none_trans : (ns ms ls : List Node) → NoneFinishes ns ms → NoneFinishes ms ls → NoneFinishes ns ls
none_trans ns ms ls a b h d = b h d ∙ a h (rw (b h d) at d)

-- one node more, or another one in a place, that is not finished
none_snoc : (ns : List Node) (x : Node) → (FinishedTag x → ⊥) → NoneFinishes ns (ns ++ (x ∷ []))
none_snoc ns x n =
    snoc_all (λ h t. FinishedTag t → t ≡ node ns h) ns x (λ h l d. refl) (λ d. absurd (n d))
    (λ h l d. let z : ◌≡◌ {A = ℕ} 0 1 = cc in absurd (omega arith))

none_set : (ns : List Node) (i : ℕ) (y : Node) → (FinishedTag y → ⊥) → NoneFinishes ns (set ns i y)
none_set ns i y n = set_all (λ h t. FinishedTag t → t ≡ node ns h) ns i y (λ h d. refl) (λ l d. absurd (n d))

pub finished_kind : (t : Node) → FinishedTag t → t.kind ≡ 1
finished_kind t d = eqb-true t.kind 1 (and_parts (tagged t) (eqb t.ended 1 || eqb t.ended 3) d).0

pub unfinished : (t : Node) → (eqb t.ended 1 || eqb t.ended 3) ≡ false → FinishedTag t → ⊥
unfinished t e d =
    let r = and_parts (tagged t) (eqb t.ended 1 || eqb t.ended 3) d in
    let z : ◌≡◌ {A = ℕ} 0 1 = cc r.1 in absurd (omega arith)

-- it is none of the open tags
pub not_open : (ns : List Node) (h b : ℕ) (hs : List ℕ) → Tags ns b hs → FinishedTag (node ns h) → mem h hs ≡ false
unfolding mem
not_open ns h b [] T d = refl
not_open ns h b (i ∷ hs) T d = rw (ne_eqb h i (λ e. unfinished (node ns h) (rw (e, T.2)) d)) (not_open ns h i hs T.3 d)

module _ (void : List ℕ → Bool) (p : List ℕ) (r : Reading) where
  -- a closing tag whose `>` was not passed
  close_none : (a e n : ℕ) (hs : List ℕ) → ltb e n ≡ false → NoneFinishes r.nodes (close_into p r a e n hs).nodes
  unfolding close_into
  close_none a e n [] z = λ h d. refl
  close_none a e n (i ∷ hs) z =
      cases (λ (s : Reading). NoneFinishes r.nodes s.nodes) (same (part p (node r.nodes i).name (node r.nodes i).stop) (part p a e))
      (λ t. let y : Node = closed (node r.nodes i) n (pred (length r.nodes)) (ended_by e n) in none_set r.nodes i y (unfinished y (rw z)))
      (λ t h d. refl)

  pub put_none : (i : Item) → finishes i ≡ false → NoneFinishes r.nodes (put void p r i).nodes
  unfolding put
  put_none (Text e) z = none_snoc r.nodes (leaf r 2 r.at e) (λ d. let o : ◌≡◌ {A = ℕ} 0 1 = cc in absurd (omega arith))
  put_none (Close a e n) z = close_none a e n r.opens z
  put_none (Comment a e n) z = none_snoc r.nodes (leaf r 3 a e) (λ d. let o : ◌≡◌ {A = ℕ} 0 1 = cc in absurd (omega arith))
  put_none (Doctype b n) z = λ h d. refl
  put_none (Tag a e n s) z = let o : ◌≡◌ {A = ℕ} 0 1 = cc in absurd (omega arith)
  put_none (Nothing n) z = λ h d. refl

-- the open tags get their last descendant
pub last_none : (l b : ℕ) (hs : List ℕ) (ns : List Node) → Tags ns b hs → NoneFinishes ns (with_last l hs ns)
unfolding with_last
last_none l b [] ns T = λ h d. refl
last_none l b (i ∷ hs) ns T =
    let y : Node = settled (node ns i) l in
    none_trans ns (set ns i y) (with_last l hs (set ns i y)) (none_set ns i y (unfinished y (rw T.2)))
    (last_none l i hs (set ns i y) (tags_set ns i i y hs (omega arith) T.3))
