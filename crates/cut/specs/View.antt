-- The view of the finished tags: what it finds of the finds in the view of all, and in a page cut off.
use Rattle.std.specs.Prelude.{ℕ, ◌≤◌, ◌↔◌, ◌≡◌, Bool, true, ◌&&◌, List, ltb, length, take, Result, Ok, Err}
use Rattle.rules.specs.Lists.{only}
use Rattle.rules.specs.Profile.{Settings}
use Rattle.rules.specs.Table.{node_at}
use Rattle.rules.specs.Sound.{count_of}
use Rattle.rules.specs.Finds.{shows}
use Rattle.rules.specs.Answers.{text_answer, text_buffer}
use Rattle.rules.specs.Answers.{parse_answer, parse_table, class_answer, class_buffer, query_answer, query_buffer, query_below_answer, query_below_buffer}
use Rattle.rules.specs.declared.Refusal.{Refusal}
use Rattle.rules.specs.declared.Manner.TheVariants.{Scan}
use Rattle.rules.specs.declared.View.{View}
use Rattle.rules.specs.declared.View.TheVariants.{All, Finished}
use Rattle.cut.specs.Cut.{IsTag, Enough, found}

-- ---- the words of the statements

-- row h of the table is a finished tag
abbrev pub is_finished : List ℕ → ℕ → Bool
is_finished ws h = ltb h (count_of ws) && shows Finished (node_at ws h)

-- what a call answers, and the buffer lent to it afterwards
abbrev pub Left : Type 0
Left = Result ℕ Refusal × List ℕ

-- the three lookups that have a view and fill a list, with the words out lent to them
module _ (f : Settings) (p ws : List ℕ) (v : View) where
  abbrev pub class_left : List ℕ → List ℕ → Left
  class_left k out = (class_answer f p ws (Scan v) k (length out), class_buffer f p ws (Scan v) k out)

  abbrev pub query_left : List ℕ → List ℕ → Left
  query_left s out = (query_answer f p ws v s (length out), query_buffer f p ws v s out)

  abbrev pub below_left : ℕ → List ℕ → List ℕ → Left
  below_left h s out = (query_below_answer f p ws h v s (length out), query_below_buffer f p ws h v s out)

-- the call for the text of row h, with the bytes out lent
abbrev pub text_left : Settings → List ℕ → List ℕ → ℕ → List ℕ → Left
text_left f p ws h out = (text_answer f p ws h (length out), text_buffer f p ws h out)

-- both are refused alike, or the first has of the second's finds those that are kept
pub record Keeps (kept : ℕ → Bool) (a b : Left) : Type 0 where
  pub refused : (x : Refusal) → (a.0 ≡ Err x) ↔ (b.0 ≡ Err x)
  pub finds : found a.0 a.1 ≡ only kept (found b.0 b.1)

-- with enough space in both
abbrev pub Kept : (ℕ → Bool) → Left → Left → Type 0
Kept kept a b = Enough a.0 → Enough b.0 → Keeps kept a b

-- ---- the statements

-- of one page and table: the finds in the view of all with the others removed; and a tag below which one looks need not be finished
pub record Shown (f : Settings) (p ws : List ℕ) : Type 0 where
  pub class : (k out out' : List ℕ) → Kept (is_finished ws) (class_left f p ws Finished k out) (class_left f p ws All k out')
  pub query : (s out out' : List ℕ) → Kept (is_finished ws) (query_left f p ws Finished s out) (query_left f p ws All s out')
  pub below : (h : ℕ) → (s out out' : List ℕ) → Kept (is_finished ws) (below_left f p ws Finished h s out) (below_left f p ws All h s out')

-- q is the beginning of the page p, and ws and vs are their tables. A finished tag of the beginning is one of the whole page: the same tag,
-- with the name and attributes that `CutOff` speaks of, which also ended where it did there and as it did, with the same last descendant and
-- the same text. So what was found among the finished tags of the beginning is found among those of the whole page.
pub record Stays (f : Settings) (q ws p vs : List ℕ) : Type 0 where
  pub row : (h : ℕ) → is_finished ws h ≡ true → (is_finished vs h ≡ true) × (node_at ws h ≡ node_at vs h)
  pub text : (h : ℕ) → is_finished ws h ≡ true → (out : List ℕ) → text_left f q ws h out ≡ text_left f p vs h out
  pub class : (k out out' : List ℕ) → Kept (is_finished ws) (class_left f q ws Finished k out) (class_left f p vs Finished k out')
  pub query : (s out out' : List ℕ) → Kept (is_finished ws) (query_left f q ws Finished s out) (query_left f p vs Finished s out')
  pub below : (h : ℕ) → IsTag ws h → (s out out' : List ℕ)
      → Kept (is_finished ws) (below_left f q ws Finished h s out) (below_left f p vs Finished h s out')

-- For every page and any words as its table, whatever a profile sets.
abbrev pub FinishedShown : Type 0
FinishedShown = (f : Settings) (p ws : List ℕ) → Shown f p ws

-- For every page of bytes, every cut and any two tables on which both readings are accepted, whatever a profile sets.
abbrev pub FinishedStays : Type 0
FinishedStays =
    (f : Settings) (p : List ℕ) (n : ℕ) → n ≤ length p
    → (t u : List ℕ) (k m : ℕ) → parse_answer f (take n p) (length t) ≡ Ok k → parse_answer f p (length u) ≡ Ok m
    → Stays f (take n p) (parse_table f (take n p) t) p (parse_table f p u)
