-- A page cut off: what the public calls answer for a page's first n bytes, and for the whole page.
use Rattle.std.specs.Prelude.{ℕ, ◌≤◌, ◌<◌, ◌↔◌, ◌≡◌, List, [], length, take, Result, Ok, Err}
use Rattle.rules.specs.Lists.{only}
use Rattle.rules.specs.Profile.{Settings}
use Rattle.rules.specs.Table.{node_at}
use Rattle.rules.specs.Sound.{count_of, last_at, is_tag}
use Rattle.rules.specs.Descends.{Descends}
use Rattle.rules.specs.Query.{name_of}
use Rattle.rules.specs.Answers.{parse_answer, parse_table, attribute_answer, attribute_part, query_answer, query_buffer, query_below_answer, query_below_buffer}
use Rattle.rules.specs.declared.Refusal.{Refusal}
use Rattle.rules.specs.declared.Refusal.TheVariants.{BufferTooShort}
use Rattle.rules.specs.declared.View.TheVariants.{All}

-- ---- the words of the statement

-- row h of the table is a tag
abbrev pub IsTag : List ℕ → ℕ → Type 0
IsTag ws h = (h < count_of ws) × ((node_at ws h).kind ≡ 1)

-- the lent words had room for all finds
abbrev pub Enough : Result ℕ Refusal → Type 0
Enough a = a ≡ Err BufferTooShort → ⊥

-- the handles that a query found, by its answer and the words lent to it, as it left them
abbrev pub found : Result ℕ Refusal → List ℕ → List ℕ
found (Ok n) out = take n out
found (Err x) out = []

-- Two answers of a query: refused alike, or with the same finds among the tags of the table ws.
pub record Alike (ws : List ℕ) (a : Result ℕ Refusal) (out : List ℕ) (b : Result ℕ Refusal) (out' : List ℕ) : Type 0 where
  pub refused : (x : Refusal) → (a ≡ Err x) ↔ (b ≡ Err x)
  pub finds : only (is_tag ws) (found a out) ≡ only (is_tag ws) (found b out')

-- ---- the statement

-- q is the beginning, of n bytes, of the page p; ws and vs are their tables, each as its own reading left it. There is no clause on a
-- tag's end, nor on how it ended (word 8): a cut may turn 1 into 0 or 2, and 0 and 2 into each other (proofs/Examples).
pub record CutOff (f : Settings) (n : ℕ) (q ws p vs : List ℕ) : Type 0 where
  -- 1. the beginning's tags are the whole page's whose opening `>` lies before the cut: word 5 is the place after it
  pub tags : (h : ℕ) → IsTag ws h ↔ (IsTag vs h × ((node_at vs h).opened ≤ n))
  -- each with the same start, name and parent, and the same words 3 to 5: its name's places and the one after its opening
  pub start : (h : ℕ) → IsTag ws h → (node_at ws h).start ≡ (node_at vs h).start
  pub name : (h : ℕ) → IsTag ws h → name_of q (node_at ws h) ≡ name_of p (node_at vs h)
  pub parent : (h : ℕ) → IsTag ws h → (node_at ws h).parent ≡ (node_at vs h).parent
  pub places : (h : ℕ) → IsTag ws h
      → ((node_at ws h).name ≡ (node_at vs h).name) × ((node_at ws h).stop ≡ (node_at vs h).stop) × ((node_at ws h).opened ≡ (node_at vs h).opened)
  -- 2. the same of the three held for every attribute name, at the same places, and with every fallback the same bytes handed back
  pub attribute : (h : ℕ) → IsTag ws h → (k : List ℕ) → attribute_answer f q ws h k ≡ attribute_answer f p vs h k
  pub value : (h : ℕ) → IsTag ws h → (k b : List ℕ) → attribute_part f q ws h k b ≡ attribute_part f p vs h k b
  -- 3. the same finds for every selector, over the page and below a tag, in the view of all (View.antt has the other's), with enough
  -- space in both
  pub query : (s out out' : List ℕ) → Enough (query_answer f q ws All s (length out)) → Enough (query_answer f p vs All s (length out'))
      → Alike ws (query_answer f q ws All s (length out)) (query_buffer f q ws All s out)
      (query_answer f p vs All s (length out')) (query_buffer f p vs All s out')
  pub below : (h : ℕ) → IsTag ws h → (s out out' : List ℕ)
      → Enough (query_below_answer f q ws h All s (length out)) → Enough (query_below_answer f p vs h All s (length out'))
      → Alike ws (query_below_answer f q ws h All s (length out)) (query_below_buffer f q ws h All s out)
      (query_below_answer f p vs h All s (length out')) (query_below_buffer f p vs h All s out')
  -- 4. a tag's descendants, by parent, are the handles after its own up to its last, in either page
  pub descendants : (h : ℕ) → IsTag ws h → (d : ℕ) → Descends ws h d ↔ ((h < d) × (d ≤ last_at ws h))
  pub descendants_whole : (h : ℕ) → IsTag vs h → (d : ℕ) → Descends vs h d ↔ ((h < d) × (d ≤ last_at vs h))

-- For every page of bytes, every cut and any two tables on which both readings are accepted, under what one profile sets.
abbrev pub CutUnder : Settings → Type 0
CutUnder f =
    (p : List ℕ) (n : ℕ) → n ≤ length p
    → (t u : List ℕ) (k m : ℕ) → parse_answer f (take n p) (length t) ≡ Ok k → parse_answer f p (length u) ≡ Ok m
    → CutOff f n (take n p) (parse_table f (take n p) t) p (parse_table f p u)

-- The theorem: whatever a profile sets.
abbrev pub CutTheorem : Type 0
CutTheorem = (f : Settings) → CutUnder f
