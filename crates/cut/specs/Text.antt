-- The text of a cell that broke off: a tag's inner text in a page's first n bytes, and in the whole page.
use Rattle.std.specs.Prelude.{ℕ, ◌≤◌, ◌≡◌, List, ◌++◌, length, take, Ok}
use Rattle.rules.specs.Profile.{Settings}
use Rattle.rules.specs.Table.{node_at}
use Rattle.rules.specs.Descends.{Descends}
use Rattle.rules.specs.Text.{inner_text}
use Rattle.rules.specs.Answers.{parse_answer, parse_table, text_answer, text_buffer}
use Rattle.cut.specs.Cut.{IsTag, Enough, found}

-- ---- the words of the statement

-- ys begins with xs
pub record Prefix (xs ys : List ℕ) : Type 0 where
  pub rest : List ℕ
  pub is : ys ≡ xs ++ rest

-- d is the last descendant of row h
pub record LastBelow (ws : List ℕ) (h d : ℕ) : Type 0 where
  pub descends : Descends ws h d
  pub last : (e : ℕ) → Descends ws h e → e ≤ d

-- the call for the text of row h, with the bytes out lent to it
module _ (f : Settings) (p ws : List ℕ) (h : ℕ) (out : List ℕ) where
  -- they had room for the text
  abbrev pub TextRoom : Type 0
  TextRoom = Enough (text_answer f p ws h (length out))

  -- the text that it gave
  abbrev pub given : List ℕ
  given = found (text_answer f p ws h (length out)) (text_buffer f p ws h out)

  -- it was not refused, and gave the inner text by its table
  pub record Gives : Type 0 where
    pub answer : text_answer f p ws h (length out) ≡ Ok (length (inner_text p ws h))
    pub text : given ≡ inner_text p ws h

-- ---- the statement

-- q is the beginning, of n bytes, of the page p; ws and vs are their tables; h is a tag of the beginning, and both calls had room
pub record TextCut (f : Settings) (n : ℕ) (q ws p vs : List ℕ) (h : ℕ) (out out' : List ℕ) : Type 0 where
  pub gives : Gives f q ws h out
  pub gives_whole : Gives f p vs h out'
  -- the text in the beginning is a beginning of the text in the whole page
  pub begins : Prefix (given f q ws h out) (given f p vs h out')
  -- and the same text, where the tag's last descendant in the whole page ends before the cut or at it
  pub ended : (d : ℕ) → LastBelow vs h d → (node_at vs d).end ≤ n → given f q ws h out ≡ given f p vs h out'
  -- or where it has none there; its opening lies before the cut, as that of each tag of the beginning (`tags` of `CutOff`)
  pub empty : ((d : ℕ) → Descends vs h d → ⊥) → given f q ws h out ≡ given f p vs h out'

-- U14: for every page of bytes, every cut, whatever a profile sets, any two tables on which both readings are accepted, every
-- tag of the beginning, and any bytes lent that have room for the two texts.
abbrev pub TextPrefix : Type 0
TextPrefix =
    (f : Settings) (p : List ℕ) (n : ℕ) → n ≤ length p
    → (t u : List ℕ) (k m : ℕ) → parse_answer f (take n p) (length t) ≡ Ok k → parse_answer f p (length u) ≡ Ok m
    → (h : ℕ) → IsTag (parse_table f (take n p) t) h
    → (out out' : List ℕ) → TextRoom f (take n p) (parse_table f (take n p) t) h out
    → TextRoom f p (parse_table f p u) h out'
    → TextCut f n (take n p) (parse_table f (take n p) t) p (parse_table f p u) h out out'
