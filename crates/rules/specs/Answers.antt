-- The public calls: for every input what each answers, and each lent buffer afterwards. Refusal 14 is tried first, and then the others in the
-- order of their numbers.
use Rattle.std.specs.Prelude.{ℕ, suc, ◌*◌, List, [], ◌∷◌, ltb, length, replicate, Option, Some, None, Result, Ok, Err}
use Rattle.rules.specs.Scan.{pick}
use Rattle.rules.specs.Profile.{Settings}
use Rattle.rules.specs.Reader.{Reading, read}
use Rattle.rules.specs.Table.{row_at, head_of, filled, node_at}
use Rattle.rules.specs.Sound.{last_at}
use Rattle.rules.specs.Lookup.{lookup}
use Rattle.rules.specs.Text.{inner_text}
use Rattle.rules.specs.Finds.{by_id, by_class}
use Rattle.rules.specs.Chain.{read_selector, written}
use Rattle.rules.specs.Query.{over_page, below_tag}
use Rattle.rules.specs.Refusals.{on_page, asking, asking_tag, selector_too_long, counted, filled_by, asked_part}
use Rattle.rules.specs.declared.Refusal.TheVariants.{TableTooSmall, SelectorTooLong, SelectorNotRead, BufferTooShort}
use Rattle.rules.specs.declared.Manner.{Manner}
use Rattle.rules.specs.declared.View.{View}
use Rattle.rules.specs.declared.Piece.{Piece}
use Rattle.rules.specs.declared.Refusal.{Refusal}
use Rattle.rules.specs.declared.Held.{Held}

-- ---- reading the page p into a table

module _ (f : Settings) (p : List ℕ) where
  abbrev pub reading : Reading
  reading = read f.white f.void p

  -- of n words
  unfoldable pub parse_answer : ℕ → Result ℕ Refusal
  parse_answer n =
      let count = length reading.nodes in on_page f p (pick (ltb n (row_at count)) (Err TableTooSmall) (Ok count))

  abbrev pub parsed_table : List ℕ → Result ℕ Refusal → List ℕ
  parsed_table t (Ok n) =
      filled t (head_of n reading.version (length p)) reading.nodes
  parsed_table t (Err x) = replicate (length t) 0

  -- the table t afterwards
  unfoldable pub parse_table : List ℕ → List ℕ
  parse_table t = parsed_table t (parse_answer (length t))

-- ---- reading the selector s into a buffer of n words

abbrev pub pieces_answer : ℕ → Option (List Piece) → Result ℕ Refusal
pieces_answer n None = Err SelectorNotRead
pieces_answer n (Some ps) = pick (ltb n (6 * length ps)) (Err BufferTooShort) (Ok (length ps))

-- how many pieces the selector has
unfoldable pub selector_answer : List ℕ → ℕ → Result ℕ Refusal
selector_answer s n =
    let answer = pieces_answer n (read_selector s) in pick (selector_too_long s) (Err SelectorTooLong) answer

abbrev pub pieces_words : Option (List Piece) → List ℕ
pieces_words None = []
pieces_words (Some ps) = written ps

-- the buffer afterwards
unfoldable pub selector_buffer : List ℕ → List ℕ → List ℕ
selector_buffer s out = filled_by out (pieces_words (read_selector s)) (selector_answer s (length out))

-- ---- asking the table ws of the page p

abbrev pub range_of : ℕ → ℕ → Option (ℕ × ℕ)
range_of h last = pick (ltb h last) (Some (suc h, last)) None

abbrev pub first_found : List ℕ → Option ℕ
first_found [] = None
first_found (h ∷ hs) = Some h

-- refusals 5, 6 and 7 of a query, whose finds are those of a chain, into n words
abbrev pub finds_answer : (List Piece → List ℕ) → ℕ → Option (List Piece) → Result ℕ Refusal
finds_answer finds n None = Err SelectorNotRead
finds_answer finds n (Some ps) = counted n (length (finds ps))

abbrev pub selected : (List Piece → List ℕ) → List ℕ → ℕ → Result ℕ Refusal
selected finds s n = pick (selector_too_long s) (Err SelectorTooLong) (finds_answer finds n (read_selector s))

abbrev pub finds_of : (List Piece → List ℕ) → Option (List Piece) → List ℕ
finds_of finds None = []
finds_of finds (Some ps) = finds ps

module _ (f : Settings) (p ws : List ℕ) where
  -- the handles below the tag h
  unfoldable pub range_answer : ℕ → Result (Option (ℕ × ℕ)) Refusal
  range_answer h = asking_tag f p ws h (Ok (range_of h (last_at ws h)))

  -- the inner text of the tag h, into n bytes
  unfoldable pub text_answer : ℕ → ℕ → Result ℕ Refusal
  text_answer h n = asking_tag f p ws h (counted n (length (inner_text p ws h)))

  unfoldable pub text_buffer : ℕ → List ℕ → List ℕ
  text_buffer h out = filled_by out (inner_text p ws h) (text_answer h (length out))

  -- what the tag h holds for the attribute name k, and the bytes that are handed back, with the fallback b
  unfoldable pub attribute_answer : ℕ → List ℕ → Result Held Refusal
  attribute_answer h k = asking_tag f p ws h (Ok (lookup f.white p (node_at ws h) k))

  unfoldable pub attribute_part : ℕ → List ℕ → List ℕ → List ℕ
  attribute_part h k b = asked_part p b (attribute_answer h k)

  -- the tag with the id k
  unfoldable pub id_answer : Manner → List ℕ → Result (Option ℕ) Refusal
  id_answer m k = asking f p ws (Ok (first_found (by_id f.white p ws m k)))

  -- the tags with the class k, into n words
  unfoldable pub class_answer : Manner → List ℕ → ℕ → Result ℕ Refusal
  class_answer m k n = asking f p ws (counted n (length (by_class f.white p ws m k)))

  unfoldable pub class_buffer : Manner → List ℕ → List ℕ → List ℕ
  class_buffer m k out = filled_by out (by_class f.white p ws m k) (class_answer m k (length out))

  -- the finds of the selector s over what the view shows of the whole page, into n words
  unfoldable pub query_answer : View → List ℕ → ℕ → Result ℕ Refusal
  query_answer v s n = asking f p ws (selected (over_page f.white p ws v s) s n)

  unfoldable pub query_buffer : View → List ℕ → List ℕ → List ℕ
  query_buffer v s out = filled_by out (finds_of (over_page f.white p ws v s) (read_selector s)) (query_answer v s (length out))

  -- and below the tag h, which the view need not show
  unfoldable pub query_below_answer : ℕ → View → List ℕ → ℕ → Result ℕ Refusal
  query_below_answer h v s n = asking_tag f p ws h (selected (below_tag f.white p ws v s h) s n)

  unfoldable pub query_below_buffer : ℕ → View → List ℕ → List ℕ → List ℕ
  query_below_buffer h v s out =
      filled_by out (finds_of (below_tag f.white p ws v s h) (read_selector s)) (query_below_answer h v s (length out))
