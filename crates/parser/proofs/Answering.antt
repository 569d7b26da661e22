-- Reading a page from its beginning: its open tags settled, its header written, and the cases of the answer.
use Rattle.std.specs.Prelude.{⊤}
use Rattle.std.proofs.Common.{Option, Some, None, Result, Ok, Err}
use mathlib.Core.Path.{◌≡◌, refl, sym, ap, ◌∙◌}
use mathlib.Core.Bool.{Bool}
use mathlib.Core.List.{List, ◌++◌}
use Prim.Native.Nat.{ℕ, ◌≤◌, ◌<◌, pred}
use native.Mathlib.Omega.{arith}
use borrow.Author.Tests.{lt-ltb, le-ltb}
use lib.ListN.{length, take, drop}
use Rattle.rules.specs.Profile.{page_limit, Settings}
use Rattle.rules.specs.Reader.{Reading, begin, steps, finished}
use Rattle.rules.specs.Table.{head_words, row_at, head_of, filled}
use Rattle.rules.specs.Refusals.{Leaves, Refuses, on_page}
use Rattle.rules.specs.Answers.{reading, parse_answer, parsed_table, parse_table}
use Rattle.rules.specs.declared.Refusal.TheVariants.{TableTooSmall}
use Rattle.rules.specs.declared.State.{State}
use Rattle.rules.proofs.Asking.{Readable, page_refused}
use Rattle.rules.proofs.Table.{filled_none, filled_head}
use Rattle.laws.proofs.Tree.{last_length}
use Rattle.tree.specs.Held.{Represents, Settled}
use Rattle.parser.specs.Parsing.{HoldsPage, Run, HoldsReading, Finished}
use Rattle.parser.proofs.Readings.{good_begin, good_steps}
use Rattle.rules.specs.declared.Refusal.{Refusal}

-- ---- the beginning and the end

abbrev pub start : State
start = record { at = 0; count = 0; inner = 0; version = 0 }

held_begin : (t : List ℕ) → head_words ≤ length t → Represents t t (take head_words t) begin start
held_begin t l =
    record { rows = record { filled = filled_none t l; chained = tt; innermost = refl }; at = refl; count = refl; version = refl }

pub reads_begin : (p t : List ℕ) → head_words ≤ length t → HoldsPage p t start
reads_begin p t l = record { t = t; hd = take head_words t; R = begin; held = held_begin t l; good = good_begin p }

pub held_end : {t₁ t hd : List ℕ} {R : Reading} {s : State} → Represents t₁ t hd R s
    → (last len : ℕ) {t₂ t₃ : List ℕ} → last ≡ pred s.count
    → Settled t₁ s.inner last t₂ → t₃ ≡ head_of s.count s.version len ++ drop head_words t₂
    → t₃ ≡ filled t (head_of s.count s.version len) (finished R).nodes
held_end {t = t} {hd = hd} {R = R} {s = s} H last len e S w =
    let l : last ≡ pred (length R.nodes) = rw (← H.count) e in
    let h : List ℕ = head_of s.count s.version len in
    rw (← l) (filled_head (S.filled t hd R.nodes R.opens H.rows) h refl w).words

-- ---- the answer

-- the reading of a page before its open tags are settled: it has as many nodes
abbrev read_by : (ℕ → Bool) → (List ℕ → Bool) → List ℕ → Reading
read_by white void p = steps white void p (length p) begin

abbrev count_by : Settings → List ℕ → ℕ
count_by f p = length (reading f p).nodes

count_same : (f : Settings) (p : List ℕ) → count_by f p ≡ length (read_by f.white f.void p).nodes
count_same f p = let R : Reading = read_by f.white f.void p in last_length _ R.opens R.nodes

-- by marks and void names that are the profile's
run_as : {white white' : ℕ → Bool} {void void' : List ℕ → Bool} {p : List ℕ} {n : ℕ} {t₁ t₂ : List ℕ} {s : State} {r : Option State}
    → white ≡ white' → void ≡ void' → Run white void p n t₁ s t₂ r → Run white' void' p n t₁ s t₂ r
run_as e d X = rw (← e, ← d) X

-- the page p was read into the table t, now t₂, and r answered
abbrev Parses : Settings → List ℕ → List ℕ → List ℕ → Result ℕ Refusal → Type 0
Parses f p t t₂ r = Leaves (parse_answer f p (length t)) (parse_table f p t) r t₂

module _ (f : Settings) (p t : List ℕ) {t₂ : List ℕ} {r : Result ℕ Refusal} where
  answers : {A : Result ℕ Refusal} → r ≡ A → parse_answer f p (length t) ≡ A → t₂ ≡ parsed_table f p t A → Parses f p t t₂ r
  unfolding parse_table
  answers q e w = record { is = q ∙ sym e; left = rw e w }

  -- refused as 14 or 1
  pub parses_refused : {x : Refusal} → ◌≡◌ {A = Result ⊤ Refusal} (Err x) (on_page f p (Ok tt)) → Refuses 0 t x r t₂ → Parses f p t t₂ r
  unfolding parse_answer
  parses_refused {x} e Z = answers Z.is (page_refused f p (sym e) _) Z.left

  module _ (l : Readable f p) where
    none : length t < row_at (count_by f p) → Refuses 0 t TableTooSmall r t₂ → Parses f p t t₂ r
    unfolding parse_answer
    none m Z = answers Z.is (rw (l.fine, l.short, lt-ltb (length t) (row_at (count_by f p)) m)) Z.left

    pub parses_short : length t < head_words → Refuses 0 t TableTooSmall r t₂ → Parses f p t t₂ r
    parses_short m = none (omega arith)

    -- the steps ran, from t to t₁
    module _ (h : head_words ≤ length t) {white : ℕ → Bool} {void : List ℕ → Bool} (w : white ≡ f.white) (v : void ≡ f.void)
        {t₁ : List ℕ} {r₁ : Option State}
        (X : Run white void p (length p) t start t₁ r₁) where
      pub parses_full : r₁ ≡ None → length t₁ ≡ length t → Refuses 0 t₁ TableTooSmall r t₂ → Parses f p t t₂ r
      parses_full full e Z =
          let m = (run_as w v X).full t (take head_words t) begin (held_begin t h) (good_begin p) full in
          none (rw (count_same f p) m) (record { is = Z.is; left = rw (← e) Z.left })

      pub parses_read : {q : State} → r₁ ≡ Some q → Finished t₁ q (length p) t₂ → r ≡ Ok q.count → Parses f p t t₂ r
      unfolding parse_answer
      parses_read {q} room F a =
          let H = (run_as w v X).held t (take head_words t) begin q (held_begin t h) (good_begin p) room in
          let n : q.count ≡ count_by f p = H.count ∙ sym (count_same f p) in
          let fits : row_at (count_by f p) ≤ length t = rw (count_same f p) H.rows.filled.fits in
          answers (a ∙ ap Ok n) (rw (l.fine, l.short, le-ltb (length t) (row_at (count_by f p)) fits))
          (F.words t (take head_words t) (read_by f.white f.void p) H ∙ rw (n, H.version))

-- what the steps left may be finished
pub holds_read : {white : ℕ → Bool} {void : List ℕ → Bool} {p t t₁ : List ℕ} {r : Option State} {q : State} → length p ≤ page_limit
    → head_words ≤ length t → Run white void p (length p) t start t₁ r → r ≡ Some q → HoldsReading t₁ q
holds_read {white} {void} {p} {t} {q = q} l h X room =
    let H = X.held t (take head_words t) begin q (held_begin t h) (good_begin p) room in
    let G = good_steps white p void (length p) (good_begin p) in
    record { t = t; hd = take head_words t; R = read_by white void p; held = H; few = omega (arith, H.count, G.few, G.within) }
