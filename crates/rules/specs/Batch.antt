-- The calls on a list of handles: one test of the table, then the single call's answer for each handle, in order.
use Rattle.std.specs.Prelude.{ℕ, ◌+◌, ◌*◌, Bool, false, ◌||◌, List, [], ◌∷◌, ◌++◌, ltb, length, Result, Ok, Err}
use Rattle.rules.specs.Profile.{Settings}
use Rattle.rules.specs.Scan.{pick, part}
use Rattle.rules.specs.Lists.{each}
use Rattle.rules.specs.Table.{node_at}
use Rattle.rules.specs.Lookup.{lookup}
use Rattle.rules.specs.Text.{inner_text}
use Rattle.rules.specs.Refusals.{asking, not_a_tag, filled_by, held_numbers}
use Rattle.rules.specs.declared.Refusal.TheVariants.{NotATag, BufferTooShort}
use Rattle.rules.specs.declared.Refusal.{Refusal}

-- some number passes the test
unfoldable pub some : (ℕ → Bool) → List ℕ → Bool
some f [] = false
some f (x ∷ xs) = f x || some f xs

-- refusals 14, 1, 3 and 4, 4 if a handle of the list is no tag's; then 7, if there is too little room; then the handles' count
unfoldable pub batch_answer : Settings → List ℕ → List ℕ → List ℕ → Bool → Result ℕ Refusal
batch_answer f p ws hs short =
    asking f p ws
    (pick (some (not_a_tag ws) hs) (Err NotATag) (pick short (Err BufferTooShort) (Ok (length hs))))

-- what f gives for each name of the text s, one after the other: the first starts at `at`, and they end at the places
unfoldable pub each_name : (List ℕ → List ℕ) → List ℕ → ℕ → List ℕ → List ℕ
each_name f s at [] = []
each_name f s at (e ∷ es) = f (part s at e) ++ each_name f s e es

module _ (f : Settings) (p ws : List ℕ) where
  -- what the tag h holds for the attribute name k, in three words
  abbrev pub three_of : ℕ → List ℕ → List ℕ
  three_of h k = held_numbers (lookup f.white p (node_at ws h) k)

module _ (f : Settings) (p ws hs : List ℕ) where
  -- ---- what the tags hold for the attribute name k

  unfoldable pub attributes_found : List ℕ → List ℕ
  attributes_found k = each (λ h. three_of f p ws h k) hs

  -- into n words
  unfoldable pub attributes_answer : ℕ → Result ℕ Refusal
  attributes_answer n = batch_answer f p ws hs (ltb n (3 * length hs))

  unfoldable pub attributes_buffer : List ℕ → List ℕ → List ℕ
  attributes_buffer k out = filled_by out (attributes_found k) (attributes_answer (length out))

  -- ---- and for each name of the text s, which end at the places es; a tag's words stand together

  unfoldable pub names_found : List ℕ → List ℕ → List ℕ
  names_found s es = each (λ h. each_name (three_of f p ws h) s 0 es) hs

  -- into n words
  unfoldable pub names_answer : List ℕ → ℕ → Result ℕ Refusal
  names_answer es n = batch_answer f p ws hs (ltb n (3 * (length es * length hs)))

  unfoldable pub names_buffer : List ℕ → List ℕ → List ℕ → List ℕ
  names_buffer s es out = filled_by out (names_found s es) (names_answer es (length out))

-- where texts end that are written one after the other from `at` on
unfoldable pub ends_from : ℕ → (ℕ → List ℕ) → List ℕ → List ℕ
ends_from at text [] = []
ends_from at text (h ∷ hs) = let e = at + length (text h) in e ∷ ends_from e text hs

module _ (p ws hs : List ℕ) where
  -- ---- the inner texts of the tags, one after the other, and where each ends

  unfoldable pub texts_found : List ℕ
  texts_found = each (inner_text p ws) hs

  unfoldable pub ends_found : List ℕ
  ends_found = ends_from 0 (inner_text p ws) hs

module _ (f : Settings) (p ws hs : List ℕ) where
  -- into n words for the ends and m bytes for the texts
  unfoldable pub texts_answer : ℕ → ℕ → Result ℕ Refusal
  texts_answer n m = batch_answer f p ws hs (ltb n (length hs) || ltb m (length (texts_found p ws hs)))

  unfoldable pub texts_buffer : List ℕ → List ℕ → List ℕ
  texts_buffer ends out = filled_by out (texts_found p ws hs) (texts_answer (length ends) (length out))

  unfoldable pub ends_buffer : List ℕ → List ℕ → List ℕ
  ends_buffer ends out = filled_by ends (ends_found p ws hs) (texts_answer (length ends) (length out))
