-- What the attributes of a tag that were read so far hold for each name, and what one more makes of it.
use Rattle.std.specs.Prelude.{◌≡◌, List, ℕ, ◌*◌, ◌≤◌, length, take, drop}
use Rattle.rules.specs.Scan.{pick, part, same}
use Rattle.rules.specs.Lookup.{InsideAssigned, is_last, held_as}
use Rattle.rules.specs.Profile.{page_limit}
use Rattle.rules.specs.Refusals.{held_numbers}
use Rattle.rules.specs.Batch.{each_name}
use Rattle.rules.specs.declared.Attribute.{Attribute}
use Rattle.rules.specs.declared.Held.{Held}
use Rattle.rules.specs.declared.Held.TheVariants.{Absent, Bare, Value}
use Rattle.attributes.specs.Slots.{name_at}

-- the three words of each name of the text s, which end at the places; f is what is held for a name
abbrev pub held_words : (List ℕ → Held) → List ℕ → List ℕ → List ℕ
held_words f s es = each_name (λ k. held_numbers (f k)) s 0 es

-- the first of two that is not absent
abbrev pub first_held : Held → Held → Held
first_held Absent w = w
first_held Bare w = Bare
first_held (Value a e) w = Value a e

-- v was held for the name k, and the attribute a of the page p was read. If it has the name, then of an id or a class it counts,
-- and of another name it counts if none did before
abbrev pub noted : List ℕ → Attribute → List ℕ → Held → Held
noted p a k v =
    let now = pick (is_last k) (held_as Absent a.value) (first_held v (held_as Bare a.value)) in
    pick (same (part p a.name a.stop) k) now v

-- the name's words w, afterwards w₁
abbrev pub Notes : List ℕ → Attribute → List ℕ → List ℕ → List ℕ → Type 0
Notes p a k w w₁ = (v : Held) → w ≡ held_numbers v → w₁ ≡ held_numbers (noted p a k v)

-- the words of name j
abbrev pub name_words : ℕ → List ℕ → List ℕ
name_words j w = take 3 (drop (3 * j) w)

-- the words w of all names, afterwards w₁: name j's were noted, the others are as they were
pub record NotesOne (p : List ℕ) (a : Attribute) (s es : List ℕ) (j : ℕ) (w w₁ : List ℕ) : Type 0 where
  pub size : length w₁ ≡ length w
  pub its : Notes p a (name_at s es j) (name_words j w) (name_words j w₁)
  pub others : (i : ℕ) → (i ≡ j → ⊥) → name_words i w₁ ≡ name_words i w

-- each name's were noted
abbrev pub NotesAll : List ℕ → Attribute → List ℕ → List ℕ → List ℕ → List ℕ → Type 0
NotesAll p a s es w w₁ = (f : List ℕ → Held) → w ≡ held_words f s es → w₁ ≡ held_words (λ k. noted p a k (f k)) s es

-- the attribute's name lies in a page of n bytes, and its value in the longest page, so that its places fit a word
pub record FitsWords (n : ℕ) (a : Attribute) : Type 0 where
  pub name : a.name ≤ a.stop
  pub stop : a.stop ≤ n
  pub value : InsideAssigned page_limit a.value
