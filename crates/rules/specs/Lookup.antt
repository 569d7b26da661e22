-- The attribute lookup: a tag's attributes, read again from its name's end, the page taken to end at word 5.
use Rattle.std.specs.Prelude.{ℕ, zero, suc, ◌≤◌, Bool, ◌||◌, List, [], ◌∷◌, length, take, Option, Some, None}
use Rattle.rules.specs.Ascii.{bytes}
use Rattle.rules.specs.Scan.{pick, skip, here, part, same}
use Rattle.rules.specs.Attributes.{not_closing, attribute_at, attribute_next}
use Rattle.rules.specs.declared.Attribute.{Attribute}
use Rattle.rules.specs.declared.Held.{Held}
use Rattle.rules.specs.declared.Held.TheVariants.{Absent, Bare, Value}
use Rattle.rules.specs.declared.Node.{Node}

abbrev pub id_name : List ℕ
id_name = bytes "id"

abbrev pub class_name : List ℕ
class_name = bytes "class"

-- of an id or a class the last counts, and only its value
abbrev pub is_last : List ℕ → Bool
is_last k = same k id_name || same k class_name

-- what an attribute holds, if without a value it holds `alone`
abbrev pub held_as : Held → Option (ℕ × ℕ) → Held
held_as alone None = alone
held_as alone (Some (a, e)) = Value a e

module _ (white : ℕ → Bool) (p : List ℕ) where
  -- the attributes from a place on, up to a `/` or `>` or the end of the page; each takes a byte or more
  unfoldable pub attributes : ℕ → ℕ → List Attribute
  attributes zero at = []
  attributes (suc k) at =
      let s = skip white p at in
      let more = attribute_at white p s ∷ attributes k (attribute_next white p s) in
      pick (here not_closing p s) more []

  abbrev pub named : List ℕ → Attribute → Bool
  named k a = same (part p a.name a.stop) k

  unfoldable pub first_of : List ℕ → List Attribute → Held
  first_of k [] = Absent
  first_of k (a ∷ rest) = let more = first_of k rest in pick (named k a) (held_as Bare a.value) more

  unfoldable pub last_of : List ℕ → Held → List Attribute → Held
  last_of k r [] = r
  last_of k r (a ∷ rest) = last_of k (pick (named k a) (held_as Absent a.value) r) rest

  unfoldable pub lookup_from : ℕ → List ℕ → Held
  lookup_from at k =
      pick (is_last k) (last_of k Absent (attributes (length p) at)) (first_of k (attributes (length p) at))

-- the page as a tag's lookups see it
abbrev pub up_to : List ℕ → Node → List ℕ
up_to p t = take t.opened p

-- what the tag t of the page p holds for the name k
abbrev pub lookup : (ℕ → Bool) → List ℕ → Node → List ℕ → Held
lookup white p t k = lookup_from white (up_to p t) t.stop k

-- a value's places, in order, in a page of n bytes: of what is held, and of what an attribute is given
abbrev pub Inside : ℕ → Held → Type 0
Inside n Absent = Unit {0}
Inside n Bare = Unit {0}
Inside n (Value a e) = (a ≤ e) × (e ≤ n)

abbrev pub InsideAssigned : ℕ → Option (ℕ × ℕ) → Type 0
InsideAssigned n None = Unit {0}
InsideAssigned n (Some (a, e)) = (a ≤ e) × (e ≤ n)

-- ---- the same with the value's bytes

pub data Answer : Type 0 where
  absent : Answer
  bare : Answer
  value : List ℕ → Answer

abbrev pub bytes_in : List ℕ → Held → Answer
bytes_in p Absent = absent
bytes_in p Bare = bare
bytes_in p (Value a e) = value (part p a e)

unfoldable pub answer : (ℕ → Bool) → List ℕ → Node → List ℕ → Answer
answer white p t k = bytes_in (up_to p t) (lookup white p t k)
