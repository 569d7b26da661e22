-- What is promised of a tag's attributes, and the text of one node.
use Rattle.std.specs.Prelude.{◌≡◌, Bool, List, [], ℕ, ◌≤◌, eqb, length, Option, Some, None, IfSome}
use Rattle.rules.specs.Scan.{pick, skip, here, part}
use Rattle.rules.specs.Attributes.{not_closing, attribute_at}
use Rattle.rules.specs.Lookup.{attributes, lookup}
use Rattle.scan.specs.Marks.{white_in}
use Rattle.rules.specs.declared.Node.{Node}
use Rattle.rules.specs.declared.Held.{Held}
use Rattle.rules.specs.declared.Held.TheVariants.{Value}
use Rattle.rules.specs.declared.Attribute.{Attribute}
use Rattle.tag.specs.declared.iter.Attributes.{Attributes}

-- the attribute after the white from i on
unfoldable pub next_attribute : (ℕ → Bool) → List ℕ → ℕ → Option Attribute
next_attribute white p i = pick (here not_closing p (skip white p i)) (Some (attribute_at white p (skip white p i))) None

-- the attributes that a walk has before it
abbrev pub left : Attributes → List Attribute
left s = attributes (white_in s.marks.now) s.page.now (length s.page.now) s.at

-- the attribute's name, and the place after the attribute, lie in a page of n bytes
pub record InPage (n : ℕ) (a : Attribute) : Type 0 where
  pub name : a.name ≤ a.stop
  pub stop : a.stop ≤ n
  pub next : a.next ≤ n

-- a call went on from s to t, which is after the attribute that it gave
abbrev pub GoesOn : Attributes → Option Attribute → Attributes → Type 0
GoesOn s r t = (t.marks ≡ s.marks) × (t.page ≡ s.page) × IfSome r (λ a. (t.at ≡ a.next) × InPage (length s.page.now) a)

-- r is what the tag n of the page p holds for the name; a value ends before the tag's opening does, so it lies in the page
pub record Looked (white : ℕ → Bool) (p : List ℕ) (n : Node) (name : List ℕ) (r : Held) : Type 0 where
  pub is : r ≡ lookup white p n name
  pub within : (a e : ℕ) → r ≡ Value a e → (a ≤ e) × (e ≤ n.opened) × (e ≤ length p)

-- the bytes of a text node; another node has none
abbrev pub node_text : List ℕ → Node → List ℕ
node_text p n = pick (eqb n.kind 2) (part p n.start n.end) []
