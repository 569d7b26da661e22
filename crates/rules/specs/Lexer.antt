-- What stands at a place of a page: one text, or one thing that begins with `<`.
use Rattle.std.specs.Prelude.{ℕ, zero, suc, ◌+◌, pred, Bool, true, false, ◌&&◌, List, length, eqb, ltb}
use Rattle.rules.specs.Ascii.{bytes}
use Rattle.rules.specs.Bytes.{is_ident, other, between, is}
use Rattle.rules.specs.Scan.{pick, skip, here, pass, part, agree}
use Rattle.rules.specs.Attributes.{attributes_end}
use Rattle.rules.specs.declared.Item.{Item}
use Rattle.rules.specs.declared.Item.TheVariants.{Text, Close, Comment, Doctype, Tag, Nothing}

abbrev pub next : Item → ℕ
next (Text e) = e
next (Close a e n) = n
next (Comment a e n) = n
next (Doctype h n) = n
next (Tag a e n s) = n
next (Nothing n) = n

abbrev pub is_tag_item : Item → Bool
is_tag_item (Text e) = false
is_tag_item (Close a e n) = false
is_tag_item (Comment a e n) = false
is_tag_item (Doctype h n) = false
is_tag_item (Tag a e n s) = true
is_tag_item (Nothing n) = false

-- the place after a comment's `-->`, or 0 where the page ends first
unfoldable pub comment_end : ℕ → List ℕ → ℕ → ℕ
comment_end zero p at = 0
comment_end (suc k) p at =
    let past = comment_end k p (suc (suc (suc at))) in
    let on = comment_end k p (suc at) in
    let found = pick (here (is 62) p (suc (suc at))) (suc (suc (suc at))) past in
    pick (ltb at (length p)) (pick (here (is 45) p at && here (is 45) p (suc at)) found on) 0

-- a comment that starts at `start`, searched for its end from `at` on; empty where the page ends first
abbrev pub comment_to : List ℕ → ℕ → ℕ → Item
comment_to p start e = pick (eqb e 0) (Comment start start (length p)) (Comment start e e)

abbrev pub lower : ℕ → ℕ
lower b = pick (between 65 90 b) (b + 32) b

-- byte for byte, in any ASCII case, with a name in lower case
abbrev pub same_lower : List ℕ → List ℕ → Bool
same_lower xs ys = agree lower xs ys

abbrev pub doctype_name : List ℕ
doctype_name = bytes "doctype"

abbrev pub html_name : List ℕ
html_name = bytes "html"

-- a tag whose name runs from `at` to `e`, with the `>` looked for at c
abbrev pub tag_to : List ℕ → ℕ → ℕ → ℕ → Bool → Item
tag_to p at e c slash = pick (here (is 62) p c) (Tag at e (pass p c) slash) (Nothing c)

-- with the `/` looked for at a
abbrev pub tag_from : List ℕ → ℕ → ℕ → ℕ → Item
tag_from p at e a = pick (here (is 47) p a) (tag_to p at e (pass p a) true) (tag_to p at e a false)

-- a closing name from `at` on
unfoldable pub closing : List ℕ → ℕ → Item
closing p at = Close at (skip (other 62) p at) (pass p (skip (other 62) p at))

module _ (white : ℕ → Bool) (p : List ℕ) where
  abbrev pub doctype_from : ℕ → ℕ → Item
  doctype_from w f = Doctype (same_lower (part p w f) html_name) (pass p (skip white p f))

  abbrev pub declaration_from : ℕ → ℕ → ℕ → Item
  declaration_from at e w =
      pick (same_lower (part p at e) doctype_name) (doctype_from w (skip is_ident p w)) (Nothing w)

  -- what follows `<!`, with the `!` at `at`
  unfoldable pub bang : ℕ → Item
  bang at =
      pick (here (is 45) p (pass p at) && here (is 45) p (suc (pass p at)))
      (comment_to p (pred at) (comment_end (length p) p (pass p at)))
      (declaration_from (pass p at) (skip is_ident p (pass p at)) (skip white p (skip is_ident p (pass p at))))

  unfoldable pub tag : ℕ → Item
  tag at = tag_from p at (skip is_ident p at) (attributes_end white (length p) p (skip is_ident p at))

  -- what follows `<` and white, at q
  unfoldable pub markup : ℕ → Item
  markup q =
      pick (here (is 47) p q) (closing p (pass p q)) (pick (here (is 33) p q) (bang q) (pick (ltb q (length p)) (tag q) (Nothing q)))

  unfoldable pub item_at : ℕ → Item
  item_at at =
      pick (here (is 60) p at) (markup (skip white p (pass p at))) (Text (skip (other 60) p at))
