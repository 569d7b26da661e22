-- What a selector means for a node, and the nodes that it finds.
use Rattle.std.specs.Prelude.{ℕ, Bool, true, false, ◌&&◌, ◌||◌, List, [], ◌∷◌}
use Rattle.rules.specs.Scan.{pick, part, same}
use Rattle.rules.specs.Lookup.{Answer, absent, bare, value, answer, id_name, class_name}
use Rattle.rules.specs.Words.{ascii_white, unicode_white, has_word, begins, ends, contains}
use Rattle.rules.specs.Sound.{tagged}
use Rattle.rules.specs.Text.{below}
use Rattle.rules.specs.Finds.{handles, passing, valued}
use Rattle.rules.specs.declared.Node.{Node}
use Rattle.rules.specs.declared.View.{View}
use Rattle.rules.specs.declared.Span.{Span}
use Rattle.rules.specs.declared.Simple.{Simple}
use Rattle.rules.specs.declared.Simple.TheVariants.{Tag, Id, Class, All, Attribute, AttributeValue, AttributeValueWhitespacedContains}
use Rattle.rules.specs.declared.Simple.TheVariants.{AttributeValueStartsWith, AttributeValueEndsWith, AttributeValueSubstring}
use Rattle.rules.specs.declared.Joiner.{Joiner}
use Rattle.rules.specs.declared.Joiner.TheVariants.{End, And, Or, Descendant, Parent}
use Rattle.rules.specs.declared.Piece.{Piece}

abbrev pub present : Answer → Bool
present absent = false
present bare = true
present (value v) = true

-- a tag's name
abbrev pub name_of : List ℕ → Node → List ℕ
name_of p n = part p n.name n.stop

-- the bytes of a name in the selector s
abbrev pub span_text : List ℕ → Span → List ℕ
span_text s a = part s a.start a.end

-- a simple selector of s for a tag, by its name and its answers for attribute names
abbrev pub tag_fits : List ℕ → List ℕ → (List ℕ → Answer) → Simple → Bool
tag_fits s name ask (Tag a) = same name (span_text s a)
tag_fits s name ask (Id a) = valued (λ v. same v (span_text s a)) (ask id_name)
tag_fits s name ask (Class a) = valued (has_word ascii_white (span_text s a)) (ask class_name)
tag_fits s name ask All = true
tag_fits s name ask (Attribute a) = present (ask (span_text s a))
tag_fits s name ask (AttributeValue a b) = valued (λ v. same v (span_text s b)) (ask (span_text s a))
tag_fits s name ask (AttributeValueWhitespacedContains a b) = valued (has_word unicode_white (span_text s b)) (ask (span_text s a))
tag_fits s name ask (AttributeValueStartsWith a b) = valued (begins (span_text s b)) (ask (span_text s a))
tag_fits s name ask (AttributeValueEndsWith a b) = valued (ends (span_text s b)) (ask (span_text s a))
tag_fits s name ask (AttributeValueSubstring a b) = valued (contains (span_text s b)) (ask (span_text s a))

-- for a text or a comment: only `*` fits
abbrev pub other_fits : Simple → Bool
other_fits (Tag a) = false
other_fits (Id a) = false
other_fits (Class a) = false
other_fits All = true
other_fits (Attribute a) = false
other_fits (AttributeValue a b) = false
other_fits (AttributeValueWhitespacedContains a b) = false
other_fits (AttributeValueStartsWith a b) = false
other_fits (AttributeValueEndsWith a b) = false
other_fits (AttributeValueSubstring a b) = false

-- a piece that fits or not, and the rest of its chain: descendant and parent never match
abbrev pub joined : Joiner → Bool → Bool → Bool
joined End fits rest = fits
joined And fits rest = fits && rest
joined Or fits rest = fits || rest
joined Descendant fits rest = false
joined Parent fits rest = false

-- the meaning of a chain, from the right
unfoldable pub meaning : (Simple → Bool) → List Piece → Bool
meaning fits [] = false
meaning fits (x ∷ ps) = let rest = meaning fits ps in joined x.joiner (fits x.simple) rest

-- a simple selector of s for any node
abbrev pub node_fits : (ℕ → Bool) → List ℕ → List ℕ → Node → Simple → Bool
node_fits white p s n x = pick (tagged n) (tag_fits s (name_of p n) (answer white p n) x) (other_fits x)

-- the node n matches the chain
abbrev pub matches : (ℕ → Bool) → List ℕ → List ℕ → List Piece → Node → Bool
matches white p s ps n = meaning (node_fits white p s n) ps

module _ (white : ℕ → Bool) (p ws : List ℕ) (v : View) (s : List ℕ) where
  -- of the rows hs that the view shows, those that match it
  abbrev pub among : List ℕ → List Piece → List ℕ
  among hs ps = passing v (matches white p s ps) ws hs

  -- the finds over the whole page, and below a tag
  abbrev pub over_page : List Piece → List ℕ
  over_page ps = among (handles ws) ps

  abbrev pub below_tag : ℕ → List Piece → List ℕ
  below_tag h ps = among (below ws h) ps
