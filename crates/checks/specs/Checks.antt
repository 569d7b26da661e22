-- What is asked of a list of handles, and what is known of it once nothing is refused.
use Rattle.std.specs.Prelude.{true, EachIndex, slice_index, ◌≡◌, List, ℕ, Result, Ok, Err, ⊤}
use Rattle.rules.specs.Profile.{Settings}
use Rattle.rules.specs.Scan.{pick}
use Rattle.rules.specs.Sound.{is_tag}
use Rattle.rules.specs.Refusals.{asking, not_a_tag}
use Rattle.rules.specs.Batch.{some}
use Rattle.rules.specs.declared.Refusal.TheVariants.{NotATag}
use Rattle.rules.specs.declared.Refusal.{Refusal}

-- refusals 14, 1, 3 and 4
abbrev pub tags_checked : Settings → List ℕ → List ℕ → List ℕ → Result ⊤ Refusal
tags_checked f p ws hs = asking f p ws (pick (some (not_a_tag ws) hs) (Err NotATag) (Ok tt))

-- each handle is a tag's
abbrev pub AllTags : List ℕ → List ℕ → Type 0
AllTags ws hs = EachIndex hs (λ k. is_tag ws (slice_index hs k) ≡ true)
