-- What is known of tags that passed the checks.
use mathlib.Core.Path.{ap}
use mathlib.Core.Bool.{not}
use Prim.Native.Nat.{ℕ, ◌≤◌, ◌<◌}
use lib.ListN.{length, get_or}
use Rattle.rules.specs.Profile.{page_limit, settings_of}
use Rattle.rules.proofs.Asking.{Readable, page_short, SoundTag, sound_tag}
use Rattle.checks.specs.declared.Tags.{Tags}

module _ (t : Tags) where
  -- neither 14 nor 1
  readable : Readable (settings_of t.profile.bytes.now) t.document.page.now
  readable = record { fine = ap not t.profile.fine; short = t.short }

  -- the page is short enough for the words of a table
  pub tags_short : length t.document.page.now ≤ page_limit
  tags_short = page_short t.profile.bytes.now t.document.page.now readable

  -- the handle at i is a tag's
  pub tag_at : (i : ℕ) → i < length t.handles.now
      → SoundTag (settings_of t.profile.bytes.now) t.document.page.now t.document.table.now (get_or t.handles.now i 0)
  tag_at i l =
      let f = settings_of t.profile.bytes.now in
      let p = t.document.page.now in
      let ws = t.document.table.now in
      sound_tag f p ws (get_or t.handles.now i 0) (record { fine = readable.fine; short = readable.short; table = t.document.fits })
      (ap not (t.each i l))
