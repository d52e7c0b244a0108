-- What a buffered medium accepts, and what the images of its cartridge's two disks give.
use Rattle.std.specs.Prelude.{◌≡◌, ◌+◌, Bool, true, false, List, Option, None, Some}
use Rattle.volume_core.specs.declared.changes.Change.{Change}
use Rattle.volume_core.specs.declared.changes.Refusal.{Refusal}
use Rattle.volume_core.specs.Volume.{after, refusal_of}
use Rattle.tape_disk.specs.TwoDisks.{Images}
use Rattle.cartridge.specs.Contents.{Contents, GivesContents, Start, changes_since, start_of}
use Rattle.accepted_changes.specs.Core.{Rules}

-- there is no cause to refuse a change (own)
abbrev pub is_unrefused : Option Refusal → Bool
is_unrefused None = true
is_unrefused (Some cause) = false

-- the change applies to the volume that these changes make, carried out from the beginning (own)
abbrev pub applies_behind : Start → List Change → Change → Bool
applies_behind start changes change = is_unrefused (refusal_of (after start.volume changes) change)

-- the two images give a cartridge that begins from there, and whose changes since are just these, in order (own)
abbrev pub GivesChanges : Start → List Change → Images → Type 0
GivesChanges start changes images =
    (contents : Contents) × GivesContents contents images × (start_of contents ≡ start)
    × (changes_since contents ≡ changes)

-- These changes, carried out from the first beginning, go into the second, as in a reclaim: the heading stays, the
-- epoch is one more, and the changes make the second volume out of the first (own).
pub record GoesInto (start : Start) (changes : List Change) (next : Start) : Type 0 where
  pub heading : next.heading ≡ start.heading
  pub epoch : next.epoch ≡ start.epoch + 1
  pub volume : next.volume ≡ after start.volume changes

-- A cartridge accepts changes that apply to what stands before them, from the volume on that it had when it was made or
-- last reclaimed, and images give the changes since then; by a reclaim all of them go into that volume (own).
abbrev pub medium_rules : Rules
medium_rules = record {
  Base = Start;
  Item = Change;
  Image = Images;
  applies = applies_behind;
  gives = GivesChanges;
  rebases = GoesInto;
}
