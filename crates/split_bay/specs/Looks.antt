-- What is found of a medium once its two halves are held: its device worked on behind the hosts.
use Rattle.std.specs.Prelude.{◌≡◌, ◌≤◌, ◌++◌, ◌&&◌, List, [], length, Bool, true, false, not}
use Rattle.volume_core.specs.declared.changes.Change.{Change}
use Rattle.volume_core.specs.Medium.{MediumState, volume_of}
use Rattle.volume_core.specs.Stores.{Stores}
use Rattle.drive_commands.specs.declared.bays.Bay.{Bay}
use Rattle.drive_commands.specs.declared.bays.Bay.TheVariants.{Empty, Unloaded, Loaded}
use Rattle.drive_commands.specs.State.{Machine}

-- the frame that was in flight when the device failed: a first part of what is pending, of which there is some (own)
pub record IsTorn (new : MediumState) : Type 0 where
  pub some_pending : 1 ≤ length new.pending
  pub rest : List Change
  pub torn : new.pending ≡ new.torn ++ rest

-- Hosts see the old medium, and both halves find the new one. A first part of what was pending is stored, and the
-- volume is the same; or the device has failed while something was stored. A medium that has failed, or is not awake,
-- is found unchanged. So is one that works and of which nothing was stored (own).
pub record Looked (old new : MediumState) : Type 0 where
  pub stores : Stores old [] new
  pub volume : volume_of new ≡ volume_of old
  pub awake : new.awake ≡ old.awake
  pub unread : new.unread ≡ old.unread
  pub failed : old.failed ≡ true → new ≡ old
  pub parked : old.awake ≡ false → new ≡ old
  pub idle : new.failed ≡ false → new.pending ≡ old.pending → new ≡ old
  pub torn : old.failed ≡ false → new.failed ≡ true → IsTorn new

-- the same of what is in a drive: it is there still, loaded or not as before (own)
abbrev pub LookedIn : Bay MediumState → Bay MediumState → Type 0
LookedIn Empty Empty = Unit {0}
LookedIn (Unloaded old) (Unloaded new) = Looked old new
LookedIn (Loaded old) (Loaded new) = Looked old new
LookedIn _ _ = ⊥

-- a medium is awake, and its device has failed (own)
abbrev pub is_broken : MediumState → Bool
is_broken medium = medium.awake && medium.failed

-- what is loaded has failed, and was not seen to have (own)
abbrev pub fails_anew : Bay MediumState → Bay MediumState → Bool
fails_anew (Loaded old) (Loaded new) = is_broken new && not old.failed
fails_anew _ _ = false

-- the deferred error is established where the device has failed, and was not seen to have; else it stays (own)
abbrev pub deferred_after : Bool → Bool → Bool
deferred_after true deferred = true
deferred_after false deferred = deferred

-- A drive is looked at once both halves of its medium are held. The medium is as it is found, and a fault that was not
-- reported establishes a deferred error. Nothing else has changed (own).
pub record Looks (old new : Machine) : Type 0 where
  pub bay : LookedIn old.bay new.bay
  pub others :
      new ≡ record old { bay = new.bay; deferred = deferred_after (fails_anew old.bay new.bay) old.deferred }
