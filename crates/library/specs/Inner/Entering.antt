-- When a change can be entered in the ledgers.
use Rattle.std.specs.Prelude.{◌≡◌, ◌⊎◌, ◌+◌, ◌^◌, ◌<◌, ℕ, List, [], IsSomeAnd}
use Rattle.scsi_sense.specs.declared.replies.Reply.{Reply}
use Rattle.scsi_sense.specs.declared.replies.Status.TheVariants.{Good}
use Rattle.scsi_sense.specs.declared.sense_data.SenseKey.TheVariants.{NoSense}
use Rattle.volume_core.specs.declared.changes.Change.{Change}
use Rattle.drive_commands.specs.ShownChanges.{IsChanging, IsWriteError, ShowsChanges}

-- the reply to this command block shows that no change was made
abbrev pub ShowsNone : List ℕ → Reply → Type 0
ShowsNone cdb reply = (changes : List Change) → ShowsChanges cdb reply changes → changes ≡ []

-- a drive that counted so many changes before the command counts one more, or there is none to enter
abbrev pub CanEnter : ℕ → List ℕ → Reply → Type 0
CanEnter before cdb reply = (before + 1 < 2 ^ 64) ⊎ ShowsNone cdb reply

-- the reply is GOOD, or its sense data have the key NO SENSE or are a write error: a change may have been made (own)
abbrev pub IsNoRefusal : Reply → Type 0
IsNoRefusal reply =
    (reply.status ≡ Good) ⊎ IsSomeAnd reply.sense (λ sense. (sense.key ≡ NoSense) ⊎ IsWriteError sense)

-- the command of this block changes the medium, and the reply leaves it open whether it did (own)
abbrev pub MayHaveChanged : List ℕ → Reply → Type 0
MayHaveChanged cdb reply = IsChanging cdb × IsNoRefusal reply
