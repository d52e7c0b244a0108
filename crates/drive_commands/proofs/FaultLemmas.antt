-- No work on a medium meets a fault of the keeper.
use Rattle.std.proofs.Common.{◌≡◌, ℕ, zero, suc, List, [], ◌∷◌, Result, Ok, Err, Bool, true, false, refl}
use Rattle.scsi_sense.specs.declared.replies.Reply.{Reply}
use Rattle.scsi_opcodes.specs.declared.commands.Command.{Command}
use Rattle.scsi_opcodes.specs.declared.commands.Command.TheVariants.{TestUnitReady, Rewind, RequestSense, ReadBlockLimits, Read, Write, WriteFilemarks, Space, Inquiry, Erase, Locate, ReadPosition, PersistentReserveIn, PersistentReserveOut, ModeSelect, ModeSense, LoadUnload}
use Rattle.volume_core.specs.declared.changes.Change.{Change}
use Rattle.drive_commands.specs.declared.faults.Fault.{Fault}
use Rattle.drive_commands.specs.declared.faults.Fault.TheVariants.{NoMemory, Writing, Reading, SideFull, Saving, StoreFull}
use Rattle.drive_commands.specs.State.{Mounted, start}
use Rattle.drive_commands.specs.StoredFirst.{GoesTo, StoredFirst}
use Rattle.drive_commands.specs.Space.{SpaceWhen, is_over_nothing}
use Rattle.drive_commands.specs.Work.{MediumWork}
use Rattle.drive_commands.specs.Write.{WriteWork}
use Rattle.drive_commands.specs.Execute.{is_keeper_fault}

module _ (H : Type 0) (sent : List ℕ) (old : Mounted) (made : List Change) (new : Mounted) where
  write_saves_nothing : (block : List ℕ) (buffered : Bool) → WriteWork buffered block old (Err Saving) made new → ⊥
  write_saves_nothing [] buffered h = cc h.0
  write_saves_nothing (byte ∷ bytes) buffered h = h

  space_saves_nothing : (nothing : Bool) (code count : _)
      → SpaceWhen nothing code count old (Err Saving) made new → ⊥
  space_saves_nothing true code count h = cc h.0
  space_saves_nothing false code count h = h.2

  marks_save_nothing : (count : ℕ) (immediate : Bool)
      → MediumWork H (WriteFilemarks count immediate) true sent old (Err Saving) made new → ⊥
  marks_save_nothing zero true h = cc h.0
  marks_save_nothing zero false h = cc h.2.0
  marks_save_nothing (suc n) immediate h = h

  saves_nothing : (command : Command) (buffered : Bool) → MediumWork H command buffered sent old (Err Saving) made new
      → ⊥
  saves_nothing TestUnitReady buffered h = cc h.0
  saves_nothing Rewind buffered h = cc h.2.0
  saves_nothing (Read zero suppress) buffered h = cc h.0
  saves_nothing (Read (suc n) suppress) buffered h = h.2
  saves_nothing (Write length) buffered h = write_saves_nothing sent buffered h
  saves_nothing (WriteFilemarks count immediate) buffered h = marks_save_nothing count immediate h
  saves_nothing (Space code count) buffered h = space_saves_nothing (is_over_nothing code count) code count h
  saves_nothing Erase buffered h = h.2.0
  saves_nothing (Locate object part) buffered h = h.2
  saves_nothing ReadPosition buffered h = h.2.0
  saves_nothing (RequestSense room) buffered h = h
  saves_nothing ReadBlockLimits buffered h = h
  saves_nothing (Inquiry room) buffered h = h
  saves_nothing (PersistentReserveIn action room) buffered h = h
  saves_nothing (PersistentReserveOut action bytes) buffered h = h
  saves_nothing (ModeSelect length) buffered h = h
  saves_nothing (ModeSense room bare) buffered h = h
  saves_nothing (LoadUnload load) buffered h = h

pub faultless_keeper : (H : Type 0) (command : Command) (buffered : Bool) (sent : List ℕ) (old : Mounted)
    (answer : Result Reply Fault) (made : List Change) (new : Mounted)
    → MediumWork H command buffered sent old answer made new → is_keeper_fault answer ≡ false
faultless_keeper H command buffered sent old (Ok reply) made new h = refl
faultless_keeper H command buffered sent old (Err NoMemory) made new h = refl
faultless_keeper H command buffered sent old (Err Writing) made new h = refl
faultless_keeper H command buffered sent old (Err Reading) made new h = refl
faultless_keeper H command buffered sent old (Err (SideFull residue)) made new h = refl
faultless_keeper H command buffered sent old (Err StoreFull) made new h = refl
faultless_keeper H command buffered sent old (Err Saving) made new h =
    absurd (saves_nothing H sent old made new command buffered h)

-- nor does going to the start
pub faultless_start : (old : Mounted) (answer : Result Reply Fault) (made : List Change) (new : Mounted)
    → StoredFirst (GoesTo (λ m. start)) old answer made new → is_keeper_fault answer ≡ false
faultless_start old (Ok reply) made new h = refl
faultless_start old (Err NoMemory) made new h = refl
faultless_start old (Err Writing) made new h = refl
faultless_start old (Err Reading) made new h = refl
faultless_start old (Err (SideFull residue)) made new h = refl
faultless_start old (Err StoreFull) made new h = refl
faultless_start old (Err Saving) made new h = cc h.2.0
