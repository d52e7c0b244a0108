-- What the program does where it serves frames (own).
use Rattle.std.specs.Prelude.{◌≡◌, ◌⊎◌, ℕ, List, [], ◌∷◌, map, Option, Result, Ok, Err}
use Rattle.tape_disk.specs.Disk.{DiskState}
use Rattle.bay_moves.specs.Elements.{HeldState}
use Rattle.library.specs.Ends.{EndsShared}
use Rattle.library.specs.declared.finishing.FinishError.{FinishError}
use Rattle.vtl_config.specs.Entries.{address_of}
use Rattle.vtl_config.specs.declared.entries.CartridgeEntry.{CartridgeEntry}
use Rattle.vtl_wire.specs.declared.faults.WireFault.{WireFault}
use Rattle.vtl_serve.specs.Libraries.{ServesShared}
use Rattle.vtl_serve.specs.declared.labels.Label.{Label}
use Rattle.vtl_faults.specs.declared.faults.VtlFault.{VtlFault}
use Rattle.vtl_faults.specs.declared.faults.VtlFault.TheVariants.{Device, NoMemory}
use Rattle.vtl_faults.specs.FromBelow.{fault_of_wire}
use Rattle.vtl_power_on.specs.Running.{IsIdle, every_nexus}
use Rattle.vtl_power_on.specs.Starting.{built_in_barcode}

-- the program's outcome, by how its serving ended and whether all was then written out: the first fault decides (own)
abbrev pub served_outcome :
    Result (Unit {0}) WireFault → Result (List (Option ℕ)) FinishError → Result (Unit {0}) VtlFault
served_outcome (Ok done) (Ok counts) = Ok done
served_outcome (Ok done) (Err why) = Err Device
served_outcome (Err fault) counts = Err (fault_of_wire fault)

-- the label of a cartridge at its home (own)
abbrev pub home_label : CartridgeEntry → Label
home_label entry = record { address = address_of entry.home; barcode = entry.barcode }

-- the labels of cartridges at their homes (own)
abbrev pub labels_of : List CartridgeEntry → List Label
labels_of entries = map home_label entries

-- the label of the built-in configuration's cartridge: it is in drive 1 (own)
abbrev pub built_in_labels : List Label
built_in_labels = record { address = 1; barcode = built_in_barcode } ∷ []

-- All hosts were served over this library, whose cartridges were where the labels say, and which threads shared. Then
-- every buffer was written out, by a turn of each drive. The library has the drives that it had, the types keep its
-- slots and drives, and nothing is left to be written of any, or what is loaded in one has failed (own).
pub record ServesStarted {D : Type 0} (state : D → DiskState) (old : HeldState D) (labels : List Label)
    (left left' before now : Option (List ℕ)) (new : HeldState D) (outcome : Result (Unit {0}) VtlFault) : Type 0 where
  pub ended : Result (Unit {0}) WireFault
  pub counts : Result (List (Option ℕ)) FinishError
  pub answers : ℕ
  pub moves : ℕ
  pub serves :
      ServesShared state old.bays labels every_nexus left before left' now ended new.bays counts answers moves
  pub ends : EndsShared state old.bays new.bays new.slots counts
  pub outcome_is : outcome ≡ served_outcome ended counts

-- they were served in this way; or memory ran out before, nothing was read or written, and the library is unchanged
-- (own)
abbrev pub ServesHeld : {D : Type 0} → (D → DiskState) → (old : HeldState D) → List Label
    → (left left' before now : Option (List ℕ)) → (new : HeldState D) → Result (Unit {0}) VtlFault → Type 0
ServesHeld state old labels left left' before now new outcome =
    ServesStarted state old labels left left' before now new outcome
    ⊎ ((outcome ≡ Err NoMemory) × (new ≡ old) × IsIdle left left' before now)
