-- A run that reads and writes nothing.
use Rattle.std.proofs.Common.{ℕ, Bool, true, false, List, Option, Some, None, Result, Err, Vec, refl}
use Rattle.std.specs.Io.KnownBytes.{Keeps}
use Rattle.std.specs.declared.alloc.Global.{Global}
use Rattle.std.specs.declared.io.Error.{Error}
use Rattle.tape_disk.specs.Disk.{DiskState}
use Rattle.bay_moves.specs.Elements.{HeldState}
use Rattle.vtl_files.specs.Configured.{ReadsConfig, ReadsToOpen}
use Rattle.vtl_power_on.specs.Sides.{SidesGiven}
use Rattle.vtl_power_on.specs.Unfinished.{NotStartedState}
use Rattle.vtl_power_on.specs.Using.{UsesOrder}
use Rattle.vtl_power_on.specs.declared.works.Purpose.{Purpose}
use Rattle.vtl_faults.specs.declared.faults.VtlFault.{VtlFault}

pub keeps_same : (known : Option (List ℕ)) → Keeps known known
keeps_same None = tt
keeps_same (Some bytes) = refl

-- there was no configuration, for a library in memory or in files
abbrev pub NoConfig : (List ℕ → Result (Vec ℕ Global) Error → Type 0) → (memory : Bool) → List ℕ → VtlFault → Type 0
NoConfig reads true name fault = ReadsConfig reads name (Err fault)
NoConfig reads false name fault = ReadsToOpen reads name (Err fault)

pub not_configured : {D : Type 0} (state : D → DiskState) (reads : List ℕ → Result (Vec ℕ Global) Error → Type 0)
    (sides : SidesGiven D) (closes_all : HeldState D → Type 0) (gives_up : NotStartedState D → Type 0)
    (purpose : Purpose) (memory : Bool) (name : List ℕ) (fault : VtlFault) (left before : Option (List ℕ))
    → NoConfig reads memory name fault
    → UsesOrder state reads sides closes_all gives_up purpose memory (Some name) left left before before (Err fault)
not_configured state reads sides closes_all gives_up purpose true name fault left before why =
    (Err fault, why, (refl, (keeps_same left, keeps_same before)))
not_configured state reads sides closes_all gives_up purpose false name fault left before why =
    (Err fault, why, (refl, (keeps_same left, keeps_same before)))
