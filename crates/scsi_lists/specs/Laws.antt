-- Laws of the tables.
use Rattle.std.specs.Prelude.{◌≡◌, Bool, Ok, Some}
use Rattle.scsi_lists.specs.declared.actions.PrType.{PrType}
use Rattle.scsi_lists.specs.Actions.{type_number, type_of}
use Rattle.scsi_lists.specs.ModeLists.{mode_data, mode_decoded, mode_list}

-- each type is found by its number (own)
abbrev pub TypesDiffer : Type 0
TypesDiffer = (kind : PrType) → type_of (type_number kind) ≡ Some kind

-- mode data that is sent back asks for the mode that it reported (own)
abbrev pub ModeDataAsksForItsMode : Type 0
ModeDataAsksForItsMode =
    (buffered disables : Bool) → mode_decoded (mode_data buffered disables) ≡ Ok (mode_list (Some buffered))
