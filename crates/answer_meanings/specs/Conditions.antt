-- The conditions that sense data report, in one table.
use Rattle.std.specs.Prelude.{ℕ, Bool, List, [], ◌∷◌, Option, Some, find, if◌then◌else◌, ◌==◌, ◌&&◌}
use Rattle.scsi_sense.specs.SenseData.{key_number}
use Rattle.scsi_sense.specs.declared.sense_data.Sense.{Sense}
use Rattle.scsi_sense.specs.declared.sense_data.SenseKey.{SenseKey}
use Rattle.scsi_sense.specs.declared.sense_data.SenseKey.TheVariants.{NoSense, NotReady, MediumError, HardwareError, IllegalRequest, UnitAttention, BlankCheck, AbortedCommand, VolumeOverflow}
use Rattle.answer_meanings.specs.declared.conditions.Condition.{Condition}
use Rattle.answer_meanings.specs.declared.conditions.Condition.TheVariants as is
use Rattle.answer_meanings.specs.declared.conditions.Row.{Row}

-- a row: sense key, additional sense code and qualifier (SPC-4, fixed format)
abbrev pub condition_row : SenseKey → ℕ → ℕ → Row
condition_row key code qualifier = record { key = key; code = code; qualifier = qualifier }

-- the table (SPC-4, SSC-4, SMC-3)
abbrev pub row_of_condition : Condition → Row
row_of_condition is.NothingToReport = condition_row NoSense 0x00 0x00
row_of_condition is.IncorrectLength = condition_row NoSense 0x00 0x00
row_of_condition is.Filemark = condition_row NoSense 0x00 0x01
row_of_condition is.EarlyWarning = condition_row NoSense 0x00 0x02
row_of_condition is.Beginning = condition_row NoSense 0x00 0x04
row_of_condition is.NotPresent = condition_row NotReady 0x3a 0x00
row_of_condition is.WriteError = condition_row MediumError 0x0c 0x00
row_of_condition is.ReadError = condition_row MediumError 0x11 0x00
row_of_condition is.Failed = condition_row HardwareError 0x44 0x00
row_of_condition is.UnknownCommand = condition_row IllegalRequest 0x20 0x00
row_of_condition is.WrongBlock = condition_row IllegalRequest 0x24 0x00
row_of_condition is.WrongListLength = condition_row IllegalRequest 0x1a 0x00
row_of_condition is.WrongList = condition_row IllegalRequest 0x26 0x00
row_of_condition is.WrongRelease = condition_row IllegalRequest 0x26 0x04
row_of_condition is.WrongAddress = condition_row IllegalRequest 0x21 0x01
row_of_condition is.DestinationFull = condition_row IllegalRequest 0x3b 0x0d
row_of_condition is.SourceEmpty = condition_row IllegalRequest 0x3b 0x0e
row_of_condition is.StoreFull = condition_row IllegalRequest 0x55 0x04
row_of_condition is.PowerOn = condition_row UnitAttention 0x29 0x00
row_of_condition is.MediumChanged = condition_row UnitAttention 0x28 0x00
row_of_condition is.ReservationsPreempted = condition_row UnitAttention 0x2a 0x03
row_of_condition is.RegistrationsPreempted = condition_row UnitAttention 0x2a 0x05
row_of_condition is.ReservationsReleased = condition_row UnitAttention 0x2a 0x04
row_of_condition is.ModeChanged = condition_row UnitAttention 0x2a 0x01
row_of_condition is.EndOfData = condition_row BlankCheck 0x00 0x05
row_of_condition is.NoMemory = condition_row AbortedCommand 0x55 0x03
row_of_condition is.NoRoom = condition_row VolumeOverflow 0x00 0x02

-- the conditions that are known by key and code: all but that of ILI (own)
abbrev pub conditions : List Condition
conditions =
    is.NothingToReport ∷ is.Filemark ∷ is.EarlyWarning ∷ is.Beginning ∷ is.NotPresent ∷ is.WriteError
    ∷ is.ReadError ∷ is.Failed ∷ is.UnknownCommand ∷ is.WrongBlock ∷ is.WrongListLength ∷ is.WrongList
    ∷ is.WrongRelease ∷ is.WrongAddress ∷ is.DestinationFull ∷ is.SourceEmpty ∷ is.StoreFull ∷ is.PowerOn
    ∷ is.MediumChanged ∷ is.ReservationsPreempted ∷ is.RegistrationsPreempted ∷ is.ReservationsReleased
    ∷ is.ModeChanged ∷ is.EndOfData ∷ is.NoMemory ∷ is.NoRoom ∷ []

-- sense data have the key, the code and the qualifier of this condition (SPC-4, fixed format)
abbrev pub is_in : Sense → Condition → Bool
is_in sense condition =
    key_number (row_of_condition condition).key == key_number sense.key
    && (row_of_condition condition).code == sense.code
    && (row_of_condition condition).qualifier == sense.qualifier

-- the condition of these sense data by key and code, if they have those of one (own)
abbrev pub coded_condition : Sense → Option Condition
coded_condition sense = find (is_in sense) conditions

-- the condition that sense data report, if any: with ILI a block of another length (SSC-4, READ(6)), else by key and
-- code (own)
abbrev pub condition_of : Sense → Option Condition
condition_of sense = if sense.incorrect_length then Some is.IncorrectLength else coded_condition sense
