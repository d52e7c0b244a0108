-- Command descriptor blocks: the fields of each command, read from named bytes.
use Rattle.std.specs.Prelude.{ℕ, ℤ, List, length, slice_index, drop, Option, None, Some, option_map, Result, Ok, Err, Bool, nat_lt, not, ◌%◌, ◌==◌, ◌||◌, if◌then◌else◌}
use Rattle.std.specs.Int.{bit_at}
use Rattle.byteorder.specs.Endian.{big_number, twos_complement}
use Rattle.vtl_base.specs.declared.limits.TheConstants.{MAX_BLOCK}
use Rattle.vtl_base.specs.declared.space_codes.SpaceCode.{SpaceCode}
use Rattle.vtl_base.specs.declared.space_codes.SpaceCode.TheVariants as counts
use Rattle.scsi_opcodes.specs.declared.opcodes.Opcode.{Opcode}
use Rattle.scsi_opcodes.specs.declared.opcodes.Opcode.TheVariants as code
use Rattle.scsi_opcodes.specs.declared.commands.Command.{Command}
use Rattle.scsi_opcodes.specs.declared.commands.Command.TheVariants.{TestUnitReady, Rewind, RequestSense, ReadBlockLimits, Read, Write, WriteFilemarks, Space, Inquiry, ModeSelect, Erase, ModeSense, LoadUnload, Locate, ReadPosition, PersistentReserveIn, PersistentReserveOut}
use Rattle.scsi_opcodes.specs.declared.commands.PrRead.{PrRead}
use Rattle.scsi_opcodes.specs.declared.commands.PrRead.TheVariants as pr_reads
use Rattle.scsi_lists.specs.Actions.{action_of}
use Rattle.scsi_sense.specs.declared.sense_data.Sense.{Sense}
use Rattle.scsi_opcodes.specs.Opcodes.{opcode_of, block_length}
use Rattle.scsi_sense.specs.Senses.{invalid_operation_code, invalid_field}

-- a bit of a byte, bit 0 the lowest (own)
abbrev pub is_bit_set : ℕ → ℕ → Bool
is_bit_set byte bit = bit_at byte bit == 1

-- FIXED: byte 1 bit 0 (SSC-4, READ(6), WRITE(6))
abbrev pub is_fixed : List ℕ → Bool
is_fixed cdb = is_bit_set (slice_index cdb 1) 0

-- SILI: byte 1 bit 1 (SSC-4, READ(6))
abbrev pub suppresses_length : List ℕ → Bool
suppresses_length cdb = is_bit_set (slice_index cdb 1) 1

-- IMMED: byte 1 bit 0 (SSC-4, WRITE FILEMARKS(6))
abbrev pub is_immediate : List ℕ → Bool
is_immediate cdb = is_bit_set (slice_index cdb 1) 0

-- TRANSFER LENGTH, FILEMARK COUNT: bytes 2 to 4, the highest first (SSC-4)
abbrev pub transfer_length : List ℕ → ℕ
transfer_length cdb = big_number 3 (drop 2 cdb)

-- DESC: byte 1 bit 0 (SPC-4, REQUEST SENSE)
abbrev pub asks_descriptors : List ℕ → Bool
asks_descriptors cdb = is_bit_set (slice_index cdb 1) 0

-- ALLOCATION LENGTH of one byte: byte 4 (SPC-4, REQUEST SENSE, MODE SENSE(6))
abbrev pub short_allocation : List ℕ → ℕ
short_allocation cdb = slice_index cdb 4

-- MLOI: byte 1 bit 0 (SSC-4, READ BLOCK LIMITS)
abbrev pub asks_object_limit : List ℕ → Bool
asks_object_limit cdb = is_bit_set (slice_index cdb 1) 0

-- EVPD: byte 1 bit 0 (SPC-4, INQUIRY)
abbrev pub asks_product_page : List ℕ → Bool
asks_product_page cdb = is_bit_set (slice_index cdb 1) 0

-- PAGE CODE: byte 2 (SPC-4, INQUIRY)
abbrev pub page_code : List ℕ → ℕ
page_code cdb = slice_index cdb 2

-- ALLOCATION LENGTH: bytes 3 and 4, the highest first (SPC-4, INQUIRY)
abbrev pub allocation_length : List ℕ → ℕ
allocation_length cdb = big_number 2 (drop 3 cdb)

-- CODE: byte 1 bits 3 to 0; 0 is blocks, 1 filemarks, 3 the end of data, and no other is known
-- (SSC-4, SPACE(6); that 2 and 4 are not known, own)
abbrev pub space_code : ℕ → Option SpaceCode
space_code code =
    if code == 0 then Some counts.Blocks
    else (if code == 1 then Some counts.Filemarks
    else (if code == 3 then Some counts.EndOfData
    else None))

-- COUNT: bytes 2 to 4, the highest first, in two's complement; below 0 it is backward (SSC-4, SPACE(6))
abbrev pub space_count : List ℕ → ℤ
space_count cdb = twos_complement 3 (big_number 3 (drop 2 cdb))

-- SPACE with a code that is known (SSC-4, SPACE(6))
abbrev pub space_of : Option SpaceCode → ℤ → Option Command
space_of None count = None
space_of (Some code) count = Some (Space code count)

-- SP: byte 1 bit 0 (SPC-4, MODE SELECT(6))
abbrev pub asks_saving : List ℕ → Bool
asks_saving cdb = is_bit_set (slice_index cdb 1) 0

-- PARAMETER LIST LENGTH of one byte: byte 4 (SPC-4, MODE SELECT(6))
abbrev pub short_list_length : List ℕ → ℕ
short_list_length cdb = slice_index cdb 4

-- DBD, disable block descriptors: byte 1 bit 3 (SPC-4, MODE SENSE(6))
abbrev pub disables_descriptors : List ℕ → Bool
disables_descriptors cdb = is_bit_set (slice_index cdb 1) 3

-- PAGE CODE: byte 2 bits 5 to 0 (SPC-4, MODE SENSE(6))
abbrev pub mode_page : List ℕ → ℕ
mode_page cdb = slice_index cdb 2 % 64

-- page 0 asks for no page, 3Fh for all that there are, which are none (SPC-4, MODE SENSE(6); no pages, own)
abbrev pub is_mode_page_known : List ℕ → Bool
is_mode_page_known cdb = mode_page cdb == 0x00 || mode_page cdb == 0x3f

-- LOAD: byte 4 bit 0 (SSC-4, LOAD UNLOAD)
abbrev pub asks_load : List ℕ → Bool
asks_load cdb = is_bit_set (slice_index cdb 4) 0

-- LOGICAL OBJECT IDENTIFIER: bytes 3 to 6, the highest first (SSC-4, LOCATE(10))
abbrev pub object_identifier : List ℕ → ℕ
object_identifier cdb = big_number 4 (drop 3 cdb)

-- CP: byte 1 bit 1 (SSC-4, LOCATE(10))
abbrev pub changes_partition : List ℕ → Bool
changes_partition cdb = is_bit_set (slice_index cdb 1) 1

-- PARTITION: byte 8, which counts where CP is set (SSC-4, LOCATE(10))
abbrev pub partition_asked : List ℕ → Option ℕ
partition_asked cdb = if changes_partition cdb then Some (slice_index cdb 8) else None

-- SERVICE ACTION: byte 1 bits 4 to 0 (SPC-4, SSC-4; 0 of READ POSITION is the short form)
abbrev pub service_action : List ℕ → ℕ
service_action cdb = slice_index cdb 1 % 32

-- what PERSISTENT RESERVE IN reads, by its service action; no other is known
-- (SPC-4, PERSISTENT RESERVE IN; that others are not known, own)
abbrev pub pr_read_of : ℕ → Option PrRead
pr_read_of action =
    if action == 0 then Some pr_reads.ReadKeys
    else (if action == 1 then Some pr_reads.ReadReservation
    else None)

-- ALLOCATION LENGTH of a block of ten bytes: bytes 7 and 8, the highest first (SPC-4, PERSISTENT RESERVE IN)
abbrev pub late_allocation : List ℕ → ℕ
late_allocation cdb = big_number 2 (drop 7 cdb)

-- SCOPE and TYPE: byte 2 (SPC-4, PERSISTENT RESERVE OUT)
abbrev pub scope_and_type : List ℕ → ℕ
scope_and_type cdb = slice_index cdb 2

-- PARAMETER LIST LENGTH: bytes 5 to 8, the highest first (SPC-4, PERSISTENT RESERVE OUT)
abbrev pub list_length : List ℕ → ℕ
list_length cdb = big_number 4 (drop 5 cdb)

-- the command of a block of the right length, where its fields are right; nothing else in the block counts (SPC-4,
-- SSC-4; own that FIXED, DESC, MLOI, EVPD, SP, pages and long forms are refused)
abbrev pub command_by_fields : Opcode → List ℕ → Option Command
command_by_fields code.TestUnitReady cdb = Some TestUnitReady
command_by_fields code.Rewind cdb = Some Rewind
command_by_fields code.RequestSense cdb =
    if asks_descriptors cdb then None else Some (RequestSense (short_allocation cdb))
command_by_fields code.ReadBlockLimits cdb = if asks_object_limit cdb then None else Some ReadBlockLimits
command_by_fields code.Read cdb =
    if is_fixed cdb then None else Some (Read (transfer_length cdb) (suppresses_length cdb))
command_by_fields code.Write cdb =
    if is_fixed cdb || nat_lt MAX_BLOCK (transfer_length cdb) then None else Some (Write (transfer_length cdb))
command_by_fields code.WriteFilemarks cdb = Some (WriteFilemarks (transfer_length cdb) (is_immediate cdb))
command_by_fields code.Space cdb = space_of (space_code (slice_index cdb 1 % 16)) (space_count cdb)
command_by_fields code.Inquiry cdb =
    if asks_product_page cdb || not (page_code cdb == 0) then None else Some (Inquiry (allocation_length cdb))
command_by_fields code.ModeSelect cdb = if asks_saving cdb then None else Some (ModeSelect (short_list_length cdb))
command_by_fields code.Erase cdb = Some Erase
command_by_fields code.ModeSense cdb =
    if is_mode_page_known cdb then Some (ModeSense (short_allocation cdb) (disables_descriptors cdb)) else None
command_by_fields code.LoadUnload cdb = Some (LoadUnload (asks_load cdb))
command_by_fields code.Locate cdb = Some (Locate (object_identifier cdb) (partition_asked cdb))
command_by_fields code.ReadPosition cdb = if service_action cdb == 0 then Some ReadPosition else None
command_by_fields code.PersistentReserveIn cdb =
    option_map (λ action. PersistentReserveIn action (late_allocation cdb)) (pr_read_of (service_action cdb))
command_by_fields code.PersistentReserveOut cdb =
    option_map (λ action. PersistentReserveOut action (list_length cdb))
    (action_of (service_action cdb) (scope_and_type cdb))

-- the command of a block, where its length and its fields are right (own)
abbrev pub command_of : Opcode → List ℕ → Option Command
command_of opcode cdb = if length cdb == block_length opcode then command_by_fields opcode cdb else None

-- the operation code of a command (SPC-4, SSC-4)
abbrev pub code_of : Command → Opcode
code_of TestUnitReady = code.TestUnitReady
code_of Rewind = code.Rewind
code_of (RequestSense length) = code.RequestSense
code_of ReadBlockLimits = code.ReadBlockLimits
code_of (Read length suppress) = code.Read
code_of (Write length) = code.Write
code_of (WriteFilemarks count immediate) = code.WriteFilemarks
code_of (Space counted count) = code.Space
code_of (Inquiry length) = code.Inquiry
code_of (ModeSelect length) = code.ModeSelect
code_of Erase = code.Erase
code_of (ModeSense length disables) = code.ModeSense
code_of (LoadUnload load) = code.LoadUnload
code_of (Locate object part) = code.Locate
code_of ReadPosition = code.ReadPosition
code_of (PersistentReserveIn action length) = code.PersistentReserveIn
code_of (PersistentReserveOut action length) = code.PersistentReserveOut

-- how many bytes a host sends with a command: a WRITE's block, or a parameter list
-- (SSC-4, WRITE(6); SPC-4, MODE SELECT(6), PERSISTENT RESERVE OUT)
abbrev pub sent_length : Command → ℕ
sent_length (Write length) = length
sent_length (ModeSelect length) = length
sent_length (PersistentReserveOut action length) = length
sent_length _ = 0

-- how many bytes a command writes on the medium: a WRITE's block (SSC-4, WRITE(6))
abbrev pub written_length : Command → ℕ
written_length (Write length) = length
written_length _ = 0

-- a command, or the refusal where there is none (SPC-4)
abbrev pub checked : Option Command → Result Command Sense
checked None = Err invalid_field
checked (Some command) = Ok command

-- the command of a block, after its code was looked up (own)
abbrev pub decoded_as : Option Opcode → List ℕ → Result Command Sense
decoded_as None cdb = Err invalid_operation_code
decoded_as (Some opcode) cdb = checked (command_of opcode cdb)

-- the command of a block, or why it has none: first the code, then length and fields (own, the order of checks)
abbrev pub decoded : List ℕ → Result Command Sense
decoded cdb = decoded_as (opcode_of cdb) cdb
