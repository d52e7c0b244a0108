-- What a front end asks for, in bytes (own).
use Rattle.std.specs.Prelude.{ℕ, ◌≤◌, ◌<◌, ◌^◌, List, [], ◌++◌, length, flat_map}
use Rattle.std.specs.Int.{to_be_bytes, w32}
use Rattle.vtl_base.specs.declared.limits.TheConstants.{NEXUSES, DRIVES}
use Rattle.vtl_wire.specs.declared.frames.TheConstants.{MOST_CDB, MOST_DATA}
use Rattle.vtl_wire.specs.declared.frames.FrameKind.TheVariants as kinds
use Rattle.vtl_wire.specs.declared.requests.Request.{Request}
use Rattle.vtl_wire.specs.declared.requests.Request.TheVariants.{Command, Move, Inventory}
use Rattle.vtl_wire.specs.Frames.{Frame, spell_frame}
use Rattle.vtl_wire.specs.Grammars.{BeginsWith, Grammar, IsFrameRefused, SpellsFrames}

-- the frame of a request: of a command the block and the data; of a move its two element addresses, 4 bytes each, the
-- highest first; host and drive are 0 in a move and in an inventory (own)
abbrev pub frame_of_request : Request → Frame
frame_of_request (Command host drive cdb sent tag) =
    record { kind = kinds.Command; host = host; detail = drive; tag = tag; front = cdb; payload = sent }
frame_of_request (Move from to tag) = record {
  kind = kinds.Move;
  host = 0;
  detail = 0;
  tag = tag;
  front = to_be_bytes w32 from ++ to_be_bytes w32 to;
  payload = [];
}
frame_of_request (Inventory tag) =
    record { kind = kinds.Inventory; host = 0; detail = 0; tag = tag; front = []; payload = [] }

-- a command that has a spelling: host 1 to 64, drive 1 to 16, a block of 0 to 16 bytes, at most 1,100,000 bytes of
-- data (own)
pub record IsCommandSent (host drive : ℕ) (cdb sent : List ℕ) : Type 0 where
  pub least_host : 1 ≤ host
  pub most_host : host ≤ NEXUSES
  pub least_drive : 1 ≤ drive
  pub most_drive : drive ≤ DRIVES
  pub block : length cdb ≤ MOST_CDB
  pub sent_with : length sent ≤ MOST_DATA

-- a request that has a spelling: its tag, and the addresses of a move, are any numbers of four bytes (own)
abbrev pub IsRequest : Request → Type 0
IsRequest (Command host drive cdb sent tag) = IsCommandSent host drive cdb sent × (tag < 2 ^ 32)
IsRequest (Move from to tag) = (from < 2 ^ 32) × (to < 2 ^ 32) × (tag < 2 ^ 32)
IsRequest (Inventory tag) = tag < 2 ^ 32

-- a request that a frame holds (own)
abbrev pub FitsRequest : Request → Type 0
FitsRequest (Command host drive cdb sent tag) = (length cdb ≤ MOST_CDB) × (length sent ≤ MOST_DATA)
FitsRequest (Move from to tag) = Unit {0}
FitsRequest (Inventory tag) = Unit {0}

-- a request in bytes (own)
abbrev pub spell_request : Request → List ℕ
spell_request request = spell_frame (frame_of_request request)

-- requests in bytes, one after the other (own)
abbrev pub spell_requests : List Request → List ℕ
spell_requests requests = flat_map spell_request requests

-- the frames that a front end writes (own)
abbrev pub request_frames : Grammar Request
request_frames = record { has = IsRequest; spell = spell_request }

-- the bytes spell these requests, in this order, and nothing more (own)
abbrev pub SpellsRequests : List ℕ → List Request → Type 0
SpellsRequests bytes requests = SpellsFrames request_frames bytes requests

-- the bytes begin with the spelling of some request (own)
abbrev pub BeginsWithRequest : List ℕ → Type 0
BeginsWithRequest bytes = BeginsWith request_frames bytes

-- the frame of this number, from 1 on, is refused: before it stand requests, and it begins with none (own)
abbrev pub IsRefusedAt : List ℕ → ℕ → Type 0
IsRefusedAt bytes number = IsFrameRefused request_frames bytes number
