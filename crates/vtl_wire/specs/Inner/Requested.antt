-- What a header says of a request (own).
use Rattle.std.specs.Prelude.{◌≡◌, ℕ, ◌==◌, ◌&&◌, nat_le, Bool, if◌then◌else◌, Option, None, Some}
use Rattle.vtl_base.specs.declared.limits.TheConstants.{NEXUSES, DRIVES}
use Rattle.vtl_wire.specs.declared.frames.TheConstants.{MOST_CDB, MOST_DATA, MOVE_BYTES}
use Rattle.vtl_wire.specs.declared.frames.FrameKind.{FrameKind}
use Rattle.vtl_wire.specs.declared.frames.FrameKind.TheVariants as kinds
use Rattle.vtl_wire.specs.declared.headers.Header.{Header}
use Rattle.vtl_wire.specs.declared.request_heads.RequestHead.{RequestHead}
use Rattle.vtl_wire.specs.declared.request_heads.RequestHead.TheVariants.{Command, Move, Inventory}

-- a command, where host, drive and lengths are within their limits (own)
abbrev pub command_head : Header → Option RequestHead
command_head header =
    if (nat_le 1 header.host && nat_le header.host NEXUSES)
    && ((nat_le 1 header.detail && nat_le header.detail DRIVES)
    && (nat_le header.front MOST_CDB && nat_le header.payload MOST_DATA))
    then Some (Command header.host header.detail header.tag) else None

-- no host, no drive and no data, and this many bytes first (own)
abbrev pub is_plain : Header → ℕ → Bool
is_plain header front =
    header.host == 0 && (header.detail == 0 && (header.front == front && header.payload == 0))

-- the request of a header of this kind, where one may have it (own)
abbrev pub request_head_by : FrameKind → Header → Option RequestHead
request_head_by kinds.Command header = command_head header
request_head_by kinds.Move header = if is_plain header MOVE_BYTES then Some (Move header.tag) else None
request_head_by kinds.Inventory header = if is_plain header 0 then Some (Inventory header.tag) else None

-- the request of a header, where one may have it (own)
abbrev pub request_head : Header → Option RequestHead
request_head header = request_head_by header.kind header
