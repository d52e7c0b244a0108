-- The header of a frame as a function of its bytes (own).
use Rattle.std.specs.Prelude.{ℕ, ◌==◌, if◌then◌else◌, List, drop, slice_index, Option, None, Some}
use Rattle.byteorder.specs.Endian.{big_number}
use Rattle.vtl_wire.specs.declared.frames.FrameKind.{FrameKind}
use Rattle.vtl_wire.specs.declared.headers.Header.{Header}
use Rattle.vtl_wire.specs.Frames.{Frame, kind_with}

-- the header of this kind whose other bytes these are (own)
abbrev pub header_in : List ℕ → FrameKind → Header
header_in bytes kind = record {
  kind = kind;
  host = slice_index bytes 1;
  detail = slice_index bytes 2;
  front = slice_index bytes 3;
  payload = big_number 4 (drop 4 bytes);
  tag = big_number 4 (drop 8 bytes);
}

-- the header of this kind, if there is one, where the last four bytes are 00h (own)
abbrev pub header_by : List ℕ → Option FrameKind → Option Header
header_by bytes None = None
header_by bytes (Some kind) = if big_number 4 (drop 12 bytes) == 0 then Some (header_in bytes kind) else None

-- the header that sixteen bytes are, if they are one (own)
abbrev pub header_at : List ℕ → Option Header
header_at bytes = header_by bytes (kind_with (slice_index bytes 0))

-- the frame of a header and what follows it (own)
abbrev pub frame_with : Header → List ℕ → List ℕ → Frame
frame_with header front payload = record {
  kind = header.kind;
  host = header.host;
  detail = header.detail;
  tag = header.tag;
  front = front;
  payload = payload;
}
