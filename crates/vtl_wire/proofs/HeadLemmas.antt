-- What the header of a request says.
use Rattle.std.proofs.Common.{◌≡◌, ℕ, ◌<◌, ◌≤◌, ◌==◌, Some, refl, arith, true}
use Rattle.std.specs.Prelude.{◌&&◌, nat_le}
use Rattle.std.proofs.lemmas.Bool.{and_parts, eqb-true, leb-true}
use Rattle.std.proofs.lemmas.Option.{cond_some}
use Rattle.vtl_base.specs.declared.limits.TheConstants.{NEXUSES, DRIVES}
use Rattle.vtl_wire.specs.declared.frames.TheConstants.{MOST_CDB, MOST_DATA, MOVE_BYTES}
use Rattle.vtl_wire.specs.declared.frames.FrameKind.{FrameKind}
use Rattle.vtl_wire.specs.declared.frames.FrameKind.TheVariants as kinds
use Rattle.vtl_wire.specs.declared.headers.Header.{Header}
use Rattle.vtl_wire.specs.declared.request_heads.RequestHead.{RequestHead}
use Rattle.vtl_wire.specs.declared.request_heads.RequestHead.TheVariants as heads
use Rattle.vtl_wire.specs.Inner.Requested.{is_plain, request_head_by}

-- the limits that a command's header keeps
pub record IsCommandHeader (header : Header) : Type 0 where
  pub least_host : 1 ≤ header.host
  pub most_host : header.host ≤ NEXUSES
  pub least_drive : 1 ≤ header.detail
  pub most_drive : header.detail ≤ DRIVES
  pub block : header.front ≤ MOST_CDB
  pub sent_with : header.payload ≤ MOST_DATA

-- a header with no host, no drive and no data
pub record IsPlain (header : Header) (front : ℕ) : Type 0 where
  pub host : header.host ≡ 0
  pub drive : header.detail ≡ 0
  pub long : header.front ≡ front
  pub none : header.payload ≡ 0

-- what a header of this kind says
abbrev pub Says : FrameKind → Header → RequestHead → Type 0
Says kinds.Command header head =
    (heads.Command header.host header.detail header.tag ≡ head) × IsCommandHeader header
Says kinds.Move header head = (heads.Move header.tag ≡ head) × IsPlain header MOVE_BYTES
Says kinds.Inventory header head = (heads.Inventory header.tag ≡ head) × IsPlain header 0

plain_says : (header : Header) (front : ℕ) → is_plain header front ≡ true → IsPlain header front
plain_says header front holds =
    let one = and_parts (header.host == 0) _ holds in
    let two = and_parts (header.detail == 0) _ one.1 in
    let three = and_parts (header.front == front) (header.payload == 0) two.1 in
    record {
      host = eqb-true header.host 0 one.0;
      drive = eqb-true header.detail 0 two.0;
      long = eqb-true header.front front three.0;
      none = eqb-true header.payload 0 three.1;
    }

pub head_says : (kind : FrameKind) (header : Header) (head : RequestHead)
    → request_head_by kind header ≡ Some head → Says kind header head
head_says kinds.Command header head is =
    let found = cond_some _ (heads.Command header.host header.detail header.tag) head is in
    let one = and_parts (nat_le 1 header.host && nat_le header.host NEXUSES) _ found.0 in
    let two = and_parts (nat_le 1 header.detail && nat_le header.detail DRIVES) _ one.1 in
    let host = and_parts (nat_le 1 header.host) (nat_le header.host NEXUSES) one.0 in
    let drive = and_parts (nat_le 1 header.detail) (nat_le header.detail DRIVES) two.0 in
    let long = and_parts (nat_le header.front MOST_CDB) (nat_le header.payload MOST_DATA) two.1 in (
      found.1,
      record {
        least_host = leb-true 1 header.host host.0;
        most_host = leb-true header.host NEXUSES host.1;
        least_drive = leb-true 1 header.detail drive.0;
        most_drive = leb-true header.detail DRIVES drive.1;
        block = leb-true header.front MOST_CDB long.0;
        sent_with = leb-true header.payload MOST_DATA long.1;
      },
    )
head_says kinds.Move header head is =
    let found = cond_some (is_plain header MOVE_BYTES) (heads.Move header.tag) head is in
    (found.1, plain_says header MOVE_BYTES found.0)
head_says kinds.Inventory header head is =
    let found = cond_some (is_plain header 0) (heads.Inventory header.tag) head is in
    (found.1, plain_says header 0 found.0)

-- a header that counts data is a command's
pub counts_data : (kind : FrameKind) (header : Header) (head : RequestHead) → request_head_by kind header ≡ Some head
    → 0 < header.payload
    → (heads.Command header.host header.detail header.tag ≡ head) × IsCommandHeader header × (kind ≡ kinds.Command)
counts_data kinds.Command header head is some =
    let says = head_says kinds.Command header head is in (says.0, says.1, refl)
counts_data kinds.Move header head is some =
    absurd (omega (arith, some, (head_says kinds.Move header head is).1.none))
counts_data kinds.Inventory header head is some =
    absurd (omega (arith, some, (head_says kinds.Inventory header head is).1.none))
