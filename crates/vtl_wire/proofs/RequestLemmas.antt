-- Requests, their headers and their frames.
use Rattle.std.proofs.Common.{◌≡◌, ℕ, ◌+◌, ◌<◌, ◌≤◌, ◌^◌, List, [], ◌∷◌, ◌++◌, length, take, drop, None, Some, refl, sym, ap, ◌∙◌, subst, arith, length-append, length-drop}
use Rattle.std.specs.Prelude.{◌&&◌, nat_le}
use Rattle.std.specs.Int.{to_be_bytes, w32}
use Rattle.std.proofs.lemmas.Bool.{and_from, cond-true, le-leb}
use Rattle.std.proofs.lemmas.List.{take-append-drop, take_all}
use Rattle.byteorder.specs.Endian.{big_number}
use Rattle.byteorder.specs.Numbers.{big_number-reads_back}
use Rattle.vtl_base.specs.declared.limits.TheConstants.{NEXUSES, DRIVES}
use Rattle.vtl_wire.specs.declared.frames.TheConstants.{MOST_CDB, MOST_DATA}
use Rattle.vtl_wire.specs.declared.frames.FrameKind.{FrameKind}
use Rattle.vtl_wire.specs.declared.frames.FrameKind.TheVariants as kinds
use Rattle.vtl_wire.specs.declared.headers.Header.{Header}
use Rattle.vtl_wire.specs.declared.request_heads.RequestHead.{RequestHead}
use Rattle.vtl_wire.specs.declared.request_heads.RequestHead.TheVariants as heads
use Rattle.vtl_wire.specs.declared.requests.Request.{Request}
use Rattle.vtl_wire.specs.declared.requests.Request.TheVariants.{Command, Move, Inventory}
use Rattle.vtl_wire.specs.Frames.{IsHeader, header_of, spell_header}
use Rattle.vtl_wire.specs.Requests.{BeginsWithRequest, IsRequest, frame_of_request, spell_request}
use Rattle.vtl_wire.specs.Inner.Headers.{frame_with}
use Rattle.vtl_wire.specs.Inner.Requested.{request_head}
use Rattle.vtl_wire.proofs.BeginLemmas.{header_there}
use Rattle.vtl_wire.proofs.FrameLemmas.{one_frame}
use Rattle.vtl_wire.proofs.HeadLemmas.{Says, head_says}
use Rattle.vtl_wire.proofs.HeaderLemmas.{AreBytes, bytes_behind, four_first}

-- a request without what is behind its header
abbrev pub head_of : Request → RequestHead
head_of (Command host drive cdb sent tag) = heads.Command host drive tag
head_of (Move from to tag) = heads.Move tag
head_of (Inventory tag) = heads.Inventory tag

-- the header of a request says so
pub head_again : (request : Request) → IsRequest request
    → request_head (header_of (frame_of_request request)) ≡ Some (head_of request)
head_again (Command host drive cdb sent tag) ok =
    cond-true ((nat_le 1 host && nat_le host NEXUSES) && ((nat_le 1 drive && nat_le drive DRIVES)
    && (nat_le (length cdb) MOST_CDB && nat_le (length sent) MOST_DATA)))
    (Some (heads.Command host drive tag)) None
    (and_from _ _ (and_from _ _ (le-leb 1 host ok.0.least_host) (le-leb host NEXUSES ok.0.most_host))
    (and_from _ _ (and_from _ _ (le-leb 1 drive ok.0.least_drive) (le-leb drive DRIVES ok.0.most_drive))
    (and_from _ _ (le-leb (length cdb) MOST_CDB ok.0.block) (le-leb (length sent) MOST_DATA ok.0.sent_with))))
head_again (Move from to tag) ok = refl
head_again (Inventory tag) ok = refl

-- its numbers are of their width
pub request_numbers : (request : Request) → IsRequest request → IsHeader (header_of (frame_of_request request))
request_numbers (Command host drive cdb sent tag) ok = record {
  host = omega (arith, ok.0.most_host);
  detail = omega (arith, ok.0.most_drive);
  front = omega (arith, ok.0.block);
  payload = omega (arith, ok.0.sent_with);
  tag = ok.1;
}
request_numbers (Move from to tag) ok = record {
  host = omega arith;
  detail = omega arith;
  front = omega arith;
  payload = omega arith;
  tag = ok.2;
}
request_numbers (Inventory tag) ok = record {
  host = omega arith;
  detail = omega arith;
  front = omega arith;
  payload = omega arith;
  tag = ok;
}

-- eight bytes are those of the two numbers in them
pub eight_bytes : (front : List ℕ) → length front ≡ 8 → AreBytes front
    → to_be_bytes w32 (big_number 4 front) ++ to_be_bytes w32 (big_number 4 (drop 4 front)) ≡ front
eight_bytes front long fits =
    let behind : 4 ≤ length (drop 4 front) = omega (arith, long, length-drop 4 front) in
    (λ i. four_first front (omega (arith, long)) fits i
    ++ four_first (drop 4 front) behind (bytes_behind front 4 fits) i)
    ∙ ap (λ (l : List ℕ). take 4 front ++ l) (take_all 4 (drop 4 front) (omega (arith, long, length-drop 4 front)))
    ∙ take-append-drop 4 front

pub number_fits : (bytes : List ℕ) → AreBytes bytes → big_number 4 bytes < 2 ^ 32
number_fits bytes fits = omega (arith, fits 0, fits 1, fits 2, fits 3)

-- the request of a head with these behind its header
abbrev pub request_with : RequestHead → List ℕ → List ℕ → Request
request_with (heads.Command host drive tag) front payload = Command host drive front payload tag
request_with (heads.Move tag) front payload = Move (big_number 4 front) (big_number 4 (drop 4 front)) tag
request_with (heads.Inventory tag) front payload = Inventory tag

no_bytes : (bytes : List ℕ) → length bytes ≡ 0 → [] ≡ bytes
no_bytes [] none = refl
no_bytes (x ∷ xs) none = absurd (omega (arith, none))

-- it has a spelling, and the frame of this header
pub record IsRequestOf (header : Header) (front payload : List ℕ) (request : Request) : Type 0 where
  pub frame : frame_of_request request ≡ frame_with header front payload
  pub valid : IsRequest request

module _ (header : Header) (front payload : List ℕ) (fits : IsHeader header)
    (front_long : length front ≡ header.front) (payload_long : length payload ≡ header.payload)
    (are : AreBytes front) where
  of_kind : (kind : FrameKind) → kind ≡ header.kind → (head : RequestHead) → Says kind header head
      → IsRequestOf header front payload (request_with head front payload)
  of_kind kinds.Command is head says =
      subst (λ (h : RequestHead). IsRequestOf header front payload (request_with h front payload)) says.0 (record {
        frame = λ i. record {
          kind = is i;
          host = header.host;
          detail = header.detail;
          tag = header.tag;
          front = front;
          payload = payload;
        };
        valid = (
          record {
            least_host = says.1.least_host;
            most_host = says.1.most_host;
            least_drive = says.1.least_drive;
            most_drive = says.1.most_drive;
            block = omega (arith, says.1.block, front_long);
            sent_with = omega (arith, says.1.sent_with, payload_long);
          },
          fits.tag,
        );
      })
  of_kind kinds.Move is head says =
      subst (λ (h : RequestHead). IsRequestOf header front payload (request_with h front payload)) says.0 (record {
        frame = λ i. record {
          kind = is i;
          host = sym says.1.host i;
          detail = sym says.1.drive i;
          tag = header.tag;
          front = eight_bytes front (front_long ∙ says.1.long) are i;
          payload = no_bytes payload (payload_long ∙ says.1.none) i;
        };
        valid = (number_fits front are, number_fits (drop 4 front) (bytes_behind front 4 are), fits.tag);
      })
  of_kind kinds.Inventory is head says =
      subst (λ (h : RequestHead). IsRequestOf header front payload (request_with h front payload)) says.0 (record {
        frame = λ i. record {
          kind = is i;
          host = sym says.1.host i;
          detail = sym says.1.drive i;
          tag = header.tag;
          front = no_bytes front (front_long ∙ says.1.long) i;
          payload = no_bytes payload (payload_long ∙ says.1.none) i;
        };
        valid = fits.tag;
      })

  pub request_of_head : (head : RequestHead) → request_head header ≡ Some head
      → IsRequestOf header front payload (request_with head front payload)
  request_of_head head is = of_kind header.kind refl head (head_says header.kind header head is)

-- the header of no request begins with none
pub no_head_begins : (header : Header) → IsHeader header → request_head header ≡ None
    → (more : List ℕ) → BeginsWithRequest (spell_header header ++ more) → ⊥
no_head_begins header fits none more w =
    let e : None ≡ Some (head_of w.0) = sym none
    ∙ ap request_head (header_there IsRequest frame_of_request request_numbers header more fits w).0
    ∙ head_again w.0 w.2 in cc

-- the frame determines a request with its head
pub request_again : (request : Request) → IsRequest request
    → request_with (head_of request) (frame_of_request request).front (frame_of_request request).payload ≡ request
request_again (Command host drive cdb sent tag) ok = refl
request_again (Move from to tag) ok =
    λ i. Move (big_number-reads_back 4 from (to_be_bytes w32 to) ok.0 i) (big_number-reads_back 4 to [] ok.1 i) tag
request_again (Inventory tag) ok = refl

-- no request's spelling begins another's
pub one_request : (one other : Request) (x y : List ℕ) → IsRequest one → IsRequest other
    → spell_request one ++ x ≡ spell_request other ++ y → (one ≡ other) × (x ≡ y)
one_request one other x y ok ok' same =
    let frames = one_frame (frame_of_request one) (frame_of_request other) x y (request_numbers one ok)
    (request_numbers other ok') same in
    let some : Some (head_of one) ≡ Some (head_of other) =
    sym (head_again one ok) ∙ ap request_head frames.0 ∙ head_again other ok' in
    let head : head_of one ≡ head_of other = cc in (
      sym (request_again one ok) ∙ (λ i. request_with (head i) (frames.1 i) (frames.2 i)) ∙ request_again other ok',
      frames.3,
    )
