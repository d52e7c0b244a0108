-- Frames, and the bytes behind them.
use Rattle.std.proofs.Common.{◌≡◌, ℕ, ◌≤◌, List, ◌++◌, length, take, drop, refl, sym, ap, ◌∙◌, arith, append_assoc, length-append}
use Rattle.std.proofs.lemmas.List.{take_at, drop_at}
use Rattle.vtl_wire.specs.declared.headers.Header.{Header}
use Rattle.vtl_wire.specs.Frames.{Frame, IsHeader, header_of, spell_frame, spell_header}
use Rattle.vtl_wire.specs.Inner.Headers.{frame_with}
use Rattle.vtl_wire.proofs.HeaderLemmas.{one_header}

pub length-header : (header : Header) → length (spell_header header) ≡ 16
length-header header = refl

-- what is behind the header of a frame
pub behind_header : (frame : Frame) (rest : List ℕ)
    → spell_frame frame ++ rest ≡ spell_header (header_of frame) ++ (frame.front ++ (frame.payload ++ rest))
behind_header frame rest =
    append_assoc (spell_header (header_of frame)) (frame.front ++ frame.payload) rest
    ∙ ap (λ (l : List ℕ). spell_header (header_of frame) ++ l) (append_assoc frame.front frame.payload rest)

-- sixteen bytes that begin as a frame does are its header
pub header_first : (read more : List ℕ) (frame : Frame) (rest : List ℕ) → length read ≡ 16
    → read ++ more ≡ spell_frame frame ++ rest
    → (read ≡ spell_header (header_of frame)) × (more ≡ frame.front ++ (frame.payload ++ rest))
header_first read more frame rest long same =
    let whole = same ∙ behind_header frame rest in
    let behind = frame.front ++ (frame.payload ++ rest) in (
      sym (take_at read more 16 long) ∙ ap (take 16) whole
          ∙ take_at (spell_header (header_of frame)) behind 16 (length-header (header_of frame)),
      sym (drop_at read more 16 long) ∙ ap (drop 16) whole
          ∙ drop_at (spell_header (header_of frame)) behind 16 (length-header (header_of frame)),
    )

-- a frame has a header's bytes at least
pub frame_long : (frame : Frame) → 16 ≤ length (spell_frame frame)
frame_long frame =
    omega (
      arith,
      length-append (spell_header (header_of frame)) (frame.front ++ frame.payload),
      length-header (header_of frame),
    )

-- the header counts what is behind it
pub header_with : (header : Header) (front payload : List ℕ) → length front ≡ header.front
    → length payload ≡ header.payload → header_of (frame_with header front payload) ≡ header
header_with header front payload one two = λ i. record {
  kind = header.kind;
  host = header.host;
  detail = header.detail;
  front = one i;
  payload = two i;
  tag = header.tag;
}

-- a frame of such a header, in bytes
pub spelled_with : (header : Header) (front payload : List ℕ) → length front ≡ header.front
    → length payload ≡ header.payload
    → spell_frame (frame_with header front payload) ≡ spell_header header ++ (front ++ payload)
spelled_with header front payload one two =
    ap (λ (h : Header). spell_header h ++ (front ++ payload)) (header_with header front payload one two)

-- two frames that begin the same bytes have the same header, parts and rest
pub one_frame : (one other : Frame) (x y : List ℕ) → IsHeader (header_of one) → IsHeader (header_of other)
    → spell_frame one ++ x ≡ spell_frame other ++ y
    → (header_of one ≡ header_of other) × (one.front ≡ other.front) × (one.payload ≡ other.payload) × (x ≡ y)
one_frame one other x y fits fits' same =
    let begun = header_first (spell_header (header_of one)) (one.front ++ (one.payload ++ x)) other y
    (length-header (header_of one)) (sym (behind_header one x) ∙ same) in
    let header : header_of one ≡ header_of other = one_header (header_of one) (header_of other) fits fits' begun.0 in
    let front_long : length other.front ≡ length one.front = ap (λ (h : Header). h.front) (sym header) in
    let payload_long : length other.payload ≡ length one.payload = ap (λ (h : Header). h.payload) (sym header) in
    let n = length one.front in
    let m = length one.payload in
    let behind : one.payload ++ x ≡ other.payload ++ y =
    sym (drop_at one.front (one.payload ++ x) n refl) ∙ ap (drop n) begun.1
    ∙ drop_at other.front (other.payload ++ y) n front_long in (
      header,
      sym (take_at one.front (one.payload ++ x) n refl) ∙ ap (take n) begun.1
          ∙ take_at other.front (other.payload ++ y) n front_long,
      sym (take_at one.payload x m refl) ∙ ap (take m) behind ∙ take_at other.payload y m payload_long,
      sym (drop_at one.payload x m refl) ∙ ap (drop m) behind ∙ drop_at other.payload y m payload_long,
    )
