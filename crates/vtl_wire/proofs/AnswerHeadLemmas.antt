-- What the header of an answer says.
use Rattle.std.proofs.Common.{◌≡◌, ℕ, ◌+◌, ◌*◌, ◌/◌, ◌%◌, ◌<◌, ◌≤◌, ◌^◌, List, [], ◌++◌, length, replicate, Option, None, Some, IfSome, refl, sym, ap, ◌∙◌, subst, arith, inl, inr, ◌⊎◌}
use Rattle.std.specs.Prelude.{◌≢◌, flat_map}
use Rattle.std.specs.List.{All}
use Rattle.std.proofs.lemmas.List.{length-replicate}
use Rattle.vtl_base.specs.declared.limits.TheConstants.{NEXUSES}
use Rattle.scsi_sense.specs.declared.replies.Reply.{Reply}
use Rattle.scsi_sense.specs.declared.replies.Status.{Status}
use Rattle.scsi_sense.specs.declared.replies.Status.TheVariants.{Good, Check, Conflict}
use Rattle.scsi_sense.specs.declared.sense_data.Sense.{Sense}
use Rattle.scsi_sense.specs.declared.sense_data.SenseKey.TheVariants.{NoSense}
use Rattle.scsi_sense.specs.Replies.{status_code}
use Rattle.scsi_sense.specs.SenseData.{plain_sense, sense_bytes}
use Rattle.vtl_wire.specs.declared.answer_heads.AnswerHead.{AnswerHead}
use Rattle.vtl_wire.specs.declared.answer_heads.AnswerHead.TheVariants as heads
use Rattle.vtl_wire.specs.declared.answer_heads.ReplyHead.{ReplyHead}
use Rattle.vtl_wire.specs.declared.answers.Answer.{Answer}
use Rattle.vtl_wire.specs.declared.answers.Answer.TheVariants.{Command, Move, Inventory}
use Rattle.vtl_wire.specs.declared.answers.Entry.{Entry}
use Rattle.vtl_wire.specs.declared.frames.FrameKind.{FrameKind}
use Rattle.vtl_wire.specs.declared.frames.FrameKind.TheVariants as kinds
use Rattle.vtl_wire.specs.declared.frames.TheConstants.{ENTRY_BYTES, MOST_DATA, SENSE_BYTES}
use Rattle.vtl_wire.specs.declared.headers.Header.{Header}
use Rattle.vtl_wire.specs.Answers.{BeginsWithAnswer, FitsReply, IsAnswer, IsEntry, IsSense, frame_of_answer, sense_front, spell_entry}
use Rattle.vtl_wire.specs.Frames.{Frame, IsHeader, header_of, spell_header}
use Rattle.vtl_wire.specs.Inner.Answered.{EntriesSay, GoesToHost, HeadSays, IsReplyHeader, ReplySays, answer_to, answer_with}
use Rattle.vtl_wire.specs.Inner.Headers.{frame_with}
use Rattle.vtl_wire.proofs.AnswerLemmas.{answer_numbers}
use Rattle.vtl_wire.proofs.BeginLemmas.{header_there}
use Rattle.vtl_wire.proofs.EntryLemmas.{entries_long}
use Rattle.vtl_wire.proofs.FrameLemmas.{header_with}

-- an answer without what is behind its header
abbrev pub head_of : Answer → AnswerHead
head_of (Command host reply tag) = heads.Reply (record { host = Some host; status = reply.status; tag = tag })
head_of (Move reply tag) = heads.Reply (record { host = None; status = reply.status; tag = tag })
head_of (Inventory entries tag) = heads.Inventory tag

sense_said : (status : Status) (sense : Option Sense) → (status ≢ Check → sense ≡ None)
    → (length (sense_front sense) ≡ 0) ⊎ ((length (sense_front sense) ≡ SENSE_BYTES) × (status ≡ Check))
sense_said status None fits = inl refl
sense_said Check (Some sense) fits = inr (refl, refl)
sense_said Good (Some sense) fits = absurd (by (fits (λ e. absurd (cc))))
  where
    by : Some sense ≡ None → ⊥
    by e = absurd (cc)
sense_said Conflict (Some sense) fits = absurd (by (fits (λ e. absurd (cc))))
  where
    by : Some sense ≡ None → ⊥
    by e = absurd (cc)

-- the header of an answer says so
pub head_said : (answer : Answer) → IsAnswer answer → HeadSays (header_of (frame_of_answer answer)) (head_of answer)
head_said (Command host reply tag) ok = record {
  goes = (refl, refl, ok.1.0, ok.1.1);
  reply = record { code = refl; sense = sense_said reply.status reply.sense ok.0.sense; most = ok.0.bytes };
  tag = refl;
}
head_said (Move reply tag) ok = record {
  goes = (refl, refl);
  reply = record { code = refl; sense = sense_said reply.status reply.sense ok.0.sense; most = ok.0.bytes };
  tag = refl;
}
head_said (Inventory entries tag) ok =
    let long = entries_long entries in record {
      kind = refl;
      host = refl;
      code = refl;
      sense = refl;
      most = omega (arith, ok.0, long);
      whole = omega (arith, long);
      tag_is = refl;
    }

-- the header of no answer begins with none
pub no_answer_head : (header : Header) → IsHeader header → ((head : AnswerHead) → HeadSays header head → ⊥)
    → (more : List ℕ) → BeginsWithAnswer (spell_header header ++ more) → ⊥
no_answer_head header fits none more w =
    let there = header_there IsAnswer frame_of_answer answer_numbers header more fits w in
    none (head_of w.0) (subst (λ (h : Header). HeadSays h (head_of w.0)) (sym there.0) (head_said w.0 w.2))

-- an answer, and that its frame has this header
pub record HasHeader (header : Header) (front payload : List ℕ) (answer : Answer) : Type 0 where
  pub valid : IsAnswer answer
  pub frame : frame_of_answer answer ≡ frame_with header front payload

front_none : (sense : Option Sense) → length (sense_front sense) ≡ 0 → sense ≡ None
front_none None none = refl
front_none (Some sense) none = absurd (omega (arith, none))

module _ (header : Header) (fits : IsHeader header) (sense : Option Sense) (valid : IfSome sense IsSense)
    (bytes : List ℕ) (front_long : length (sense_front sense) ≡ header.front)
    (bytes_long : length bytes ≡ header.payload) where
  fits_reply : (status : Status) → IsReplyHeader header status
      → FitsReply (record { status = status; sense = sense; bytes = bytes })
  fits_reply status says = record { sense = by says.sense; bytes = omega (arith, says.most, bytes_long) }
    where
      by : (header.front ≡ 0) ⊎ ((header.front ≡ SENSE_BYTES) × (status ≡ Check)) → status ≢ Check → sense ≡ None
      by (inl none) other = front_none sense (front_long ∙ none)
      by (inr (some, check)) other = absurd (other check)

  -- the answer of such a header has it
  of_host : (host : Option ℕ) (status : Status) (tag : ℕ) → GoesToHost header.kind header.host host
      → IsReplyHeader header status → tag ≡ header.tag
      → HasHeader header (sense_front sense) bytes
      (answer_to host (record { status = status; sense = sense; bytes = bytes }) tag)
  of_host (Some host) status tag goes says is = record {
    valid = (fits_reply status says, (goes.2, goes.3, valid, omega (arith, is, fits.tag)));
    frame = λ i. record {
      kind = sym goes.0 i;
      host = sym goes.1 i;
      detail = sym says.code i;
      tag = is i;
      front = sense_front sense;
      payload = bytes;
    };
  }
  of_host None status tag goes says is = record {
    valid = (fits_reply status says, (valid, omega (arith, is, fits.tag)));
    frame = λ i. record {
      kind = sym goes.0 i;
      host = sym goes.1 i;
      detail = sym says.code i;
      tag = is i;
      front = sense_front sense;
      payload = bytes;
    };
  }

  pub reply_with : (head : ReplyHead) → ReplySays header head
      → HasHeader header (sense_front sense) bytes (answer_with head sense bytes)
  reply_with head says = of_host head.host head.status head.tag says.goes says.reply says.tag

-- the answer to an inventory has the header that says so
pub inventory_with : (header : Header) → IsHeader header → (tag : ℕ) → EntriesSay header tag → (entries : List Entry)
    → All IsEntry entries → length (flat_map spell_entry entries) ≡ header.payload
    → HasHeader header [] (flat_map spell_entry entries) (Inventory entries tag)
inventory_with header fits tag says entries all long = record {
  valid = (omega (arith, says.most, long, entries_long entries), (all, omega (arith, says.tag_is, fits.tag)));
  frame = λ i. record {
    kind = sym says.kind i;
    host = sym says.host i;
    detail = sym says.code i;
    tag = says.tag_is i;
    front = [];
    payload = flat_map spell_entry entries;
  };
}

-- so its header is this one
pub same_header : (header : Header) (front payload : List ℕ) (answer : Answer) → length front ≡ header.front
    → length payload ≡ header.payload → HasHeader header front payload answer
    → header_of (frame_of_answer answer) ≡ header
same_header header front payload answer one two has =
    ap header_of has.frame ∙ header_with header front payload one two

-- sense data that a header counts
pub record IsFront (count : ℕ) : Type 0 where
  pub sense : Option Sense
  pub valid : IfSome sense IsSense
  pub long : length (sense_front sense) ≡ count

pub some_front : (header : Header) (status : Status) → IsReplyHeader header status → IsFront header.front
some_front header status says = by says.sense
  where
    by : (header.front ≡ 0) ⊎ ((header.front ≡ SENSE_BYTES) × (status ≡ Check)) → IsFront header.front
    by (inl none) = record { sense = None; valid = tt; long = sym none }
    by (inr (some, check)) = record { sense = Some (plain_sense NoSense 0 0); valid = tt; long = sym some }

-- what stands first in an answer is sense data or nothing
pub front_is : (answer : Answer) → IsAnswer answer
    → (sense : Option Sense) × IfSome sense IsSense × ((frame_of_answer answer).front ≡ sense_front sense)
front_is (Command host reply tag) ok = (reply.sense, ok.1.2, refl)
front_is (Move reply tag) ok = (reply.sense, ok.1.0, refl)
front_is (Inventory entries tag) ok = (None, tt, refl)
