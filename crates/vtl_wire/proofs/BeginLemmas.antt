-- What begins with a frame, and what does not.
use Rattle.std.proofs.Common.{◌≡◌, ◌≢◌, ℕ, ◌+◌, ◌<◌, ◌≤◌, List, [], ◌∷◌, ◌++◌, length, Option, ap, arith, length-append, inl, inr}
use Rattle.std.specs.Io.KnownBytes.{Consumes, IsAtEnd}
use Rattle.std.proofs.KnownBytes.{Consumes-trans}
use Rattle.vtl_wire.specs.declared.faults.WireFault.{WireFault}
use Rattle.vtl_wire.specs.declared.faults.WireFault.TheVariants.{ReadFault}
use Rattle.vtl_wire.specs.declared.frames.TheConstants.{HEADER_BYTES}
use Rattle.vtl_wire.specs.declared.headers.Header.{Header}
use Rattle.vtl_wire.specs.Frames.{Frame, IsHeader, header_of, spell_frame, spell_header}
use Rattle.vtl_wire.specs.Grammars.{BeginsWith, Grammar}
use Rattle.vtl_wire.specs.Reads.{RefusesFrame}
use Rattle.vtl_wire.specs.Inner.Reading.{AreNoHeader, EndsWithin, FindsNone, TakesFewer}
use Rattle.vtl_wire.proofs.FrameLemmas.{frame_long, header_first, length-header}
use Rattle.vtl_wire.proofs.HeaderLemmas.{one_header}

-- a header is not nothing
pub some_header : (header : Header) (part : List ℕ) → spell_header header ++ part ≢ []
some_header header part none =
    omega (arith, ap length none, length-append (spell_header header) part, length-header header)

-- the frames of a grammar, and that the numbers of their headers are of their width
module _ {T : Type 0} (has : T → Type 0) (frame_of : T → Frame)
    (numbers : (one : T) → has one → IsHeader (header_of (frame_of one))) where
  abbrev grammar : Grammar T
  grammar = record { has = has; spell = λ one. spell_frame (frame_of one) }

  -- sixteen bytes that are no header begin with no frame
  pub none_begin : (read : List ℕ) → length read ≡ 16
      → ((header : Header) → IsHeader header → read ≡ spell_header header → ⊥)
      → (more : List ℕ) → BeginsWith grammar (read ++ more) → ⊥
  none_begin read long never more w =
      let first = header_first read more (frame_of w.0) w.1 long w.3 in
      never (header_of (frame_of w.0)) (numbers w.0 w.2) first.0

  -- the header of a frame that begins these bytes is the one that stands there
  pub header_there : (header : Header) (more : List ℕ) → IsHeader header
      → (w : BeginsWith grammar (spell_header header ++ more))
      → (header ≡ header_of (frame_of w.0)) × (more ≡ (frame_of w.0).front ++ ((frame_of w.0).payload ++ w.1))
  header_there header more fits w =
      let first = header_first (spell_header header) more (frame_of w.0) w.1 (length-header header) w.3 in (
        one_header header (header_of (frame_of w.0)) fits (numbers w.0 w.2) first.0,
        first.1,
      )

  -- less than a header counts begins with no frame
  pub cut_begins : (header : Header) (part : List ℕ) → IsHeader header
      → length part < header.front + header.payload → BeginsWith grammar (spell_header header ++ part) → ⊥
  cut_begins header part fits short w =
      let there = header_there header part fits w in
      let frame = frame_of w.0 in
      omega (
        arith,
        short,
        ap (λ (h : Header). h.front) there.0,
        ap (λ (h : Header). h.payload) there.0,
        ap length there.1,
        length-append frame.front (frame.payload ++ w.1),
        length-append frame.payload w.1,
      )

  -- less than a header begins with no frame
  pub short_begins : (read : List ℕ) → length read < 16 → BeginsWith grammar read → ⊥
  short_begins read short w =
      omega (
        arith,
        short,
        ap length w.3,
        length-append (spell_frame (frame_of w.0)) w.1,
        frame_long (frame_of w.0),
      )

  -- what is no header refuses its frame, where a header is looked at
  pub refused_header : (IsLookedAt : List ℕ → Type 0)
      → ((read : List ℕ) → length read ≡ HEADER_BYTES → IsLookedAt read) → (left left' : Option (List ℕ))
      → (read : List ℕ) → Consumes left left' read → read ≢ [] → AreNoHeader read left'
      → RefusesFrame grammar IsLookedAt left left'
  refused_header IsLookedAt looks left left' read taken some (inl (long, never)) = record {
    read = read;
    taken = taken;
    some = some;
    bad = inl (looks read long, none_begin read long never);
  }
  refused_header IsLookedAt looks left left' read taken some (inr (short, ended)) =
      record { read = read; taken = taken; some = some; bad = inr (ended, short_begins read short) }

  -- an input that ends within what a header counts refuses its frame
  pub refused_cut : (IsLookedAt : List ℕ → Type 0) (left mid left' : Option (List ℕ)) (header : Header)
      → IsHeader header → Consumes left mid (spell_header header)
      → EndsWithin mid left' (header.front + header.payload) → RefusesFrame grammar IsLookedAt left left'
  refused_cut IsLookedAt left mid left' header fits taken ends = record {
    read = spell_header header ++ ends.read;
    taken = Consumes-trans left mid left' (spell_header header) ends.read taken ends.taken;
    some = some_header header ends.read;
    bad = inr (ends.ended, cut_begins header ends.read fits ends.short);
  }

  -- a read fault before the header is whole
  pub missed_header : (Lacks : Option (List ℕ) → Option (List ℕ) → Type 0) (left left' : Option (List ℕ))
      (fault : WireFault) → fault ≡ ReadFault → TakesFewer left left' HEADER_BYTES
      → FindsNone grammar Lacks left left' fault
  missed_header Lacks left left' fault is few = rw is (few.0, few.2, short_begins few.0 few.1)
