-- Reading a given number of bytes (own).
use Rattle.std.specs.Prelude.{◌≡◌, ◌≢◌, ◌⊎◌, ℕ, ◌<◌, ◌+◌, Bool, true, false, List, [], ◌++◌, length, Option, None, Some, Result, Ok, Err}
use Rattle.std.specs.Io.KnownBytes.{Consumes, IsAtEnd}
use Rattle.vtl_base.specs.declared.bytes.TheConstants.{INLINE_BYTES}
use Rattle.vtl_wire.specs.declared.frames.TheConstants.{HEADER_BYTES}
use Rattle.vtl_wire.specs.declared.faults.WireFault.{WireFault}
use Rattle.vtl_wire.specs.declared.faults.WireFault.TheVariants.{BadFrame, ReadFault, WriteFault, NoMemory}
use Rattle.vtl_wire.specs.declared.headers.Header.{Header}
use Rattle.vtl_wire.specs.declared.parts.Parts.{Parts}
use Rattle.vtl_wire.specs.declared.reading.Found.{Found}
use Rattle.vtl_wire.specs.declared.requests.Request.{Request}
use Rattle.vtl_wire.specs.declared.reading.Found.TheVariants.{Ended, Frame, Refused}
use Rattle.vtl_wire.specs.Frames.{IsHeader, spell_header}
use Rattle.vtl_wire.specs.Grammars.{Grammar}
use Rattle.vtl_wire.specs.Reads.{IsHeaderLong, LacksData, ReadsFrame, RefusesFrame, TakesPart}
use Rattle.vtl_wire.specs.Requests.{request_frames}

-- how many bytes a read gave: none where it failed or was interrupted (own)
abbrev pub count_read : Result (Option ℕ) WireFault → ℕ
count_read (Ok (Some count)) = count
count_read (Ok None) = 0
count_read (Err fault) = 0

-- how many bytes reads gave, none where one failed (own)
abbrev pub count_given : Result ℕ WireFault → ℕ
count_given (Ok count) = count
count_given (Err fault) = 0

-- the input ended within this many bytes (own)
pub record EndsWithin (left left' : Option (List ℕ)) (count : ℕ) : Type 0 where
  pub read : List ℕ
  pub taken : Consumes left left' read
  pub short : length read < count
  pub ended : IsAtEnd left'

-- fewer than this many bytes were read (own)
abbrev pub TakesFewer : Option (List ℕ) → Option (List ℕ) → ℕ → Type 0
TakesFewer left left' count = (read : List ℕ) × (length read < count) × Consumes left left' read

-- these bytes were read, or the input ended within them (own)
abbrev pub ReadsWhole : Option (List ℕ) → Option (List ℕ) → List ℕ → Bool → Type 0
ReadsWhole left left' bytes true = Consumes left left' bytes
ReadsWhole left left' bytes false = EndsWithin left left' (length bytes)

-- why bytes are not read: a read failed before the last of them; or there is no memory for this many, and none of them
-- is read (own)
abbrev pub MissesBytes : Option (List ℕ) → Option (List ℕ) → ℕ → WireFault → Type 0
MissesBytes left left' count (BadFrame number) = ⊥
MissesBytes left left' count ReadFault = TakesFewer left left' count
MissesBytes left left' count WriteFault = ⊥
MissesBytes left left' count NoMemory = (INLINE_BYTES < count) × Consumes left left' []

-- this many bytes were read, or the input ended within them (own)
abbrev pub ReadsBytes : Option (List ℕ) → Option (List ℕ) → ℕ → Option (List ℕ) → Type 0
ReadsBytes left left' count (Some bytes) = (length bytes ≡ count) × Consumes left left' bytes
ReadsBytes left left' count None = EndsWithin left left' count

-- the two parts after a header were read, or the input ended within them (own)
abbrev pub ReadsParts : Option (List ℕ) → Option (List ℕ) → ℕ → ℕ → Option Parts → Type 0
ReadsParts left left' front payload (Some parts) =
    (length parts.front ≡ front) × (length parts.payload ≡ payload)
    × Consumes left left' (parts.front ++ parts.payload)
ReadsParts left left' front payload None = EndsWithin left left' (front + payload)

-- why the two parts are not read: a read failed before their last byte; or there is no memory for the second, of which
-- nothing is read (own)
abbrev pub MissesParts : Option (List ℕ) → Option (List ℕ) → ℕ → ℕ → WireFault → Type 0
MissesParts left left' front payload (BadFrame number) = ⊥
MissesParts left left' front payload ReadFault = TakesFewer left left' (front + payload)
MissesParts left left' front payload WriteFault = ⊥
MissesParts left left' front payload NoMemory =
    (INLINE_BYTES < payload) × ((read : List ℕ) × (length read ≡ front) × Consumes left left' read)

-- these bytes are no header: they are of another form; or they are too few, and the input ended with them (own)
abbrev pub AreNoHeader : List ℕ → Option (List ℕ) → Type 0
AreNoHeader read left' =
    ((length read ≡ HEADER_BYTES) × ((header : Header) → IsHeader header → read ≡ spell_header header → ⊥))
    ⊎ ((length read < HEADER_BYTES) × IsAtEnd left')

-- a header was read; or the input had ended; or what came is no header (own)
abbrev pub ReadsHeader : Option (List ℕ) → Option (List ℕ) → Found Header → Type 0
ReadsHeader left left' (Frame header) = IsHeader header × Consumes left left' (spell_header header)
ReadsHeader left left' Ended = Consumes left left' [] × IsAtEnd left'
ReadsHeader left left' Refused =
    (read : List ℕ) × Consumes left left' read × (read ≢ []) × AreNoHeader read left'

-- a frame was read, or the input had ended, or the frame is refused (own)
abbrev pub FindsFrame : {T : Type 0} → Grammar T → (List ℕ → Type 0) → Option (List ℕ) → Option (List ℕ)
    → Found T → Type 0
FindsFrame grammar IsLookedAt left left' (Frame frame) = ReadsFrame grammar left left' (Some frame)
FindsFrame grammar IsLookedAt left left' Ended = ReadsFrame grammar left left' None
FindsFrame grammar IsLookedAt left left' Refused = RefusesFrame grammar IsLookedAt left left'

-- why no frame is found: a read failed before a whole one was read, or memory ran out (own)
abbrev pub FindsNone : {T : Type 0} → Grammar T → (Option (List ℕ) → Option (List ℕ) → Type 0) → Option (List ℕ)
    → Option (List ℕ) → WireFault → Type 0
FindsNone grammar Lacks left left' (BadFrame number) = ⊥
FindsNone grammar Lacks left left' ReadFault = TakesPart grammar left left'
FindsNone grammar Lacks left left' WriteFault = ⊥
FindsNone grammar Lacks left left' NoMemory = Lacks left left'

-- a request was read, or the input had ended, or the frame is refused (own)
abbrev pub FindsRequest : Option (List ℕ) → Option (List ℕ) → Found Request → Type 0
FindsRequest left left' found = FindsFrame request_frames IsHeaderLong left left' found

-- why no request is found (own)
abbrev pub FindsNoRequest : Option (List ℕ) → Option (List ℕ) → WireFault → Type 0
FindsNoRequest left left' fault = FindsNone request_frames LacksData left left' fault
