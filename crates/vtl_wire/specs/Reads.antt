-- What a reader of frames takes of an input, and what it makes of it (own).
use Rattle.std.specs.Prelude.{◌≡◌, ◌≢◌, ◌⊎◌, ℕ, ◌+◌, ◌^◌, ◌≤◌, ◌<◌, Bool, true, List, [], ◌++◌, length, flat_map, Option, None, Some}
use Rattle.std.specs.List.{All}
use Rattle.std.specs.Io.KnownBytes.{Consumes, IsAtEnd}
use Rattle.vtl_base.specs.declared.bytes.TheConstants.{INLINE_BYTES}
use Rattle.vtl_base.specs.Steps.{ticked}
use Rattle.vtl_wire.specs.declared.frames.TheConstants.{HEADER_BYTES, MOST_DATA}
use Rattle.vtl_wire.specs.declared.faults.WireFault.{WireFault}
use Rattle.vtl_wire.specs.declared.faults.WireFault.TheVariants.{BadFrame, ReadFault, WriteFault, NoMemory}
use Rattle.vtl_wire.specs.declared.requests.Request.{Request}
use Rattle.vtl_wire.specs.Grammars.{BeginNone, BeginsWith, Grammar}
use Rattle.vtl_wire.specs.Requests.{IsRequest, request_frames, spell_request}

-- a frame was read, just its spelling; or the input had ended, and nothing was read (own)
abbrev pub ReadsFrame : {T : Type 0} → Grammar T → Option (List ℕ) → Option (List ℕ) → Option T → Type 0
ReadsFrame grammar left left' (Some frame) = grammar.has frame × Consumes left left' (grammar.spell frame)
ReadsFrame grammar left left' None = Consumes left left' [] × IsAtEnd left'

-- a request was read, or the input had ended (own)
abbrev pub ReadsRequest : Option (List ℕ) → Option (List ℕ) → Option Request → Type 0
ReadsRequest left left' found = ReadsFrame request_frames left left' found

-- a reader of frames: how many it has read, and whether a read of its input failed (own)
pub record ReaderOfFrames : Type 0 where
  pub frames : ℕ
  pub failed : Bool

-- a read fault is reported only where a read failed, which is noted; no other fault is noted so (own)
abbrev pub NotesFault : Bool → Bool → WireFault → Type 0
NotesFault before now (BadFrame number) = now ≡ before
NotesFault before now ReadFault = now ≡ true
NotesFault before now WriteFault = now ≡ before
NotesFault before now NoMemory = now ≡ before

-- how many frames were read after one more, if there was one; the number stops at its greatest value (own)
abbrev pub count_after : {T : Type 0} → ℕ → Option T → ℕ
count_after before (Some frame) = ticked before
count_after before None = before

-- some bytes were read, and no whole frame is among them (own)
abbrev pub TakesPart : {T : Type 0} → Grammar T → Option (List ℕ) → Option (List ℕ) → Type 0
TakesPart grammar left left' = (read : List ℕ) × Consumes left left' read × (BeginsWith grammar read → ⊥)

-- some bytes were read, and no whole request is among them (own)
abbrev pub TakesSome : Option (List ℕ) → Option (List ℕ) → Type 0
TakesSome left left' = TakesPart request_frames left left'

-- a frame is refused: some bytes were read, which begin with no frame (own)
pub record RefusesFrame {T : Type 0} (grammar : Grammar T) (IsLookedAt : List ℕ → Type 0)
    (left left' : Option (List ℕ)) : Type 0 where
  pub read : List ℕ
  pub taken : Consumes left left' read
  pub some : read ≢ []
  pub bad : BeginNone grammar IsLookedAt read left'

-- a request is looked at once its header was read (own)
abbrev pub IsHeaderLong : List ℕ → Type 0
IsHeaderLong read = length read ≡ HEADER_BYTES

-- a frame is refused: some bytes were read, which begin with no request (own)
abbrev pub RefusesRequest : Option (List ℕ) → Option (List ℕ) → Type 0
RefusesRequest left left' = RefusesFrame request_frames IsHeaderLong left left'

-- There is no memory for the data of a command: all before them was read, whatever data of that length follow make a
-- request of it, and they have more than 24 bytes and at most 1,100,000 (own).
pub record LacksData (left left' : Option (List ℕ)) : Type 0 where
  pub read : List ℕ
  pub taken : Consumes left left' read
  pub count : ℕ
  pub many : INLINE_BYTES < count
  pub most : count ≤ MOST_DATA
  pub begun :
      (sent : List ℕ) → length sent ≡ count
      → (request : Request) × IsRequest request × (read ++ sent ≡ spell_request request)

-- why no frame is read after this many: the next is refused; a read failed before its last byte; or memory ran out
-- (own)
abbrev pub MissesFrame : {T : Type 0} → Grammar T → (List ℕ → Type 0)
    → (Option (List ℕ) → Option (List ℕ) → Type 0) → Option (List ℕ) → Option (List ℕ) → ℕ → WireFault → Type 0
MissesFrame grammar IsLookedAt Lacks left left' before (BadFrame number) =
    (number ≡ ticked before) × RefusesFrame grammar IsLookedAt left left'
MissesFrame grammar IsLookedAt Lacks left left' before ReadFault = TakesPart grammar left left'
MissesFrame grammar IsLookedAt Lacks left left' before WriteFault = ⊥
MissesFrame grammar IsLookedAt Lacks left left' before NoMemory = Lacks left left'

-- why no request is read after this many frames (own)
abbrev pub MissesRequest : Option (List ℕ) → Option (List ℕ) → ℕ → WireFault → Type 0
MissesRequest left left' before fault = MissesFrame request_frames IsHeaderLong LacksData left left' before fault

-- why there was no memory for all frames: for the next; or for one more in the list, which was read whole; or the
-- number of frames is at its greatest value (own)
abbrev pub LacksMore : {T : Type 0} → Grammar T → (Option (List ℕ) → Option (List ℕ) → Type 0) → ℕ
    → Option (List ℕ) → Option (List ℕ) → Type 0
LacksMore {T} grammar Lacks count left left' =
    Lacks left left'
    ⊎ (((frame : T) × ReadsFrame grammar left left' (Some frame)) ⊎ ((2 ^ 64 ≤ count + 1) × (left' ≡ left)))

-- why no more frames are read after this many: the next is refused; a read failed before its last byte; or memory ran
-- out (own)
abbrev pub MissesNext : {T : Type 0} → Grammar T → (List ℕ → Type 0)
    → (Option (List ℕ) → Option (List ℕ) → Type 0) → ℕ → Option (List ℕ) → Option (List ℕ) → WireFault → Type 0
MissesNext grammar IsLookedAt Lacks count left left' (BadFrame number) =
    (number ≡ ticked count) × RefusesFrame grammar IsLookedAt left left'
MissesNext grammar IsLookedAt Lacks count left left' ReadFault = TakesPart grammar left left'
MissesNext grammar IsLookedAt Lacks count left left' WriteFault = ⊥
MissesNext grammar IsLookedAt Lacks count left left' NoMemory = LacksMore grammar Lacks count left left'

-- some frames were read, and behind them no more (own)
pub record MissesAll {T : Type 0} (grammar : Grammar T) (IsLookedAt : List ℕ → Type 0)
    (Lacks : Option (List ℕ) → Option (List ℕ) → Type 0) (left left' : Option (List ℕ)) (fault : WireFault)
    : Type 0 where
  pub frames : List T
  pub spelled : All grammar.has frames
  pub behind : Option (List ℕ)
  pub read : Consumes left behind (flat_map grammar.spell frames)
  pub missed : MissesNext grammar IsLookedAt Lacks (length frames) behind left' fault

-- some requests were read, and behind them no more (own)
abbrev pub MissesRequests : Option (List ℕ) → Option (List ℕ) → WireFault → Type 0
MissesRequests left left' fault = MissesAll request_frames IsHeaderLong LacksData left left' fault
