-- What a reader of a side finds.
use Rattle.std.specs.Prelude.{◌≡◌, ◌≢◌, ◌⊎◌, ◌<◌, ◌≤◌, ◌+◌, ◌^◌, ℕ, List, ◌∷◌, ◌++◌, length, take, drop, slice_index, Result, Ok, Err, Option, Some, None, false}
use Rattle.std.specs.List.{All, flat_map}
use Rattle.vtl_base.specs.declared.layout.TheConstants.{BEGUN_BYTES, FRAME_HEAD, LONGEST_FRONT, START_BYTES}
use Rattle.vtl_base.specs.declared.limits.TheConstants.{MAX_BODY}
use Rattle.tape_disk.specs.Disk.{DiskState, Only}
use Rattle.gate_journal.specs.declared.header.SideKind.{SideKind}
use Rattle.gate_journal.specs.declared.reading.Frames.{Frames}
use Rattle.gate_journal.specs.declared.reading.FrontBytes.{FrontBytes}
use Rattle.gate_journal.specs.declared.reading.ReadFront.{ReadFront}
use Rattle.gate_journal.specs.declared.fronts.ParsedFront.{ParsedFront}
use Rattle.gate_journal.specs.declared.error.JournalError.{JournalError}
use Rattle.gate_journal.specs.declared.error.JournalError.TheVariants.{NotOurs, Damaged, SideFull, Device, Failed, NoMemory}
use Rattle.gate_journal.specs.Side.{OPEN, AreTooFew, Front, IsBody, IsFront, StandsFor, IsNotOurs, IsBroken, BeginsWithFrame, base_of, frame, front_of, spell_front}
use Rattle.gate_journal.specs.Answers.{IsFault, NoneFailed}
use Rattle.gate_journal.specs.Inner.Asked.{BeginsAsked, IsAsked, IsNotAsked, NotOpenedAsked}
use Rattle.gate_journal.specs.Inner.Reading.{ParsesFront, size_behind}
use Rattle.gate_journal.specs.State.{StoresSide, IsExtent, bodies_at, extents_from}

-- why a reader returns an error: a cause or memory, without a failed call; or a fault (own)
abbrev pub NotRead : JournalError → Type 0 → (ℕ → Type 0) → Type 0 → DiskState → DiskState → Type 0
NotRead NotOurs not_ours damaged memory old new = NoneFailed old new × not_ours
NotRead (Damaged at) not_ours damaged memory old new = NoneFailed old new × damaged at
NotRead (Device fault) not_ours damaged memory old new = IsFault fault old new
NotRead NoMemory not_ours damaged memory old new = NoneFailed old new × memory
NotRead SideFull not_ours damaged memory old new = ⊥
NotRead Failed not_ours damaged memory old new = ⊥

-- the front that was read (own)
abbrev pub front_read : ReadFront → Front
front_read read = front_of read.header read.copied read.pair

-- the first bytes of the disk, as many as the byte of their count says a front has; or they are too few for a front
-- (own)
abbrev pub FindsBytes : Result FrontBytes JournalError → DiskState → DiskState → Type 0
FindsBytes (Ok found) old new =
    NoneFailed old new × (found.len ≡ START_BYTES + size_behind (slice_index found.bytes BEGUN_BYTES))
    × (found.len ≤ LONGEST_FRONT)
    × (old.honest → (rest : List ℕ) × (old.seen ≡ take found.len found.bytes ++ rest))
FindsBytes (Err error) old new = NotRead error (old.honest → IsNotOurs old.seen) (λ at. ⊥) ⊥ old new

-- the bytes of the front at the start of the disk, with what is read from them; or there is no front (own)
abbrev pub FindsParsed : Result (FrontBytes × ParsedFront) JournalError → DiskState → DiskState → Type 0
FindsParsed (Ok found) old new =
    NoneFailed old new × (found.0.len ≤ LONGEST_FRONT) × ParsesFront (take found.0.len found.0.bytes) (Some found.1)
    × (old.honest → (rest : List ℕ) × (old.seen ≡ take found.0.len found.0.bytes ++ rest))
FindsParsed (Err error) old new = NotRead error (old.honest → IsNotOurs old.seen) (λ at. ⊥) ⊥ old new

-- what is read from the front at the start of the disk; or there is no front (own)
abbrev pub FindsStart : Result ParsedFront JournalError → DiskState → DiskState → Type 0
FindsStart (Ok parsed) old new = NoneFailed old new × (old.honest → ParsesFront old.seen (Some parsed))
FindsStart (Err error) old new = NotRead error (old.honest → IsNotOurs old.seen) (λ at. ⊥) ⊥ old new

-- the same of a front of the required kind; or there is none (own)
abbrev pub FindsKind : Option SideKind → Result (FrontBytes × ParsedFront) JournalError → DiskState → DiskState → Type 0
FindsKind asked (Ok found) old new = FindsParsed (Ok found) old new × IsAsked asked found.1.kind
FindsKind asked (Err error) old new = NotRead error (old.honest → IsNotAsked asked old.seen) (λ at. ⊥) ⊥ old new

-- The front at the start of the disk, of the required kind, and the place after it; or there is none. Memory runs out
-- only where there is one (own).
abbrev pub FindsAsked : Option SideKind → Result ReadFront JournalError → DiskState → DiskState → Type 0
FindsAsked asked (Ok read) old new =
    (NoneFailed old new × IsFront (front_read read) × (read.start ≡ length (spell_front (front_read read)))
    × (old.honest → (rest : List ℕ) × (old.seen ≡ spell_front (front_read read) ++ rest)))
    × IsAsked asked read.header.kind
FindsAsked asked (Err error) old new =
    NotRead error (old.honest → IsNotAsked asked old.seen) (λ at. ⊥) (old.honest → BeginsAsked asked old.seen) old new

-- None at a closed gate; the length of the body at a whole frame with a further byte; an error at an open gate without
-- such a frame (own)
abbrev pub FindsMark : Result (Option ℕ) JournalError → ℕ → ℕ → DiskState → DiskState → Type 0
FindsMark (Ok None) at len old new =
    NoneFailed old new
    × (old.honest → (gate : ℕ) × (rest : List ℕ) × (gate ≢ OPEN) × (drop at old.seen ≡ gate ∷ rest))
FindsMark (Ok (Some size)) at len old new =
    NoneFailed old new × (1 ≤ size) × (size ≤ MAX_BODY) × (at + FRAME_HEAD + size < len)
    × (old.honest → (body : List ℕ) × (rest : List ℕ) × (length body ≡ size)
    × (drop at old.seen ≡ frame body ++ rest) × (rest ≡ drop (at + FRAME_HEAD + size) old.seen))
FindsMark (Err error) at len old new =
    NotRead error ⊥
    (λ place. (place ≡ at)
    × (old.honest → ((tail : List ℕ) × (drop at old.seen ≡ OPEN ∷ tail)) × (BeginsWithFrame (drop at old.seen) → ⊥)))
    ⊥ old new

-- bodies lie one after another from the start up to that place (own)
pub record Walked (seen : List ℕ) (start : ℕ) (bodies : List (List ℕ)) (extents : List (ℕ × ℕ)) (at : ℕ)
    : Type 0 where
  pub holds : All IsBody bodies
  pub split : drop start seen ≡ flat_map frame bodies ++ drop at seen
  pub extents_are : extents ≡ extents_from start bodies
  pub at_is : at ≡ start + length (flat_map frame bodies)

-- Whole frames lie from the start up to that place. There they break off, or a closed gate comes before as many frames
-- as the base (own).
abbrev pub BreaksOff : List ℕ → ℕ → ℕ → ℕ → Type 0
BreaksOff seen start base at =
    (bodies : List (List ℕ)) × (extents : List (ℕ × ℕ)) × Walked seen start bodies extents at
    × (IsBroken bodies (drop at seen) ⊎ AreTooFew base bodies (drop at seen))

-- the frames up to a closed gate, at least as many as the base; or the place where they break off (own)
abbrev pub FindsFrames : Result Frames JournalError → ℕ → ℕ → DiskState → DiskState → Type 0
FindsFrames (Ok frames) start base old new =
    NoneFailed old new × (frames.end + 1 < 2 ^ 64) × (start ≤ frames.end) × (base ≤ length frames.extents.items)
    × All (IsExtent frames.end) frames.extents.items
    × (old.honest → ((bodies : List (List ℕ)) × Walked old.seen start bodies frames.extents.items frames.end)
    × ((gate : ℕ) × (rest : List ℕ) × (gate ≢ OPEN) × (drop frames.end old.seen ≡ gate ∷ rest)))
FindsFrames (Err error) start base old new =
    NotRead error ⊥ (λ at. old.honest → BreaksOff old.seen start base at) (Unit {0}) old new

-- an open side of the required kind, with its proof; or why there is none (own)
abbrev pub FindsSide : Option SideKind → Result (ReadFront × Frames) JournalError → DiskState → DiskState → Type 0
FindsSide asked (Ok side) old new =
    NoneFailed old new × IsAsked asked side.0.header.kind × IsFront (front_read side.0) × (side.1.end + 1 < 2 ^ 64)
    × (base_of (front_read side.0).head ≤ length side.1.extents.items) × All (IsExtent side.1.end) side.1.extents.items
    × (old.honest
    → StoresSide new (front_read side.0) (bodies_at new.seen side.1.extents.items) side.1.extents.items side.1.end false
    × StandsFor (front_read side.0) (bodies_at new.seen side.1.extents.items) old.seen × Only old.seen new.may_leave)
FindsSide asked (Err error) old new = NotOpenedAsked asked error old new
