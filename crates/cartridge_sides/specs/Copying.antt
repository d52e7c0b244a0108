-- A copy is written, body by body.
use Rattle.std.specs.Prelude.{◌≡◌, ◌⊎◌, ◌+◌, ◌≤◌, ℕ, List, [], ◌∷◌, ◌++◌, length, take, Some}
use Rattle.std.specs.List.{All, flat_map}
use Rattle.vtl_base.specs.declared.limits.TheConstants.{COPY_BODY}
use Rattle.vtl_base.specs.declared.layout.TheConstants.{BEGUN_BYTES, FRAME_HEAD}
use Rattle.vtl_base.specs.declared.faults.DevFault.{DevFault}
use Rattle.tape_disk.specs.Disk.{DiskState, Each, IsPrefixOf, Only}
use Rattle.tape_disk.specs.Moments.{LeavesOnly}
use Rattle.gate_journal.specs.declared.header.Header.{Header}
use Rattle.gate_journal.specs.declared.heads.Copied.{Copied}
use Rattle.gate_journal.specs.Answers.{IsFault, NoneFailed}
use Rattle.gate_journal.specs.Heads.{Head, base_of, spell_side_head}
use Rattle.gate_journal.specs.Side.{CLOSED, frame, heading_of}

-- the head of a copy with this header (own)
abbrev pub said_of : Header → Copied → Head
said_of header copied = record { heading = heading_of header; copied = Some copied }

-- what a frame of a copy may hold (own)
abbrev pub IsCopyBody : List ℕ → Type 0
IsCopyBody body = (1 ≤ length body) × (length body ≤ COPY_BODY)

-- Where each image began with ten bytes, each image at each moment since begins with them (own).
abbrev pub KeepsFront : DiskState → DiskState → Type 0
KeepsFront old new =
    (front : List ℕ) → length front ≡ BEGUN_BYTES → Each old (IsPrefixOf front) → LeavesOnly old new (IsPrefixOf front)

-- a copy with this head and these frames follows the ten bytes, and that is sure (own)
pub record IsWritten (head : Head) (bodies : List (List ℕ)) (old new : DiskState) : Type 0 where
  pub count_is : length bodies ≡ base_of head
  pub each : All IsCopyBody bodies
  pub none_failed : NoneFailed old new
  pub written : old.honest
      → (new.seen ≡ take BEGUN_BYTES old.seen ++ (spell_side_head head ++ (flat_map frame bodies ++ CLOSED ∷ [])))
      × Only new.seen new.may_leave

-- for a source of bodies
module _ {S : Type 0} (gives : S → List ℕ → S → Type 0) where
  -- the source gave these bodies, one after another (own)
  abbrev pub GivesAll : S → List (List ℕ) → S → Type 0
  GivesAll old [] new = new ≡ old
  GivesAll old (body ∷ bodies) new = (mid : S) × gives old body mid × GivesAll mid bodies new

  -- this body was given, and the disk ends with it as a frame (own)
  pub record WasGiven (body : List ℕ) (at end : ℕ) (source_old source_new : S) (old new : DiskState) : Type 0 where
    pub gave : gives source_old body source_new
    pub short : IsCopyBody body
    pub end_is : end ≡ at + FRAME_HEAD + length body
    pub none_failed : NoneFailed old new
    pub written : old.honest → new.seen ≡ old.seen ++ frame body

  -- these bodies were given, and the disk ends with them as frames, at that place (own)
  pub record HasFrames (count : ℕ) (bodies : List (List ℕ)) (end : ℕ) (source_old source_new : S) (old new : DiskState)
      : Type 0 where
    pub gave : GivesAll source_old bodies source_new
    pub count_is : length bodies ≡ count
    pub each : All IsCopyBody bodies
    pub none_failed : NoneFailed old new
    pub written : old.honest → (new.seen ≡ old.seen ++ flat_map frame bodies) × (end ≡ length new.seen)

  -- A copy with this head follows the ten bytes, nothing follows its closed gate, and that is sure. Its frames have the
  -- bodies that were given, as many as its base (own).
  abbrev pub HasCopied : Head → S → S → DiskState → DiskState → Type 0
  HasCopied head source_old source_new old new =
      (bodies : List (List ℕ)) × GivesAll source_old bodies source_new × IsWritten head bodies old new

  -- why a copy is not written: the disk failed, after some bodies were given; or their source failed (own)
  abbrev pub NotCopied : (S → DevFault → S → Type 0) → DevFault → S → S → DiskState → DiskState → Type 0
  NotCopied fails fault source_old source_new old new =
      (IsFault fault old new × ((bodies : List (List ℕ)) × GivesAll source_old bodies source_new))
      ⊎ (NoneFailed old new × ((bodies : List (List ℕ)) × (mid : S) × GivesAll source_old bodies mid
      × fails mid fault source_new))
