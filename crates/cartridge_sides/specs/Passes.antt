-- What the passes of a reclaim require of a pair of images, and what they do to it.
use Rattle.std.specs.Prelude.{◌≡◌, ◌≢◌, ◌+◌, ◌<◌, ◌^◌, ℕ, List, [], ◌∷◌, ◌++◌, length, take, drop, Some}
use Rattle.std.specs.List.{All, flat_map}
use Rattle.vtl_base.specs.declared.layout.TheConstants.{BEGUN_BYTES, PAIR_GATE}
use Rattle.tape_disk.specs.Disk.{DiskState, Only}
use Rattle.gate_journal.specs.Crash.{Unwritten}
use Rattle.gate_journal.specs.Heads.{Head, epoch_of, spell_side_head}
use Rattle.gate_journal.specs.Side.{OPEN, CLOSED, IsBody, frame}
use Rattle.cartridge_sides.specs.declared.which.Which.{Which}
use Rattle.cartridge_sides.specs.declared.which.Which.TheVariants.{First, Second}
use Rattle.cartridge_sides.specs.Pairs.{IsClosedSide, PairStandsFor, begun}

-- the head of a copy: that of the side that counts, with its epoch raised by one, and the number of the copy's frames
-- as its base (own)
abbrev pub copy_head : Head → List (List ℕ) → Head
copy_head head bodies = record head {
  copied = Some (record { epoch = epoch_of head + 1; base = length bodies });
}

-- the bytes of a copy, from place 10 on: its head, its frames, a closed gate (own)
abbrev pub spell_copy : Head → List (List ℕ) → List ℕ
spell_copy head bodies = spell_side_head (copy_head head bodies) ++ (flat_map frame bodies ++ CLOSED ∷ [])

-- a copy that can be spelled: the epoch can be raised, its bodies can be frames, and their number fits (own)
pub record IsCopy (head : Head) (copies : List (List ℕ)) : Type 0 where
  pub epoch : epoch_of head + 1 < 2 ^ 64
  pub few : length copies < 2 ^ 32
  pub each : All IsBody copies

-- the image begins with the ten bytes of a cartridge's side (own)
abbrev pub HasStart : List ℕ → Type 0
HasStart image = (side : ℕ) × (pair : ℕ) × (rest : List ℕ) × (image ≡ begun side pair ++ rest)

-- the disk's bytes begin with the ten bytes of a cartridge's side, and that is sure (own)
pub record IsSureStart (disk : DiskState) : Type 0 where
  pub start : HasStart disk.seen
  pub sure : Only disk.seen disk.may_leave

-- the first image's pair gate is closed (own)
abbrev pub IsShutPair : List ℕ → Type 0
IsShutPair first =
    (side : ℕ) × (pair : ℕ) × (rest : List ℕ) × (pair ≢ OPEN) × (first ≡ begun side pair ++ rest)

-- the second image is prepared: its ten bytes have closed gates (own)
abbrev pub IsPrepared : List ℕ → Type 0
IsPrepared second = (pair : ℕ) × (pair ≢ OPEN) × IsClosedSide pair second

-- the side gate of an image is open (own)
abbrev pub ReadsOpen : List ℕ → Type 0
ReadsOpen image = (rest : List ℕ) × (image ≡ OPEN ∷ rest)

-- the side gate of an image is closed, followed by the mark of a cartridge's side and a pair gate (own)
abbrev pub ReadsClosed : List ℕ → Type 0
ReadsClosed image = (pair : ℕ) × IsClosedSide pair image

-- the image is a closed side with these bytes from place 10 on (own)
abbrev pub HasWritten : List ℕ → List ℕ → Type 0
HasWritten copy image =
    (gate : ℕ) × (pair : ℕ) × (more : List ℕ) × (gate ≢ OPEN) × (image ≡ begun gate pair ++ (copy ++ more))

-- the image is an open side with exactly these bytes from place 10 on (own)
abbrev pub IsOpenSideOf : List ℕ → List ℕ → Type 0
IsOpenSideOf bytes image = (pair : ℕ) × (image ≡ begun OPEN pair ++ bytes)

-- the side that does not count where this one does (own)
abbrev pub other : Which → Which
other First = Second
other Second = First

-- the first image of a pair, by the image of the side that counts and that of the spare (own)
abbrev pub first_image : Which → List ℕ → List ℕ → List ℕ
first_image First counts spare = counts
first_image Second counts spare = spare

-- the second image of a pair, by the image of the side that counts and that of the spare (own)
abbrev pub second_image : Which → List ℕ → List ℕ → List ℕ
second_image First counts spare = spare
second_image Second counts spare = counts

-- the side that counts and the spare stand for a head and frames (own)
abbrev pub SidesStandFor : Which → Head → List (List ℕ) → List ℕ → List ℕ → Type 0
SidesStandFor which head bodies counts spare = PairStandsFor which head bodies (first_image which counts spare)
    (second_image which counts spare)

-- the spare holds a copy that counts now: its epoch is greater by one, and it has as many frames as its base (own)
abbrev pub TakesOver : Which → Head → List (List ℕ) → List ℕ → List ℕ → Type 0
TakesOver which head copies counts spare =
    PairStandsFor (other which) (copy_head head copies) copies (first_image which counts spare)
    (second_image which counts spare)

-- Where the first image's pair gate is closed, the second disk now has exactly the ten bytes of a prepared side, and
-- that is sure. Where the gate is open, the second disk was not written (own).
pub record IsPreparedBeside (first : List ℕ) (old new : DiskState) : Type 0 where
  pub shut : IsShutPair first → (new.seen ≡ begun CLOSED CLOSED) × Only new.seen new.may_leave
  pub opened : (IsShutPair first → ⊥) → Unwritten old new

-- the pair gate is open, all bytes before and after it are unchanged, and that is sure (own)
pub record IsPairedNow (old new : DiskState) : Type 0 where
  pub opened : (side : ℕ) × (rest : List ℕ) × (new.seen ≡ begun side OPEN ++ rest)
  pub before : take PAIR_GATE new.seen ≡ take PAIR_GATE old.seen
  pub behind : drop BEGUN_BYTES new.seen ≡ drop BEGUN_BYTES old.seen
  pub sure : Only new.seen new.may_leave

-- The side gate is closed: 00h where it was open, else unchanged. All bytes after it are unchanged. A crash leaves
-- exactly these bytes (own).
pub record IsClosedNow (old new : DiskState) : Type 0 where
  pub closed : ReadsClosed new.seen
  pub written : ReadsOpen old.seen → new.seen ≡ CLOSED ∷ drop 1 old.seen
  pub rests : ReadsClosed old.seen → new.seen ≡ old.seen
  pub same : drop 1 new.seen ≡ drop 1 old.seen
  pub sure : Only new.seen new.may_leave
