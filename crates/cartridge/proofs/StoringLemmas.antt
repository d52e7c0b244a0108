-- What a store's answers come to.
use Rattle.std.proofs.Common.{◌≡◌, ◌⊎◌, inl, inr, ℕ, ◌<◌, ◌≤◌, ◌+◌, List, [], ◌∷◌, length, map, sum_by, Option, Result, Ok, Err, sym, ap, subst, arith, length-append}
use Rattle.std.specs.Prelude.{IfErr, OnErr, OnOk, slice_index_or}
use Rattle.std.specs.Result.{IsErrAnd}
use Rattle.std.proofs.lemmas.Bool.{cases_lt}
use Rattle.volume_core.specs.declared.changes.Change.{Change}
use Rattle.volume_core.specs.Volume.{Part, AllApply}
use Rattle.tape_disk.specs.Disk.{DiskState}
use Rattle.tape_disk.specs.TwoDisks.{AreHonest}
use Rattle.gate_journal.specs.declared.heads.Copied.{Copied}
use Rattle.gate_journal.specs.Side.{Front}
use Rattle.gate_journal.specs.State.{OpenSide, room_behind}
use Rattle.cartridge_sides.specs.declared.which.Which.{Which}
use Rattle.change_records.specs.Records.{spell_change, spell_all}
use Rattle.object_index.specs.Places.{PlacedPart, reserved_of}
use Rattle.cartridge.specs.Answers.{LacksReserved, entries_of}
use Rattle.cartridge.specs.Contents.{IsContents}
use Rattle.cartridge.specs.Disks.{disks_by}
use Rattle.cartridge.specs.State.{OpenCartridge, Reserved}
use Rattle.cartridge.specs.Notes.{Notes, noted_as}
use Rattle.cartridge.specs.Inner.Growing.{HasEnoughReserved, HasRoomWithin, IsGrown, IsSameSide, TakesEntries}
use Rattle.cartridge.specs.Inner.Open.{IsOpen, StoresContents}
use Rattle.cartridge.proofs.GrowingLemmas.{entries_at, grown_reserved}
use Rattle.cartridge.proofs.OpenLemmas.{open_grown}
use Rattle.cartridge.proofs.PlacingLemmas.{entries_none}
use Rattle.cartridge.proofs.RecordLemmas.{some_bytes}

-- what holds anyway holds after an error
pub on_err_any : {T E : Type 0} {P : Type 0} (r : Result T E) → P → OnErr r P
on_err_any (Ok x) p = tt
on_err_any (Err e) p = p

-- what holds anyway holds at Ok
pub on_ok_any : {T E : Type 0} {P : Type 0} (r : Result T E) → P → OnOk r P
on_ok_any (Ok x) p = p
on_ok_any (Err e) p = tt

-- what follows from what is known of an error
pub if_err_by : {T E : Type 0} {P Q : E → Type 0} (r : Result T E) → IsErrAnd r Q → ((e : E) → Q e → P e) → IfErr r P
if_err_by (Ok x) is means = absurd is
if_err_by (Err e) is means = means e is

-- the room after a frame
pub room_left : (end after n : ℕ) → after ≡ end + 5 + n → n + 5 ≤ room_behind end
    → room_behind after + (n + 5) ≡ room_behind end
room_left end after n is fits = omega (arith, is, fits)

-- some change has some bytes
pub some_body : (changes : List Change) → 1 ≤ length changes → 1 ≤ length (spell_all changes)
some_body [] some = absurd (omega (arith, some))
some_body (c ∷ cs) some = omega (arith, some_bytes c, length-append (spell_change c) (spell_all cs))

pub grown_entries : (old new : List PlacedPart) → IsGrown old new → (part : ℕ)
    → slice_index_or (map (λ (p : PlacedPart). p.reserved) old) part 0
    ≤ slice_index_or (map (λ (p : PlacedPart). p.reserved) new) part 0
grown_entries old new grown part =
    omega (arith, entries_at old part, entries_at new part, grown_reserved old new part grown)

pub taken_entries : (old mid new : List PlacedPart) (changes : List Change) → IsGrown old mid
    → TakesEntries mid changes new → (part : ℕ)
    → slice_index_or (map (λ (p : PlacedPart). p.reserved) old) part 0
    ≤ slice_index_or (map (λ (p : PlacedPart). p.reserved) new) part 0 + sum_by (entries_of part) changes
taken_entries old mid new changes grown takes part =
    omega (arith, entries_at old part, entries_at new part, grown_reserved old mid part grown, takes part)

-- there is room in each partition, also in one that is not there: nothing is put into it
pub room_for : (volume : List Part) (index : List PlacedPart) (changes : List Change) → AllApply volume changes
    → length index ≡ length volume → HasRoomWithin index changes → HasEnoughReserved index changes
room_for volume index changes apply same room part = elim (cases_lt part (length index)) [
  | inl inside ↦ room part inside
  | inr beyond ↦ omega (arith, entries_none volume changes part apply (omega (arith, same, beyond)))
]

module _ {D : Type 0} (old new : OpenSide D) (same : IsSameSide old new) (index index' : List PlacedPart)
    (notes : Notes)
  where
    pub same_open : IsGrown index index' → IsOpen old.front.head.heading old.extents old.failed index notes
        → IsOpen new.front.head.heading new.extents new.failed index' notes
    same_open grown is =
        open_grown old.front.head.heading old.extents old.failed index notes is new.front.head.heading new.extents
        new.failed index' (ap (λ f. f.head.heading) same.front) same.extents same.failed grown

    module _ (which : Which) where
      pub same_own : IsContents (noted_as which old.front.head.copied notes)
          → IsContents (noted_as which new.front.head.copied notes)
      same_own own =
          subst (λ (c : Option Copied). IsContents (noted_as which c notes))
          (ap (λ f. f.head.copied) (sym same.front)) own

      pub same_stores : (state : D → DiskState) (spare : D)
          → (AreHonest state (disks_by which old.disk spare)
          → StoresContents (state old.disk) (state spare) which old.front old.bodies notes)
          → AreHonest state (disks_by which new.disk spare)
          → StoresContents (state new.disk) (state spare) which new.front new.bodies notes
      same_stores state spare stores =
          subst (λ (x : D × (Front × List (List ℕ))). AreHonest state (disks_by which x.0 spare)
          → StoresContents (state x.0) (state spare) which x.1.0 x.1.1 notes)
          (λ i. (sym same.disk i, (sym same.front i, sym same.bodies i))) stores

-- too little was reserved for these changes
pub lacks_shown : (index : List PlacedPart) (frames body size : ℕ) (changes : List Change)
    → size ≡ length (spell_all changes)
    → (frames ≡ 0) ⊎ ((body < size) ⊎ ((part : ℕ) × (reserved_of index part < sum_by (entries_of part) changes)))
    → LacksReserved (record {
      body = body;
      frames = frames;
      entries = map (λ (p : PlacedPart). p.reserved) index;
    }) changes
lacks_shown index frames body size changes is (inl none) = inl none
lacks_shown index frames body size changes is (inr (inl less)) = inr (inl (omega (arith, is, less)))
lacks_shown index frames body size changes is (inr (inr fewer)) =
    inr (inr (fewer.0, omega (arith, entries_at index fewer.0, fewer.1)))

-- an open cartridge over this side and the other disk
abbrev pub cartridge_on : {D : Type 0} → Which → OpenSide D → D → Notes → Reserved → OpenCartridge D
cartridge_on which side spare notes reserved =
    record {
      disks = disks_by which side.disk spare;
      contents = noted_as which side.front.head.copied notes;
      torn = notes.torn;
      failed = side.failed;
      room = room_behind side.end;
      reserved = reserved;
    }

-- over a side that is the same it is the same
pub same_view : {D : Type 0} (old new : OpenSide D) → IsSameSide old new → (which : Which) (spare : D) (notes : Notes)
    (reserved : Reserved)
    → cartridge_on which new spare notes reserved ≡ cartridge_on which old spare notes reserved
same_view old new same which spare notes reserved = λ k.
    record {
      disks = disks_by which (same.disk k) spare;
      contents = noted_as which (same.front k).head.copied notes;
      torn = notes.torn;
      failed = same.failed k;
      room = room_behind (same.end k);
      reserved = reserved;
    }

-- a side that is the same
pub same_side : {D : Type 0} (old new : OpenSide D) → new ≡ old → IsSameSide old new
same_side old new e = record {
  disk = ap (λ s. s.disk) e;
  front = ap (λ s. s.front) e;
  bodies = ap (λ s. s.bodies) e;
  extents = ap (λ s. s.extents) e;
  end = ap (λ s. s.end) e;
  failed = ap (λ s. s.failed) e;
  reserved = omega (arith, ap (λ s. s.reserved_extents) e);
}

-- or the same but for what is reserved
pub reserved_side : {D : Type 0} (old new : OpenSide D)
    → new ≡ record old { reserved = new.reserved; reserved_extents = new.reserved_extents }
    → old.reserved_extents ≤ new.reserved_extents → IsSameSide old new
reserved_side old new e more = record {
  disk = ap (λ s. s.disk) e;
  front = ap (λ s. s.front) e;
  bodies = ap (λ s. s.bodies) e;
  extents = ap (λ s. s.extents) e;
  end = ap (λ s. s.end) e;
  failed = ap (λ s. s.failed) e;
  reserved = more;
}
