-- What a change at the position makes of a medium, and how it is answered.
use Rattle.std.proofs.Common.{◌≡◌, ◌<◌, ◌≤◌, ◌+◌, ◌++◌, if◌then◌else◌, ℕ, zero, suc, List, [], ◌∷◌, Option, Some, None, Result, Ok, Err, Bool, true, false, IsTrue, length, not, ◌==◌, take, nat_le, slice_get, slice_set, refl, arith, sym, ◌∙◌, ap, inl, inr, length-append, append-nil}
use Rattle.std.proofs.lemmas.Bool.{and_from, eqb-true, le-leb}
use Rattle.std.proofs.lemmas.Bool.Decides.{nat_tests}
use Rattle.std.proofs.lemmas.List.{length-take-le}
use Rattle.std.proofs.lemmas.List.Sums.{sum_by_push}
use Rattle.vtl_base.specs.declared.limits.TheConstants.{MAX_BLOCK, MAX_OBJECTS, OBJECT_COST}
use Rattle.scsi_sense.specs.declared.replies.Reply.{Reply}
use Rattle.volume_core.specs.declared.changes.Change.{Change}
use Rattle.volume_core.specs.declared.changes.Change.TheVariants.{Put}
use Rattle.volume_core.specs.declared.changes.Refusal.{Refusal}
use Rattle.volume_core.specs.declared.changes.Refusal.TheVariants.{NoRoom}
use Rattle.volume_core.specs.declared.media.MediumError.{MediumError}
use Rattle.volume_core.specs.declared.media.MediumError.TheVariants as medium
use Rattle.volume_core.specs.declared.objects.Object.{Object}
use Rattle.volume_core.specs.declared.objects.Object.TheVariants.{Block}
use Rattle.volume_core.specs.Volume.{Part, objects_of, capacity_of, used_up_to, used_of, cost_of, refusal_in, refusal_of, changed, part_after, added_by, part_of, staying_of, is_well_formed}
use Rattle.volume_core.specs.Medium.{Accepts, Fits, HasRoomFor, IsFull, MediumState, frame_size, met_fault, volume_of}
use Rattle.positioning.specs.declared.positions.Pos.{Pos}
use Rattle.drive_commands.specs.declared.faults.Fault.{Fault}
use Rattle.drive_commands.specs.declared.faults.Fault.TheVariants.{Writing, NoMemory, Reading, SideFull, Saving, StoreFull}
use Rattle.drive_commands.specs.State.{Mounted, mounted}
use Rattle.scsi_sense.specs.Replies.{check_with, good_with}
use Rattle.scsi_sense.specs.Senses.{volume_overflow}
use Rattle.drive_commands.specs.Append.{AppendWork, LacksRoom, amount_of, behind, done_reply, is_warned}
use Rattle.drive_commands.specs.Erase.{erase_at}
use Rattle.drive_commands.specs.Write.{WriteWork, put_at}
use Rattle.drive_commands.specs.Execute.{is_device_fault}
use Rattle.drive_commands.specs.Data.{data_left}
use Rattle.drive_commands.specs.Inner.Carries.{IsOnWorkingMedium}
use Rattle.drive_commands.specs.Inner.Appending.{IsAt, SettlesAfter, refused_as, restored, returned_of}

-- there is a partition at a number below their count
part_at : (volume : List Part) (p : ℕ) → p < length volume → (part : Part) × (slice_get volume p ≡ Some part)
part_at [] p h = absurd (omega (arith, h))
part_at (part ∷ parts) zero h = (part, refl)
part_at (part ∷ parts) (suc p) h = part_at parts p (omega (arith, h))

slice_get-set : (volume : List Part) (p : ℕ) (part : Part) → p < length volume
    → slice_get (slice_set volume p part) p ≡ Some part
slice_get-set [] p part h = absurd (omega (arith, h))
slice_get-set (x ∷ xs) zero part h = refl
slice_get-set (x ∷ xs) (suc p) part h = slice_get-set xs p part (omega (arith, h))

-- behind a change stand the objects that stayed, and those that it adds
count_changed : (volume : List Part) (change : Change) → part_of change < length volume
    → staying_of change ≤ length (objects_of volume (part_of change))
    → length (objects_of (changed volume change) (part_of change)) ≡ staying_of change + length (added_by change)
count_changed volume change within at =
    let (part, is) = part_at volume (part_of change) within in
    let stands : changed volume change ≡ slice_set volume (part_of change) (part_after part change) = rw is refl in
    rw (stands, slice_get-set volume (part_of change) (part_after part change) within)
    (simp length-append (omega (arith, length-take-le (staying_of change) part.objects (rw is at at))))

refused_in : (part : Part) (change : Change) (cause : Refusal) → staying_of change ≤ length part.objects
    → is_well_formed change ≡ true → refusal_in (Some part) change ≡ Some cause → cause ≡ NoRoom
refused_in part change cause at formed e = grind (arith, nat_tests)

-- a change that is well formed, at a position on the medium, is refused only where room is lacking
refused_for_room : (volume : List Part) (change : Change) (cause : Refusal) → part_of change < length volume
    → staying_of change ≤ length (objects_of volume (part_of change)) → is_well_formed change ≡ true
    → refusal_of volume change ≡ Some cause → refusal_of volume change ≡ Some NoRoom
refused_for_room volume change cause within at formed e =
    let (part, is) = part_at volume (part_of change) within in
    e ∙ ap Some (refused_in part change cause (rw is at at) formed (rw is at e))

-- the part and the object of a change at a position on the medium
within : (u : MediumState) (p : Pos) (change : Change) → IsOnWorkingMedium (mounted u p) → IsAt p change
    → part_of change < length (volume_of u)
within u p change ready at = rw at.part ready.on.on_tape.part

reaches : (u : MediumState) (p : Pos) (change : Change) → IsOnWorkingMedium (mounted u p) → IsAt p change
    → staying_of change ≤ length (objects_of (volume_of u) (part_of change))
reaches u p change ready at = rw (at.part, at.object) ready.on.on_tape.object

-- what does not fit adds something
lacks : (amount : Option ℕ) (u t : MediumState) (p : Pos) → (amount ≡ None → ⊥) → t ≡ u
    → LacksRoom amount (mounted u p) (check_with (volume_overflow amount) []) [] (mounted t p)
lacks None u t p some same = absurd (some refl)
lacks (Some amount) u t p some same = (refl, refl, ap (λ (x : MediumState). mounted x p) same)

-- what a medium does not accept changes nothing
pub append_refused : (settles : Bool) (change : Change) (u t : MediumState) (p : Pos) (error : MediumError)
    → IsOnWorkingMedium (mounted u p) → IsAt p change → is_well_formed change ≡ true
    → (amount_of change ≡ None → refusal_of (volume_of u) change ≡ None) → Accepts u change (Err error) t
    → AppendWork settles change (mounted u p) (refused_as error (amount_of change)) [] (mounted t p)
append_refused settles change u t p (medium.Refused cause) ready at formed fits answer =
    let room =
    refused_for_room (volume_of u) change cause (within u p change ready at) (reaches u p change ready at) formed
    answer.0 in
    rw room (lacks (amount_of change) u t p (λ none. cc (room, fits none)) answer.2)
append_refused settles change u t p medium.NoMemory ready at formed fits answer =
    (answer.0, refl, record { medium = answer.2; position = refl }, answer.3)
append_refused settles change u t p medium.SideFull ready at formed fits answer =
    (answer.0, refl, refl, ap (λ (x : MediumState). mounted x p) answer.2, answer.1)
append_refused settles change u t p medium.Device ready at formed fits answer =
    (answer.0, inl (refl, record { some_pending = answer.2; medium = answer.3; position = refl }), answer.4)
append_refused settles change u t p medium.Failed ready at formed fits answer =
    let works = ready.works in cc answer.0
append_refused settles change u t p medium.Unreadable ready at formed fits answer = absurd answer

-- the position behind a change is the end of data
stands : (change : Change) (u mid : MediumState) (p : Pos) (count : ℕ) → IsOnWorkingMedium (mounted u p) → IsAt p change
    → Accepts u change (Ok tt) mid → count ≡ length (objects_of (volume_of mid) p.part)
    → record p { obj = count } ≡ behind change p
stands change u mid p count ready at accepts counted =
    let sum : count ≡ p.obj + length (added_by change) =
    counted
    ∙ ap (λ (v : List Part). length (objects_of v p.part)) accepts.2.volume_is
    ∙ ap (λ (n : ℕ). length (objects_of (changed (volume_of u) change) n)) (sym at.part)
    ∙ count_changed (volume_of u) change (within u p change ready at) (reaches u p change ready at)
    ∙ ap (λ (n : ℕ). n + length (added_by change)) at.object in
    ap (λ (n : ℕ). record p { obj = n }) sum

-- what a medium accepts stands, and the position is behind it
pub append_accepted : (settles : Bool) (change : Change) (u mid t : MediumState) (p : Pos) (count : ℕ)
    (warned : Bool) (answer : Result Reply Fault)
    → IsOnWorkingMedium (mounted u p) → IsAt p change → Accepts u change (Ok tt) mid
    → count ≡ length (objects_of (volume_of mid) p.part)
    → warned ≡ is_warned (amount_of change) (volume_of mid) (record p { obj = count })
    → SettlesAfter settles warned mid answer t
    → AppendWork settles change (mounted u p) answer (change ∷ []) (mounted t (record p { obj = count }))
append_accepted settles change u mid t p count warned (Ok reply) ready at accepts counted warns done =
    let stand = stands change u mid p count ready at accepts counted in
    rw accepts.0 (
      done.0
          ∙ ap done_reply (warns ∙ (λ i. is_warned (amount_of change) (accepts.2.volume_is i) (stand i))),
      refl,
      record {
        medium_is = record {
          volume_is = done.1.volume_is ∙ accepts.2.volume_is;
          works = done.1.works;
          awake = done.1.awake;
        };
        position_is = stands change u mid p count ready at accepts counted;
      },
      done.2,
      accepts.3,
    )
append_accepted settles change u mid t p count warned (Err Writing) ready at accepts counted warns done = (
  accepts.0,
  inr (
    done.0,
    refl,
    mid,
    record {
      medium_is = accepts.2;
      position_is = stands change u mid p count ready at accepts counted;
    },
    done.1,
  ),
  accepts.3,
)
append_accepted settles change u mid t p count warned (Err NoMemory) ready at accepts counted warns done = absurd done
append_accepted settles change u mid t p count warned (Err Reading) ready at accepts counted warns done = absurd done
append_accepted settles change u mid t p count warned (Err (SideFull residue)) ready at accepts counted warns done =
    absurd done
append_accepted settles change u mid t p count warned (Err Saving) ready at accepts counted warns done = absurd done
append_accepted settles change u mid t p count warned (Err StoreFull) ready at accepts counted warns done = absurd done

-- the device fails where it failed in the medium's call
pub fault_refused : (error : MediumError) (amount : Option ℕ)
    → met_fault (Err error) ≡ is_device_fault (refused_as error amount)
fault_refused (medium.Refused cause) amount = refl
fault_refused medium.NoMemory amount = refl
fault_refused medium.SideFull amount = refl
fault_refused medium.Device amount = refl
fault_refused medium.Failed amount = refl
fault_refused medium.Unreadable amount = refl

-- what stays of a partition fits it
erase_in : (part : Part) (number at : ℕ) → at ≤ length part.objects → length part.objects ≤ MAX_OBJECTS
    → used_of (take at part.objects) ≤ part.capacity
    → refusal_in (Some part) (erase_at (record { part = number; obj = at })) ≡ None
erase_in part number at inside few fits =
    let count : length (take at part.objects ++ []) ≤ MAX_OBJECTS =
    simp length-append (omega (arith, few, length-take-le at part.objects inside)) in
    let used : used_of (take at part.objects ++ []) ≤ part.capacity = rw (append-nil (take at part.objects)) fits in
    grind (arith, nat_tests)

-- an ERASE at a position on the medium always fits
pub erase_fits : (volume : List Part) (position : Pos) → position.part < length volume
    → position.obj ≤ length (objects_of volume position.part)
    → length (objects_of volume position.part) ≤ MAX_OBJECTS
    → used_up_to volume position.part position.obj ≤ capacity_of volume position.part
    → refusal_of volume (erase_at position) ≡ None
erase_fits volume position within at few fits =
    let (part, is) = part_at volume position.part within in
    rw is (erase_in part position.part position.obj (rw is at at) (rw is at few) (rw is at fits))

-- where a side has no room for a block, the change that puts it does not fit
full_where : (room : Option ℕ) (pending : List Change) (change : Change) (bytes : ℕ) → frame_size change ≡ 15 + bytes
    → (HasRoomFor room pending bytes → ⊥) → IsFull room (pending ++ change ∷ [])
full_where None pending change bytes size lacks = lacks tt
full_where (Some room) pending change bytes size lacks =
    omega (arith, lacks, size, sum_by_push frame_size pending change)

-- where it has room, the change fits
fits_where : (room : Option ℕ) (pending : List Change) (change : Change) (bytes : ℕ) → frame_size change ≡ 15 + bytes
    → HasRoomFor room pending bytes → Fits room (pending ++ change ∷ [])
fits_where None pending change bytes size has = tt
fits_where (Some room) pending change bytes size has =
    omega (arith, has, size, sum_by_push frame_size pending change)

-- a WRITE of no bytes
pub nothing_written : (buffered : Bool) (sent : List ℕ) (u : MediumState) (p : Pos) (none : Bool)
    → none ≡ (length sent == 0) → none ≡ true
    → WriteWork buffered sent (mounted u p) (Ok (good_with [])) [] (mounted u p)
nothing_written buffered [] u p none tested is = (refl, refl, refl)
nothing_written buffered (byte ∷ bytes) u p none tested is =
    let long : length (byte ∷ bytes) ≡ 0 = eqb-true (length (byte ∷ bytes)) 0 (sym tested ∙ is) in
    absurd (omega (arith, long))

-- data that are not empty have a byte
pub some_bytes : (sent : List ℕ) (none : Bool) → none ≡ (length sent == 0) → none ≡ false → 1 ≤ length sent
some_bytes [] none tested is = let never : true ≡ false = sym tested ∙ is in absurd (cc)
some_bytes (byte ∷ bytes) none tested is = omega arith

-- a WRITE of some bytes makes a block of them
pub some_written : (buffered : Bool) (sent : List ℕ) (old : Mounted) (answer : Result Reply Fault)
    (made : List Change) (new : Mounted) → 1 ≤ length sent
    → AppendWork (not buffered) (put_at old.position sent) old answer made new
    → WriteWork buffered sent old answer made new
some_written buffered [] old answer made new some work = absurd (omega (arith, some))
some_written buffered (byte ∷ bytes) old answer made new some work = work

-- where the block is returned its bytes are put back, and else none are left
pub restored_is : (made : List Change) (part at : ℕ) (sent : List ℕ)
    → restored (returned_of made (Put part at sent)) [] ≡ data_left made sent
restored_is [] part at sent = refl
restored_is (change ∷ changes) part at sent = refl

-- a WRITE that the partition has no room for
pub write_lacks_room : (buffered : Bool) (sent : List ℕ) (u : MediumState) (p : Pos) (cause : Refusal)
    → 1 ≤ length sent → length sent ≤ MAX_BLOCK → IsOnWorkingMedium (mounted u p)
    → refusal_of (volume_of u) (put_at p sent) ≡ Some cause
    → WriteWork buffered sent (mounted u p) (Ok (check_with (volume_overflow (Some (length sent))) [])) [] (mounted u p)
write_lacks_room buffered [] u p cause some short ready refused = absurd (omega (arith, some))
write_lacks_room buffered (byte ∷ bytes) u p cause some short ready refused =
    let size = length (byte ∷ bytes) in
    let formed : is_well_formed (put_at p (byte ∷ bytes)) ≡ true =
    and_from (nat_le 1 size) (nat_le size MAX_BLOCK) (le-leb 1 size some) (le-leb size MAX_BLOCK short) in
    let room =
    refused_for_room (volume_of u) (put_at p (byte ∷ bytes)) cause ready.on.on_tape.part ready.on.on_tape.object formed
    refused in
    rw room (refl, refl, refl)

-- a WRITE that the side has no room for
pub write_lacks_side : (buffered : Bool) (sent : List ℕ) (u : MediumState) (p : Pos) (has : Bool) → 1 ≤ length sent
    → refusal_of (volume_of u) (put_at p sent) ≡ None
    → (HasRoomFor u.room u.pending (length sent) → IsTrue has) → has ≡ false
    → WriteWork buffered sent (mounted u p) (Err (SideFull (Some (length sent)))) [] (mounted u p)
write_lacks_side buffered [] u p has some none told lacking = absurd (omega (arith, some))
write_lacks_side buffered (byte ∷ bytes) u p true some none told lacking = absurd (cc)
write_lacks_side buffered (byte ∷ bytes) u p false some none told lacking = (
  none,
  refl,
  refl,
  refl,
  full_where u.room u.pending (put_at p (byte ∷ bytes)) (length (byte ∷ bytes)) refl
      (λ room. let never : IsTrue false = told room in absurd (cc)),
)

-- a WRITE that the side has room for, and no memory
pub write_lacks_memory : (buffered : Bool) (sent : List ℕ) (u : MediumState) (p : Pos) (has : Bool) → 1 ≤ length sent
    → IsOnWorkingMedium (mounted u p) → refusal_of (volume_of u) (put_at p sent) ≡ None
    → (IsTrue has → HasRoomFor u.room u.pending (length sent)) → has ≡ true
    → WriteWork buffered sent (mounted u p) (Err NoMemory) [] (mounted u p)
write_lacks_memory buffered [] u p has some ready none told having = absurd (omega (arith, some))
write_lacks_memory buffered (byte ∷ bytes) u p false some ready none told having = absurd (cc)
write_lacks_memory buffered (byte ∷ bytes) u p true some ready none told having = (
  none,
  refl,
  record {
    medium = record { volume_is = refl; works = ready.works; awake = ready.on.awake };
    position = refl;
  },
  fits_where u.room u.pending (put_at p (byte ∷ bytes)) (length (byte ∷ bytes)) refl (told refl),
)
