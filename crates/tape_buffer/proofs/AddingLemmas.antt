-- A change more is pending.
use Rattle.std.specs.Prelude.{◌≡◌, ◌+◌, ◌++◌, ◌≤◌, ℕ, List, [], ◌∷◌, Bool, true, false, None, Ok, Err, IsTrue, length, sum_by, refl}
use Rattle.std.proofs.Common.{inl, sym, ◌∙◌, ap, subst, arith}
use Rattle.std.proofs.lemmas.List.Sums.{sum_by-append}
use Rattle.vtl_base.specs.Below.{Advances, advances_on}
use Rattle.tape_disk.specs.Disk.{DiskState, IsDisk}
use Rattle.volume_core.specs.declared.changes.Change.{Change}
use Rattle.volume_core.specs.declared.media.MediumError.{MediumError}
use Rattle.volume_core.specs.declared.media.MediumError.TheVariants.{Refused, NoMemory, SideFull, Device, Failed, Unreadable}
use Rattle.volume_core.specs.Volume.{AllApply, Part, after, changed, refusal_of}
use Rattle.volume_core.specs.Medium.{Accepts, MediumState, Settles, Works, frame_size, volume_of}
use Rattle.volume_core.specs.Stores.{after_append}
use Rattle.volume_core.specs.Plain.{moves_on_by_changes}
use Rattle.change_records.specs.Records.{spell_all}
use Rattle.cartridge.specs.Contents.{volume_made}
use Rattle.cartridge.specs.State.{OpenCartridge}
use Rattle.tape_buffer.specs.Accepting.{accepts_one}
use Rattle.tape_buffer.specs.Limits.{FitsBuffer}
use Rattle.tape_buffer.specs.Moves.{buffer_below, medium_moves_on}
use Rattle.tape_buffer.specs.State.{IsPendingOver, IsReservedFor, open_buffer, open_state}
use Rattle.tape_buffer.proofs.CoreLemmas.{open_is_core}
use Rattle.tape_buffer.proofs.PendingLemmas.{records_of}

-- what may be pending is short
pub spelled_short : (changes : List Change) → FitsBuffer changes → length (spell_all changes) ≤ 4196864
spelled_short changes fits = omega (arith, records_of changes, fits.few, fits.short)

-- as many changes have as many bytes at least
pub no_shorter : (changes : List Change) → length changes ≤ length (spell_all changes)
no_shorter changes = omega (arith, records_of changes)

-- a change that applies behind others applies with them
pub apply_more : (volume : List Part) (changes : List Change) (change : Change) → AllApply volume changes
    → refusal_of (after volume changes) change ≡ None → AllApply volume (changes ++ change ∷ [])
apply_more volume changes change all none =
    (moves_on_by_changes volume (after volume changes) (changed (after volume changes) change) changes (change ∷ [])
    (all, refl) ((none, tt), refl)).0

-- with more reserved, it is pending too
pub pending_more : {D : Type 0} (c c' : OpenCartridge D) (pending pending' : List Change) (change : Change)
    → IsPendingOver c pending → c.torn ≡ [] → c' ≡ record c { reserved = c'.reserved }
    → refusal_of (after (volume_made c.contents) pending) change ≡ None
    → sum_by frame_size (pending ++ change ∷ []) ≤ c.room
    → IsReservedFor c'.reserved (pending ++ change ∷ []) → pending' ≡ pending ++ change ∷ [] → IsPendingOver c' pending'
pending_more c c' pending pending' change over none same unrefused room reserved is =
    subst (λ (p : OpenCartridge _ × List Change). IsPendingOver p.0 p.1) (λ i. ((sym same) i, (sym is) i))
    (record {
      apply = apply_more (volume_made c.contents) pending change over.apply unrefused;
      torn = inl none;
      fits = room;
      reserved = reserved;
    })

-- with more reserved, the others are pending still
pub pending_still : {D : Type 0} (c c' : OpenCartridge D) (pending pending' : List Change)
    → IsPendingOver c pending → c' ≡ record c { reserved = c'.reserved } → IsReservedFor c'.reserved pending
    → pending' ≡ pending → IsPendingOver c' pending'
pending_still c c' pending pending' over same reserved is =
    subst (λ (p : OpenCartridge _ × List Change). IsPendingOver p.0 p.1) (λ i. ((sym same) i, (sym is) i))
    (record { apply = over.apply; torn = over.torn; fits = over.fits; reserved = reserved })

-- way was to be made for a change, and the device failed
pub accepts_broken : {D : Type 0} (c m : OpenCartridge D) (pending between : List Change) (change : Change)
    (error : MediumError) → refusal_of (volume_of (open_state c pending)) change ≡ None → c.failed ≡ false
    → sum_by frame_size (pending ++ change ∷ []) ≤ c.room
    → Settles (open_state c pending) (Err error) (open_state m between)
    → Accepts (open_state c pending) change (Err error) (open_state m between)
accepts_broken c m pending between change Device none works room settled =
    (none, works, settled.1, settled.2, room)
accepts_broken c m pending between change Failed none works room settled = settled
accepts_broken c m pending between change (Refused cause) none works room settled = absurd settled
accepts_broken c m pending between change NoMemory none works room settled = absurd settled
accepts_broken c m pending between change SideFull none works room settled = absurd settled
accepts_broken c m pending between change Unreadable none works room settled = absurd settled

-- then the same volume is seen
pub volume_kept : (old new : MediumState) (error : MediumError) → Settles old (Err error) new
    → volume_of new ≡ volume_of old
volume_kept old new Device settled = settled.2.volume_is
volume_kept old new Failed settled = ap volume_of settled.1
volume_kept old new (Refused cause) settled = absurd settled
volume_kept old new NoMemory settled = absurd settled
volume_kept old new SideFull settled = absurd settled
volume_kept old new Unreadable settled = absurd settled

-- a frame more that has room fits beside what is pending
pub fits_more : (room size : ℕ) (has : Bool) (pending : List Change) (change : Change)
    → (IsTrue has → sum_by frame_size pending + size ≤ room) → size ≡ frame_size change → has ≡ true
    → sum_by frame_size (pending ++ change ∷ []) ≤ room
fits_more room size true pending change told is none =
    omega (arith, told refl, is, sum_by-append frame_size pending (change ∷ []))
fits_more room size false pending change told is none = absurd (cc)

module _ {D : Type 0} (c m c' : OpenCartridge D) (pending between pending' : List Change) (change : Change)
    (same : c' ≡ record m { reserved = c'.reserved }) where
  -- the same medium, to a drive
  same_state : open_state c' between ≡ open_state m between
  same_state = ap (λ (k : OpenCartridge D). open_state k between) same

  pub volume_still : pending' ≡ between → volume_of (open_state c' pending') ≡ volume_of (open_state m between)
  volume_still is = ap volume_of (ap (λ (l : List Change). open_state c' l) is ∙ same_state)

  module _ (is : pending' ≡ between ++ change ∷ []) where
    new_state : open_state c' pending' ≡ open_state m (between ++ change ∷ [])
    new_state = λ i. open_state (same i) (is i)

    pub volume_more : volume_of (open_state c' pending') ≡ changed (volume_of (open_state m between)) change
    volume_more = ap volume_of new_state ∙ after_append (volume_made m.contents) between (change ∷ [])

    pub accepts_more : Works (volume_of (open_state c pending)) (open_state m between)
        → refusal_of (volume_of (open_state c pending)) change ≡ None → c.failed ≡ false
        → sum_by frame_size (pending ++ change ∷ []) ≤ c.room
        → Accepts (open_state c pending) change (Ok tt) (open_state c' pending')
    accepts_more ready none works room = (
      none,
      works,
      subst (λ (s : MediumState). Works (changed (volume_of (open_state c pending)) change) s) (sym new_state)
          (record {
            volume_is =
                after_append (volume_made m.contents) between (change ∷ [])
                ∙ ap (λ (v : List Part). changed v change) ready.volume_is;
            works = ready.works;
            awake = refl;
          }),
      room,
    )

  module _ (state : D → DiskState) (is_disk : (disk : D) → (state disk).honest → IsDisk (state disk))
      (advances : Advances (buffer_below state) (open_buffer c pending) [] false (open_buffer m between)) where
    pub advances_more : IsPendingOver m between → refusal_of (volume_of (open_state m between)) change ≡ None
        → m.failed ≡ false → pending' ≡ between ++ change ∷ []
        → Advances (buffer_below state) (open_buffer c pending) (change ∷ []) false (open_buffer c' pending')
    advances_more over none works is =
        subst (λ (p : OpenCartridge D × List Change).
        Advances (buffer_below state) (open_buffer c pending) (change ∷ []) false (open_buffer p.0 p.1))
        (λ i. ((sym same) i, (sym is) i))
        (advances_on (buffer_below state) (medium_moves_on state) (open_buffer c pending)
        (open_buffer m between) (open_buffer (record m { reserved = c'.reserved }) (between ++ change ∷ [])) []
        (change ∷ []) false advances
        (record {
          moved =
              accepts_one m between state is_disk m.failed false change works (open_is_core m between over.torn) none;
          counted = refl;
          honesty = (λ h. h, λ h. h);
          hand = (λ h. h, λ h. h);
        }))
