-- A medium that is lent takes a change more, and stores what is pending.
use Rattle.std.specs.Prelude.{◌≡◌, ◌⊎◌, ◌+◌, ◌++◌, ◌≤◌, ◌<◌, ℕ, List, [], ◌∷◌, None, false, length, sum_by, refl}
use Rattle.std.proofs.Common.{inl, inr, sym, ◌∙◌, ap, subst, arith, append_assoc, length-append}
use Rattle.std.proofs.lemmas.Bool.{cases_lt}
use Rattle.std.proofs.lemmas.List.Sums.{sum_by-append}
use Rattle.vtl_base.specs.Below.{Advances}
use Rattle.vtl_base.specs.declared.limits.TheConstants.{BUFFER_BYTES, BUFFER_RECORDS}
use Rattle.tape_disk.specs.Disk.{DiskState, IsDisk}
use Rattle.volume_core.specs.declared.changes.Change.{Change}
use Rattle.volume_core.specs.Medium.{block_bytes, frame_size}
use Rattle.volume_core.specs.Stores.{Stores}
use Rattle.volume_core.specs.Volume.{AllApply, Part, after, part_of, refusal_of}
use Rattle.cartridge.specs.Answers.{HasBroken, HasReserved, HasStored, KeepsReserved}
use Rattle.cartridge.specs.Contents.{Contents, volume_made}
use Rattle.cartridge.specs.Extending.{volume_more}
use Rattle.cartridge.specs.State.{OpenCartridge}
use Rattle.tape_buffer.specs.Accepting.{accepts_one}
use Rattle.tape_buffer.specs.declared.budgets.Budget.{Budget}
use Rattle.tape_buffer.specs.Inner.Storing.{IsRoomyFor}
use Rattle.tape_buffer.specs.Limits.{FitsBuffer}
use Rattle.tape_buffer.specs.Moves.{MovesUnreported, buffer_below}
use Rattle.tape_buffer.specs.State.{IsPendingOver, IsReservedFor, IsTornFrom, open_buffer, open_state}
use Rattle.tape_buffer.specs.Budgets.{KeepsBudget}
use Rattle.tape_buffer.specs.Taking.{LendsRecords, longest_body}
use Rattle.tape_buffer.proofs.AddingLemmas.{advances_more, apply_more, pending_still, spelled_short}
use Rattle.tape_buffer.proofs.VolumeLemmas.{inside_of, stays_so}
use Rattle.tape_buffer.proofs.CoreLemmas.{open_is_core, rests}
use Rattle.tape_buffer.proofs.RoomLemmas.{few_entries, one_frame_fits, reserved_more, reserved_still}

-- what is pending was stored, or was not
module _ {D : Type 0} (c c' : OpenCartridge D) (changes : List Change) (left : Budget)
    (roomy : IsRoomyFor c changes left) where
  pub roomy_stored : AllApply (volume_made c.contents) changes → 1 ≤ length changes → HasStored c changes c'
      → IsRoomyFor c' [] left
  roomy_stored apply some stored =
      let made : volume_made c'.contents ≡ after (volume_made c.contents) changes =
      ap volume_made stored.contents ∙ volume_more c.contents changes in
      let parts : length (volume_made c'.contents) ≡ length (volume_made c.contents) =
      ap (λ (v : List Part). length v) made ∙ (stays_so (volume_made c.contents) changes apply).parts in
      record {
        few = omega (arith, roomy.few);
        short = omega (arith, roomy.short);
        fits = omega (arith, roomy.fits, stored.room, one_frame_fits changes some);
        frames = omega (arith, roomy.one_more some, stored.reserved.frames);
        one_more = λ more. absurd (omega (arith, more));
        body = λ takes. omega (arith, roomy.body takes, stored.reserved.body);
        entries = λ takes part inside.
            omega (
              arith,
              roomy.entries takes part (omega (arith, inside, parts)),
              stored.reserved.entries part,
              few_entries part changes,
            );
      }

  pub roomy_broken : HasBroken c changes c' → IsRoomyFor c' changes left
  roomy_broken broken =
      record {
        few = roomy.few;
        short = roomy.short;
        fits = omega (arith, roomy.fits, broken.room);
        frames = omega (arith, roomy.frames, broken.reserved.frames);
        one_more = λ some. omega (arith, roomy.one_more some, broken.reserved.frames);
        body = λ takes. omega (arith, roomy.body takes, broken.reserved.body);
        entries = λ takes part inside.
            omega (
              arith,
              roomy.entries takes part
                  (omega (arith, inside, ap (λ (k : Contents). length (volume_made k)) broken.contents)),
              broken.reserved.entries part,
            );
      }

-- a first part stays one
torn_more : (torn : List (List Change)) (pending more : List Change) → IsTornFrom torn pending
    → IsTornFrom torn (pending ++ more)
torn_more torn pending more (inl none) = inl none
torn_more torn pending more (inr some) =
    inr (
      some.0,
      some.1,
      (some.2.0 ++ more, ap (λ (l : List Change). l ++ more) some.2.1 ∙ append_assoc some.0 some.2.0 more),
    )

-- a change is taken behind what is pending
module _ {D : Type 0} (c : OpenCartridge D) (pending : List Change) (left : Budget) (change : Change)
    (over : IsPendingOver c pending) (roomy : IsRoomyFor c pending left) (keeps : KeepsBudget left (change ∷ []))
  where
    takes : 1 ≤ left.records
    takes = omega (arith, keeps.records)

    pub fits_taken : FitsBuffer (pending ++ change ∷ [])
    fits_taken =
        record {
          few = omega (arith, roomy.few, keeps.records, length-append pending (change ∷ []));
          short = omega (arith, roomy.short, keeps.bytes, sum_by-append block_bytes pending (change ∷ []));
        }

    pub room_taken : sum_by frame_size (pending ++ change ∷ []) ≤ c.room
    room_taken = omega (arith, roomy.fits, keeps.room, sum_by-append frame_size pending (change ∷ []))

    module _ (none : refusal_of (after (volume_made c.contents) pending) change ≡ None) where
      there : part_of change < length (volume_made c.contents)
      there =
          omega (
            arith,
            inside_of (after (volume_made c.contents) pending) change none,
            (stays_so (volume_made c.contents) pending over.apply).parts,
          )

      reserved_taken : IsReservedFor c.reserved (pending ++ change ∷ [])
      reserved_taken =
          reserved_more c.reserved c.reserved pending change
          (record { body = omega arith; frames = omega arith; entries = λ part. omega arith }) over.reserved
          (omega (arith, spelled_short (pending ++ change ∷ []) fits_taken, roomy.body takes))
          (omega (arith, keeps.records, roomy.frames))
          (omega (arith, roomy.entries takes (part_of change) there, keeps.records))

      pub pending_taken : (pending' : List Change) → pending' ≡ pending ++ change ∷ [] → IsPendingOver c pending'
      pending_taken pending' is =
          subst (IsPendingOver c) (sym is)
          (record {
            apply = apply_more (volume_made c.contents) pending change over.apply none;
            torn = torn_more c.torn pending (change ∷ []) over.torn;
            fits = room_taken;
            reserved = reserved_taken;
          })

      pub advances_taken : (state : D → DiskState) → ((disk : D) → (state disk).honest → IsDisk (state disk))
          → (pending' : List Change) → pending' ≡ pending ++ change ∷ [] → c.failed ≡ false
          → Advances (buffer_below state) (open_buffer c pending) (change ∷ []) false (open_buffer c pending')
      advances_taken state is_disk pending' is works =
          advances_more c c c pending pending pending' change refl state is_disk
          (rests state is_disk (open_buffer c pending)) over none works is

      pub unreported_taken : (state : D → DiskState) → ((disk : D) → (state disk).honest → IsDisk (state disk))
          → (pending' : List Change) → pending' ≡ pending ++ change ∷ []
          → MovesUnreported state (open_buffer c pending) (change ∷ []) (open_buffer c pending')
      unreported_taken state is_disk pending' is =
          subst (λ (l : List Change).
          MovesUnreported state (open_buffer c pending) (change ∷ []) (open_buffer c l)) (sym is)
          (accepts_one c pending state is_disk false c.failed change refl (open_is_core c pending over.torn) none)

pub stores_taken : {D : Type 0} (c : OpenCartridge D) (pending pending' : List Change) (change : Change)
    → pending' ≡ pending ++ change ∷ [] → Stores (open_state c pending) (change ∷ []) (open_state c pending')
stores_taken c pending pending' change is =
    subst (λ (l : List Change). Stores (open_state c pending) (change ∷ []) (open_state c l)) (sym is)
    (record { count = 0; fits = omega arith; stored = refl; pending = refl; room = omega arith })

-- an open cartridge is lent, and what is reserved may grow
module _ {D : Type 0} (c c' : OpenCartridge D) (pending : List Change)
    (same : c' ≡ record c { reserved = c'.reserved }) where
  -- what is pending over it is pending still
  pub pending_lent : IsPendingOver c pending → KeepsReserved c.reserved c'.reserved → IsPendingOver c' pending
  pending_lent over grows =
      pending_still c c' pending pending over same (reserved_still c.reserved c'.reserved pending grows over.reserved)
      refl

  -- there is room for all that its budget has
  pub roomy_new : (left : Budget) (count : ℕ) → FitsBuffer pending → IsPendingOver c' pending
      → (1 ≤ left.records → HasReserved BUFFER_RECORDS longest_body BUFFER_RECORDS c'.reserved)
      → count ≡ length (volume_made c'.contents) → count ≡ length c'.reserved.entries
      → LendsRecords c pending left.records
      → left.bytes + sum_by block_bytes pending ≡ BUFFER_BYTES → left.room + sum_by frame_size pending ≡ c.room
      → IsRoomyFor c' pending left
  roomy_new left count fits over reserved parts entries records bytes room =
      record {
        few = few records;
        short = omega (arith, bytes);
        fits = omega (arith, room, ap (λ (k : OpenCartridge D). k.room) same);
        frames = frames (cases_lt 0 left.records);
        one_more = λ some. one_more some (cases_lt 0 left.records);
        body = λ takes. (reserved takes).longest;
        entries = λ takes part inside.
            omega (arith, few records, (reserved takes).each part (omega (arith, inside, parts, entries)));
      }
    where
      few : LendsRecords c pending left.records → length pending + left.records ≤ BUFFER_RECORDS
      few (inl all) = omega (arith, all.1)
      few (inr none) = omega (arith, none.0, fits.few)

      frames : (0 < left.records) ⊎ (left.records ≤ 0) → left.records ≤ c'.reserved.frames
      frames (inl takes) = omega (arith, few records, (reserved (omega (arith, takes))).frames)
      frames (inr none) = omega (arith, none)

      one_more : 1 ≤ length pending → (0 < left.records) ⊎ (left.records ≤ 0)
          → left.records + 1 ≤ c'.reserved.frames
      one_more some (inl takes) = omega (arith, some, few records, (reserved (omega (arith, takes))).frames)
      one_more some (inr none) = omega (arith, none, over.reserved.frames some)

  pub advances_lent : (state : D → DiskState) → ((disk : D) → (state disk).honest → IsDisk (state disk))
      → Advances (buffer_below state) (open_buffer c pending) [] false (open_buffer c' pending)
  advances_lent state is_disk =
      let stays = rests state is_disk (open_buffer c pending) in
      subst (λ (k : OpenCartridge D).
      Advances (buffer_below state) (open_buffer c pending) [] false (open_buffer k pending)) (sym same)
      (record { moved = stays.moved; counted = stays.counted; honesty = stays.honesty; hand = stays.hand })
