-- What a store leaves: it makes room in memory, where the side and the index stay as they were, and then its frame is
-- appended, or the disk fails.
use Rattle.std.proofs.Common.{◌≡◌, inl, ℕ, ◌<◌, ◌≤◌, ◌+◌, List, [], ◌∷◌, ◌++◌, length, map, false, sym, ◌∙◌, ap, subst, arith}
use Rattle.std.specs.Prelude.{◌^◌, slice_index_or}
use Rattle.std.specs.List.{All}
use Rattle.vtl_base.specs.declared.limits.TheConstants.{MAX_PARTITIONS}
use Rattle.volume_core.specs.declared.changes.Change.{Change}
use Rattle.volume_core.specs.Volume.{AllApply, after}
use Rattle.tape_disk.specs.Disk.{DiskState, Each, IsDisk, Keeps}
use Rattle.tape_disk.specs.Moments.{LeavesOnly, weakened}
use Rattle.tape_disk.specs.TwoDisks.{AreHonest, EachOfTwo, TwoLeave}
use Rattle.gate_journal.specs.Answers.{Appended, Broke}
use Rattle.gate_journal.specs.Crash.{WithOrWithout}
use Rattle.gate_journal.specs.Side.{Front, StandsFor}
use Rattle.gate_journal.specs.State.{OpenSide, room_behind}
use Rattle.cartridge_sides.specs.declared.which.Which.{Which}
use Rattle.object_index.specs.Indexes.{Indexes}
use Rattle.object_index.specs.Places.{PlacedPart}
use Rattle.change_records.specs.Records.{IsRecord, spell_all}
use Rattle.cartridge.specs.Answers.{HasBroken, HasStored}
use Rattle.cartridge.specs.Contents.{GivesContents, IsContents, ShowsContents, volume_made}
use Rattle.cartridge.specs.Disks.{disks_by, images_by}
use Rattle.cartridge.specs.Inner.Growing.{HasEnoughReserved, HasRoomWithin, IsGrown, IsSameSide, TakesEntries}
use Rattle.cartridge.specs.Inner.Open.{IsOpen, SideShows, StoresContents}
use Rattle.cartridge.specs.Lying.{LiesOnSide}
use Rattle.cartridge.specs.Notes.{Notes, noted_as, noted_contents, with_frame, with_torn}
use Rattle.cartridge.specs.State.{OpenCartridge}
use Rattle.cartridge.proofs.BesideLemmas.{gives_pair, shows_pair}
use Rattle.cartridge.proofs.DisksLemmas.{by_honest, each_by, honest_by, leg_by}
use Rattle.cartridge.proofs.GrowingLemmas.{grown_length, grown_same}
use Rattle.cartridge.proofs.OpenLemmas.{before_placing, last_extent, one_more_extent, open_broken, open_grown, open_parts, open_records, open_stored, own_more, store_moments, store_sure, stores_broken, stores_stored, sure_at_rest}
use Rattle.cartridge.proofs.StoringLemmas.{cartridge_on, grown_entries, room_for, same_own, same_stores, taken_entries}

-- an open cartridge over this side and the other disk, with this index, and with room in memory for a body of so many
-- bytes
abbrev pub cartridge_with : {D : Type 0} → Which → OpenSide D → D → List PlacedPart → ℕ → Notes → OpenCartridge D
cartridge_with which side spare index capacity notes =
    cartridge_on which side spare notes (record {
      body = capacity;
      frames = side.reserved_extents;
      entries = map (λ (p : PlacedPart). p.reserved) index;
    })

module _ {D : Type 0} (old mid : OpenSide D) (same : IsSameSide old mid) (index index' : List PlacedPart)
    (grown : IsGrown index index') (few : length index ≤ MAX_PARTITIONS) (notes : Notes)
    (is : IsOpen old.front.head.heading old.extents old.failed index notes) (changes : List Change)
    (apply : AllApply (volume_made (noted_contents notes)) changes) where
  -- with room made there are as few partitions as before
  few_still : length index' ≤ 4
  few_still = omega (arith, few, grown_length index index' grown)

  -- with room made the cartridge is open as before
  open_still : IsOpen mid.front.head.heading mid.extents mid.failed index' notes
  open_still =
      open_grown old.front.head.heading old.extents old.failed index notes is mid.front.head.heading mid.extents
      mid.failed index' (ap (λ f. f.head.heading) same.front) same.extents same.failed grown

  -- each of the changes has a spelling
  pub all_records : All IsRecord changes
  all_records =
      open_records mid.front.head.heading mid.extents mid.failed index' notes open_still changes apply few_still

  -- the room that was made is room for all of the changes
  pub room_made : HasRoomWithin index' changes → HasEnoughReserved index' changes
  room_made =
      room_for (volume_made (noted_contents notes)) index' changes apply
      (open_parts mid.front.head.heading mid.extents mid.failed index' notes open_still)

  module _ (new : OpenSide D) (body : List ℕ) (body_is : body ≡ spell_all changes) where
    -- the body has as many bytes as the spelling of the changes
    size_is : length body ≡ length (spell_all changes)
    size_is = ap (λ (l : List ℕ). length l) body_is

    -- of two disks, where this side of them counts
    module _ (which : Which) (spare : D) (own : IsContents (noted_as which old.front.head.copied notes))
        (state : D → DiskState)
        (stores : AreHonest state (disks_by which old.disk spare)
        → StoresContents (state old.disk) (state spare) which old.front old.bodies notes) where
      own_still : IsContents (noted_as which mid.front.head.copied notes)
      own_still = same_own old mid same index index' notes which own

      stores_still : AreHonest state (disks_by which mid.disk spare)
          → StoresContents (state mid.disk) (state spare) which mid.front mid.bodies notes
      stores_still = same_stores old mid same index index' notes which state spare stores

      honest_still : AreHonest state (disks_by which old.disk spare) → AreHonest state (disks_by which mid.disk spare)
      honest_still = subst (λ (d : D). AreHonest state (disks_by which d spare)) (sym same.disk)

      -- at each moment images show the contents as they were, or with the changes
      pub shown_moments : ((state mid.disk).honest → mid.failed ≡ false
          → LeavesOnly (state mid.disk) (state new.disk) (WithOrWithout mid.front mid.bodies body))
          → AreHonest state (disks_by which old.disk spare) → old.failed ≡ false
          → TwoLeave state (disks_by which old.disk spare) (disks_by which new.disk spare)
          (ShowsContents (noted_as which old.front.head.copied notes) (changes ∷ []))
      shown_moments run honest fine =
          let h = honest_still honest in
          let had = stores_still h in
          let shown = λ (one : List ℕ) (has : SideShows mid.front (noted_as which mid.front.head.copied notes)
          (changes ∷ []) one) (other : List ℕ) (left : (state spare).may_leave other).
          shows_pair which mid.front notes.heading open_still.heading_is one other (had.beside other left)
          notes.frames (changes ∷ []) has in
          subst
          (λ (x : D × Front). TwoLeave state (disks_by which x.0 spare) (disks_by which new.disk spare)
          (ShowsContents (noted_as which x.1.head.copied notes) (changes ∷ [])))
          (λ i. (same.disk i, same.front i))
          (leg_by state which mid.disk spare new.disk
          (ShowsContents (noted_as which mid.front.head.copied notes) (changes ∷ []))
          (each_by state which mid.disk spare
          (ShowsContents (noted_as which mid.front.head.copied notes) (changes ∷ []))
          (λ one other left also.
          shown one (inl (sure_at_rest mid.front (noted_as which mid.front.head.copied notes) notes.torn one
          (is.at_rest fine) (had.shows one left))) other also))
          (weakened (state mid.disk) (state new.disk)
          (SideShows mid.front (noted_as which mid.front.head.copied notes) (changes ∷ []))
          (λ one. (other : List ℕ) → (state spare).may_leave other
          → ShowsContents (noted_as which mid.front.head.copied notes) (changes ∷ []) (images_by which one other))
          (store_moments mid.front.head.heading mid.extents mid.failed index' notes open_still changes apply few_still
          which mid.front own_still mid.bodies body body_is (state mid.disk) (state spare) had (state mid.disk)
          (state new.disk) (run (honest_by state which mid.disk spare h).0 (same.failed ∙ fine)))
          shown))

    module _ (appended : Appended mid new (length body)) where
      -- the side has one frame more than is noted
      pub counted_more : length new.extents ≡ length notes.frames + 1
      counted_more =
          one_more_extent mid.front.head.heading mid.extents mid.failed index' notes open_still changes apply
          new.extents (mid.end + 5, length body) appended.extents

      -- the last body lies behind the old end
      last_is : slice_index_or new.extents (length notes.frames) (0, 0) ≡ (mid.end + 5, length body)
      last_is =
          last_extent mid.front.head.heading mid.extents mid.failed index' notes open_still changes apply new.extents
          (mid.end + 5, length body) appended.extents

      -- the last body has as many bytes as the spelling of the changes
      pub last_sized : (slice_index_or new.extents (length notes.frames) (0, 0)).1 ≡ length (spell_all changes)
      last_sized = ap (λ (e : ℕ × ℕ). e.1) last_is ∙ size_is

      -- the place behind the last body fits in 64 bits
      pub last_fits :
          (slice_index_or new.extents (length notes.frames) (0, 0)).0 + length (spell_all changes) < 2 ^ 64
      last_fits = omega (arith, ap (λ (e : ℕ × ℕ). e.0) last_is, appended.fitted, size_is)

      -- the index says where the objects lie that stood before the changes
      pub lies_before :
          Indexes (LiesOnSide (with_frame notes changes) new.extents) (volume_made (noted_contents notes)) index'
      lies_before =
          before_placing mid.front.head.heading mid.extents mid.failed index' notes open_still changes apply
          new.extents (mid.end + 5, length body) appended.extents index' (grown_same index')

      module _ (noted : Notes) (noted_is : noted ≡ with_frame notes changes) (front_is : new.front ≡ mid.front) where
        -- once the changes are entered and noted, the cartridge is open
        pub stored_open : (entered : List PlacedPart)
            → Indexes (LiesOnSide (with_frame notes changes) new.extents)
            (after (volume_made (noted_contents notes)) changes) entered
            → IsOpen new.front.head.heading new.extents new.failed entered noted
        stored_open entered lies =
            subst (λ (n : Notes). IsOpen new.front.head.heading new.extents new.failed entered n) (sym noted_is)
            (open_stored mid.front.head.heading mid.extents mid.failed index' notes open_still changes apply
            new.extents (mid.end + 5, length body) appended.extents new.front.head.heading new.failed entered
            (ap (λ f. f.head.heading) front_is) appended.was_fine few_still lies)

        -- the changes were stored as one frame, which took no more of what was reserved than it needs
        pub stored_answer : (which : Which) (spare : D) (entered : List PlacedPart) (capacity capacity' : ℕ)
            → capacity ≤ capacity' → TakesEntries index' changes entered
            → HasStored (cartridge_with which old spare index capacity notes) changes
            (cartridge_with which new spare entered capacity' noted)
        stored_answer which spare entered capacity capacity' more takes = record {
          was_fine = sym same.failed ∙ appended.was_fine;
          is_fine = appended.is_fine;
          contents =
              let front = front_is ∙ same.front in λ i. noted_as which (front i).head.copied (noted_is i);
          torn = ap (λ (n : Notes). n.torn) noted_is;
          room = omega (arith, appended.end, appended.fitted, same.end, size_is);
          reserved = record {
            body = more;
            frames = omega (arith, same.reserved, appended.reserved_extents);
            entries = taken_entries index index' entered changes grown takes;
          };
        }

        module _ (which : Which) (spare : D) (own : IsContents (noted_as which old.front.head.copied notes)) where
          -- what is noted is contents
          pub stored_own : IsContents (noted_as which new.front.head.copied noted)
          stored_own =
              subst (λ (x : Front × Notes). IsContents (noted_as which x.0.head.copied x.1))
              (λ i. (sym front_is i, sym noted_is i))
              (own_more mid.front.head.heading mid.extents mid.failed index' notes open_still changes apply few_still
              which mid.front (same_own old mid same index index' notes which own))

          module _ (state : D → DiskState)
              (stores : AreHonest state (disks_by which old.disk spare)
              → StoresContents (state old.disk) (state spare) which old.front old.bodies notes)
              (bodies_are : (state mid.disk).honest → new.bodies ≡ mid.bodies ++ body ∷ [])
              (sure : (state mid.disk).honest → Each (state new.disk) (StandsFor new.front new.bodies)) where
            sure_mid : (state mid.disk).honest
                → Each (state new.disk) (StandsFor mid.front (mid.bodies ++ body ∷ []))
            sure_mid h image left =
                let bodies = bodies_are h in
                subst (λ (x : Front × List (List ℕ)). StandsFor x.0 x.1 image) (λ i. (front_is i, bodies i))
                (sure h image left)

            -- the new bodies spell what is noted, and each image shows it
            pub stored_stores : Keeps (state mid.disk) (state new.disk)
                → AreHonest state (disks_by which new.disk spare)
                → StoresContents (state new.disk) (state spare) which new.front new.bodies noted
            stored_stores keeps honest =
                let both = honest_by state which new.disk spare honest in
                let h = keeps.was_honest both.0 in
                let had = same_stores old mid same index index' notes which state spare stores
                (by_honest state which mid.disk spare h both.1) in
                let bodies = bodies_are h in
                subst (λ (x : Front × (List (List ℕ) × Notes)). StoresContents (state new.disk) (state spare) which x.0
                x.1.0 x.1.1)
                (λ i. (sym front_is i, (sym bodies i, sym noted_is i)))
                (stores_stored mid.front.head.heading mid.extents mid.failed index' notes open_still changes apply
                few_still which mid.front (same_own old mid same index index' notes which own) mid.bodies body body_is
                (state mid.disk) (state spare) had (state new.disk) (sure_mid h))

            -- each pair of images gives the contents with the changes
            pub stored_sure : AreHonest state (disks_by which old.disk spare)
                → EachOfTwo state (disks_by which new.disk spare)
                (GivesContents (noted_as which new.front.head.copied noted))
            stored_sure honest =
                let m = subst (λ (d : D). AreHonest state (disks_by which d spare)) (sym same.disk) honest in
                let had = same_stores old mid same index index' notes which state spare stores m in
                let h = (honest_by state which mid.disk spare m).0 in
                subst (λ (x : Front × Notes). EachOfTwo state (disks_by which new.disk spare)
                (GivesContents (noted_as which x.0.head.copied x.1)))
                (λ i. (sym front_is i, sym noted_is i))
                (each_by state which new.disk spare
                (GivesContents (noted_as which mid.front.head.copied (with_frame notes changes)))
                (λ one other left also.
                gives_pair which mid.front notes.heading open_still.heading_is one other (had.beside other also)
                (notes.frames ++ changes ∷ [])
                (store_sure mid.front.head.heading mid.extents mid.failed index' notes open_still changes apply
                few_still which mid.front (same_own old mid same index index' notes which own) mid.bodies body body_is
                (state mid.disk) (state spare) had (state new.disk) (sure_mid h) one left)))

    module _ (broke : Broke mid new (length body)) (noted : Notes) (noted_is : noted ≡ with_torn notes changes)
        (front_is : new.front ≡ mid.front) where
      -- after a fault the cartridge is open, and notes what was in flight
      pub broken_open : IsOpen new.front.head.heading new.extents new.failed index' noted
      broken_open =
          subst (λ (n : Notes). IsOpen new.front.head.heading new.extents new.failed index' n) (sym noted_is)
          (open_broken mid.front.head.heading mid.extents mid.failed index' notes open_still changes
          new.front.head.heading new.extents new.failed index' (ap (λ f. f.head.heading) front_is) broke.extents
          broke.failed (grown_same index'))

      module _ (which : Which) (spare : D) (own : IsContents (noted_as which old.front.head.copied notes)) where
        -- what is noted is contents
        pub broken_own : IsContents (noted_as which new.front.head.copied noted)
        broken_own =
            subst (λ (x : Front × Notes). IsContents (noted_as which x.0.head.copied x.1))
            (λ i. (sym front_is i, sym noted_is i)) (same_own old mid same index index' notes which own)

        -- after a fault each image shows the contents as they were, or with the changes
        pub broken_stores : (state : D → DiskState)
            → (AreHonest state (disks_by which old.disk spare)
            → StoresContents (state old.disk) (state spare) which old.front old.bodies notes)
            → ((state new.disk).honest → IsDisk (state new.disk)) → Keeps (state mid.disk) (state new.disk)
            → ((state mid.disk).honest → new.bodies ≡ mid.bodies)
            → ((state mid.disk).honest → mid.failed ≡ false
            → LeavesOnly (state mid.disk) (state new.disk) (WithOrWithout mid.front mid.bodies body))
            → AreHonest state (disks_by which new.disk spare)
            → StoresContents (state new.disk) (state spare) which new.front new.bodies noted
        broken_stores state stores is_disk keeps bodies_are run honest =
            let both = honest_by state which new.disk spare honest in
            let h = keeps.was_honest both.0 in
            let had = same_stores old mid same index index' notes which state spare stores
            (by_honest state which mid.disk spare h both.1) in
            let bodies = bodies_are h in
            subst (λ (x : Front × (List (List ℕ) × Notes)). StoresContents (state new.disk) (state spare) which x.0
            x.1.0 x.1.1)
            (λ i. (sym front_is i, (sym bodies i, sym noted_is i)))
            (stores_broken mid.front.head.heading mid.extents mid.failed index' notes open_still changes apply
            few_still which mid.front (same_own old mid same index index' notes which own) mid.bodies body body_is
            (state mid.disk) (state spare) had (state new.disk) (is_disk both.0) (run h broke.was_fine))

      -- the disk failed while the changes were stored, and no less is reserved than before
      pub broken_answer : (which : Which) (spare : D) (capacity capacity' : ℕ) → capacity ≤ capacity'
          → HasBroken (cartridge_with which old spare index capacity notes) changes
          (cartridge_with which new spare index' capacity' noted)
      broken_answer which spare capacity capacity' more = record {
        was_fine = sym same.failed ∙ broke.was_fine;
        fitted = omega (arith, broke.fitted, same.end, size_is);
        failed = broke.failed;
        contents =
            let front = front_is ∙ same.front in λ i. noted_as which (front i).head.copied (noted_is i);
        torn = ap (λ (n : Notes). n.torn) noted_is;
        room = ap room_behind (broke.end ∙ same.end);
        reserved = record {
          body = more;
          frames = omega (arith, same.reserved, broke.reserved_extents);
          entries = grown_entries index index' grown;
        };
      }
