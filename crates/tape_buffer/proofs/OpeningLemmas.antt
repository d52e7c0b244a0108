-- A closed cartridge is opened: what its side gave is found, and made sure.
use Rattle.std.specs.Prelude.{◌≡◌, ◌⊎◌, ◌+◌, ◌++◌, ◌≤◌, ℕ, List, [], ◌∷◌, Bool, true, false, Some, length, take, sum_by, option_map, refl}
use Rattle.std.specs.List.{All, flat_map}
use Rattle.std.proofs.Common.{inl, inr, sym, ◌∙◌, ap, subst, arith, ⊎_elim, length-append}
use Rattle.std.proofs.lemmas.Grind.{flat_map-append}
use Rattle.std.proofs.lemmas.List.{append-nil, map-append, length-take-le}
use Rattle.std.proofs.lemmas.List.Elements.{All-head, All-tail}
use Rattle.std.proofs.lemmas.List.Sums.{sum_by-append}
use Rattle.vtl_base.specs.Below.{Advances}
use Rattle.tape_disk.specs.Disk.{DiskState, IsDisk}
use Rattle.tape_disk.specs.TwoDisks.{AreHonest, Images, KeepsDisks, MayLeave, TwoLeave, seen_of_two}
use Rattle.volume_core.specs.declared.changes.Change.{Change}
use Rattle.volume_core.specs.Volume.{after}
use Rattle.volume_core.specs.Medium.{Opens, frame_size}
use Rattle.volume_core.specs.Stores.{after_append}
use Rattle.gate_journal.specs.Heads.{Head, spell_side_head}
use Rattle.gate_journal.specs.Side.{IsBody, frame}
use Rattle.gate_journal.specs.State.{room_behind}
use Rattle.cartridge_sides.specs.Pairs.{gate_behind}
use Rattle.change_records.specs.Records.{spell_all}
use Rattle.cartridge.specs.Contents.{Contents, GivesContents, ShowsContents, Start, bodies_of, changes_in, changes_of, changes_since, start_of, volume_made, with_frames}
use Rattle.cartridge.specs.ContentsOn.{contents_on_is}
use Rattle.cartridge.specs.Disks.{NoneOfTwo, OnlyOfTwo}
use Rattle.cartridge.specs.State.{ClosedCartridge, OpenCartridge}
use Rattle.accepted_changes.specs.Core.{Core, IsCore, recovered}
use Rattle.accepted_changes.specs.Device.{two_disks, two_is_device, two_keep, two_rest}
use Rattle.accepted_changes.specs.Events.{ShowsCore}
use Rattle.accepted_changes.specs.Kinds.{moves_recovering}
use Rattle.tape_buffer.specs.Moves.{buffer_below}
use Rattle.tape_buffer.specs.Rules.{GivesChanges, medium_rules}
use Rattle.tape_buffer.specs.State.{IsPendingOver, closed_buffer, closed_state, found_core, found_in, open_buffer, open_core, open_state, room_found, room_of, torn_in}
use Rattle.tape_buffer.proofs.CoreLemmas.{gives_changes}
use Rattle.tape_buffer.proofs.HeldLemmas.{found_is_core, found_stopped}
use Rattle.tape_buffer.proofs.RoomLemmas.{one_frame_fits}
use Rattle.tape_buffer.proofs.TwoLemmas.{none_failed, read_now, stay_honest, were_honest}

-- a pair of images gives one cartridge's contents at most
abbrev pub GivesOne : Type 0
GivesOne = (images : Images) (a b : Contents) → GivesContents a images → GivesContents b images → a ≡ b

-- of a closed cartridge that is opened
module _ (one : GivesOne) (old : Core Start Change) (is : IsCore old) (found : Contents) (seen : Images)
    (gives : GivesContents found seen) where
  -- what was accepted is found, as far as it was safe, or stored
  found_as : (kept : ℕ) → GivesChanges old.base (take kept old.accepted) seen
      → (start_of found ≡ old.base) × (changes_since found ≡ take kept old.accepted)
  found_as kept given =
      let same : found ≡ given.0 = one seen found given.0 gives given.1 in
      (ap start_of same ∙ given.2, ap changes_since same ∙ given.3)

  -- where it was shown
  recovers : ShowsCore medium_rules old seen
      → (kept : ℕ) × ((kept ≡ old.safe) ⊎ (kept ≡ old.stored)) × (kept ≤ length old.accepted)
      × (start_of found ≡ old.base) × (changes_since found ≡ take kept old.accepted)
  recovers (inl g) =
      let as_found = found_as old.safe g in
      (old.safe, inl refl, omega (arith, is.safe, is.stored), as_found.0, as_found.1)
  recovers (inr g) =
      let as_found = found_as old.stored g in
      (old.stored, inr refl, omega (arith, is.stored), as_found.0, as_found.1)

module _ {D : Type 0} (state : D → DiskState) (is_disk : (disk : D) → (state disk).honest → IsDisk (state disk))
    (one : GivesOne) (old : ClosedCartridge D) (c : OpenCartridge D)
    (keeps : KeepsDisks state old.disks c.disks)
    (works : c.failed ≡ false) (none : c.torn ≡ [])
    (gives : AreHonest state old.disks →
    GivesContents c.contents (seen_of_two state old.disks) × OnlyOfTwo state old.disks c.disks) where
  abbrev old_core : Core Start Change
  old_core = found_core (found_in state old) (torn_in state old)

  opened_core : (kept : ℕ) → kept ≤ length old_core.accepted → start_of c.contents ≡ old_core.base
      → changes_since c.contents ≡ take kept old_core.accepted → open_core c [] ≡ recovered kept old_core
  opened_core kept fits start changes =
      let long : length (changes_since c.contents) ≡ kept =
      ap length changes ∙ length-take-le kept old_core.accepted fits in
      let stored : length (changes_since c.contents) + length (changes_of c.torn) ≡ kept =
      omega (arith, long, ap (λ (t : List (List Change)). length (changes_of t)) none) in
      let accepted : changes_since c.contents ++ [] ≡ take kept old_core.accepted =
      append-nil (changes_since c.contents) ∙ changes in
      λ i. record {
        base = start i;
        accepted = accepted i;
        stored = stored i;
        safe = long i;
        fault = works i;
        stuck = false;
        recovering = false;
      }

  pub advances_opened : (AreHonest state old.disks → TwoLeave state old.disks c.disks (MayLeave state old.disks))
      → NoneOfTwo state old.disks c.disks
      → Advances (buffer_below state) (closed_buffer old) [] false (open_buffer c [])
  advances_opened moments same =
      record {
        moved =
            moves_recovering medium_rules (two_disks state) (two_is_device state) old.disks c.disks old_core
            (open_core c []) (two_keep state old.disks c.disks keeps)
            (found_stopped (found_in state old) (torn_in state old))
            (λ honest. two_rest state old.disks c.disks (ShowsCore medium_rules old_core) (moments honest))
            (λ honest shows.
            let given = gives honest in
            let back = recovers one old_core (found_is_core (found_in state old) (torn_in state old)) c.contents
            (seen_of_two state old.disks) given.0 (shows (seen_of_two state old.disks)
            (read_now state is_disk old.disks honest)) in (
              back.0,
              back.1,
              opened_core back.0 back.2 back.3 back.4,
              λ images left.
                  subst (λ (x : Images). GivesChanges old_core.base (take back.0 old_core.accepted) x)
                  (sym (given.1 images left))
                  (subst (λ (p : Start × List Change). GivesChanges p.0 p.1 (seen_of_two state old.disks))
                  (λ i. (back.3 i, back.4 i)) (gives_changes c.contents (seen_of_two state old.disks) given.0)),
            ));
        counted = none_failed state old.disks c.disks same;
        honesty = (stay_honest state old.disks c.disks keeps, were_honest state old.disks c.disks keeps);
        hand = (λ h. h, λ h. h);
      }

-- contents with frames more: their changes come last
changes_with : (contents : Contents) (torn : List (List Change))
    → changes_in (with_frames contents torn) ≡ changes_in contents ++ changes_of torn
changes_with contents torn = flat_map-append (λ (frame : List Change). frame) contents.frames torn

volume_with : (contents : Contents) (torn : List (List Change))
    → volume_made (with_frames contents torn) ≡ after (volume_made contents) (changes_of torn)
volume_with contents torn =
    ap (after contents.base) (changes_with contents torn)
    ∙ after_append contents.base (changes_in contents) (changes_of torn)

-- each frame takes no more than its changes as frames of their own
frames_short : (torn : List (List Change)) → All IsBody (bodies_of torn)
    → length (flat_map frame (bodies_of torn)) ≤ sum_by frame_size (changes_of torn)
frames_short [] all = omega arith
frames_short (changes ∷ torn) all =
    let first : IsBody (spell_all changes) = All-head IsBody (spell_all changes) (bodies_of torn) all in
    omega (
      arith,
      one_frame_fits changes (some_changes changes first.0),
      frames_short torn (All-tail IsBody (spell_all changes) (bodies_of torn) all),
      length-append (frame (spell_all changes)) (flat_map frame (bodies_of torn)),
      sum_by-append frame_size changes (changes_of torn),
    )
  where
    some_changes : (changes : List Change) → 1 ≤ length (spell_all changes) → 1 ≤ length changes
    some_changes [] some = absurd (omega (arith, some))
    some_changes (change ∷ changes) some = omega arith

-- bytes with more in two parts are longer by the second one
longer_by : (head one more : List ℕ) → length (head ++ (one ++ more)) ≡ length (head ++ one) + length more
longer_by head one more =
    omega (
      arith,
      length-append head (one ++ more),
      length-append one more,
      length-append head one,
    )

-- a side with bodies more is longer by their frames
longer : (head : Head) (bodies more : List (List ℕ))
    → gate_behind head (bodies ++ more) ≡ gate_behind head bodies + length (flat_map frame more)
longer head bodies more =
    by (length (spell_side_head head ++ flat_map frame (bodies ++ more)))
    (length (spell_side_head head ++ flat_map frame bodies)) (length (flat_map frame more))
    (ap (λ (l : List ℕ). length (spell_side_head head ++ l)) (flat_map-append frame bodies more)
    ∙ longer_by (spell_side_head head) (flat_map frame bodies) (flat_map frame more))
  where
    by : (a b m : ℕ) → a ≡ b + m → 10 + a ≡ 10 + b + m
    by a b m is = omega (arith, is)

-- what is longer by so much has so much less room at most
less_room : (short long more : ℕ) → long ≡ short + more → room_behind short ≤ room_behind long + more
less_room short long more is = omega (arith, is)

-- of the room of a side at most what the frames more take is gone
room_with : (contents : Contents) (torn : List (List Change)) → All IsBody (bodies_of torn)
    → room_of contents ≤ room_of (with_frames contents torn) + sum_by frame_size (changes_of torn)
room_with contents torn all =
    let less = less_room (gate_behind contents.head (bodies_of contents.frames))
    (gate_behind contents.head (bodies_of (contents.frames ++ torn))) (length (flat_map frame (bodies_of torn)))
    (ap (λ (b : List (List ℕ)). gate_behind contents.head b) (map-append spell_all contents.frames torn)
    ∙ longer contents.head (bodies_of contents.frames) (bodies_of torn)) in
    at_most (room_of contents) (room_of (with_frames contents torn)) (length (flat_map frame (bodies_of torn)))
    (sum_by frame_size (changes_of torn)) less (frames_short torn all)
  where
    at_most : (a b m n : ℕ) → a ≤ b + m → m ≤ n → a ≤ b + n
    at_most a b m n le short = omega (arith, le, short)

-- of a list with a property a last part has it
last_part : (bodies more : List (List ℕ)) → All IsBody (bodies ++ more) → All IsBody more
last_part [] more all = all
last_part (body ∷ bodies) more all = last_part bodies more (All-tail IsBody body (bodies ++ more) all)

-- What is found on a side that showed contents: these, or these with the frame that was in flight. Its room is less by
-- that frame at most.
module _ (one : GivesOne) (contents : Contents) (torn : List (List Change)) (found : Contents) (seen : Images)
    (gives : GivesContents found seen) where
  volume_from : ShowsContents contents torn seen
      → (volume_made found ≡ volume_made contents)
      ⊎ (volume_made found ≡ after (volume_made contents) (changes_of torn))
  volume_from (inl g) = inl (ap volume_made (one seen found contents gives g))
  volume_from (inr g) =
      inr (ap volume_made (one seen found (with_frames contents torn) gives g) ∙ volume_with contents torn)

  room_from : ShowsContents contents torn seen
      → room_of contents ≤ room_of found + sum_by frame_size (changes_of torn)
  room_from (inl g) = omega (arith, ap room_of (one seen found contents gives g))
  room_from (inr g) =
      omega (
        arith,
        ap room_of (one seen found (with_frames contents torn) gives g),
        room_with contents torn
            (last_part (bodies_of contents.frames) (bodies_of torn)
            (subst (All IsBody) (map-append spell_all contents.frames torn) g.1.0.each)),
      )

module _ {D : Type 0} (state : D → DiskState) (one : GivesOne) (old : ClosedCartridge D) (c : OpenCartridge D)
    (known : old.known ≡ true → ShowsContents old.contents old.torn (seen_of_two state old.disks))
    (gives : GivesContents c.contents (seen_of_two state old.disks)) (room : c.room ≡ room_of c.contents) where
  opens_known : old.known ≡ true → Opens (closed_state state (record old { known = true })) (open_state c [])
  opens_known is =
      let shows = known is in
      record {
        first = λ unread. cc;
        volume =
            ⊎_elim (λ same. inl (ap Some same)) (λ more. inr (ap Some more))
            (volume_from one old.contents old.torn c.contents (seen_of_two state old.disks) gives shows);
        readable = λ none. absurd (cc);
        room_is =
            omega (
              arith,
              room,
              room_from one old.contents old.torn c.contents (seen_of_two state old.disks) gives
                  shows,
            );
      }

  opens_unknown : Opens (closed_state state (record old { known = false })) (open_state c [])
  opens_unknown =
      let is = contents_on_is (seen_of_two state old.disks) c.contents gives in
      record {
        volume = inl (sym (ap (option_map volume_made) is));
        first = λ unread. sym (ap (option_map volume_made) is);
        readable = λ none. let e = sym (ap (option_map volume_made) is) ∙ none in absurd (cc);
        room_is = omega (arith, room, ap room_found is);
      }

  pub opens : Opens (closed_state state old) (open_state c [])
  opens = by old.known refl
    where
      by : (k : Bool) → old.known ≡ k → Opens (closed_state state old) (open_state c [])
      by true is =
          subst (λ (o : ClosedCartridge D). Opens (closed_state state o) (open_state c []))
          (λ i. record old { known = (sym is) i }) (opens_known is)
      by false is =
          subst (λ (o : ClosedCartridge D). Opens (closed_state state o) (open_state c []))
          (λ i. record old { known = (sym is) i }) opens_unknown

-- nothing is pending over a cartridge that was just opened
pub nothing_over : {D : Type 0} (c : OpenCartridge D) → c.torn ≡ [] → IsPendingOver c []
nothing_over c none =
    record {
      apply = tt;
      torn = inl none;
      fits = omega arith;
      reserved = record {
        frames = λ some. absurd (omega (arith, some));
        body = omega arith;
        entries = λ part. omega arith;
      };
    }
