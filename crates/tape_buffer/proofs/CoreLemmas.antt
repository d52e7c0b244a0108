-- What was accepted, stored and safe, before and after each call over an open cartridge.
use Rattle.std.specs.Prelude.{◌≡◌, ◌+◌, ◌++◌, ◌≤◌, ◌<◌, ℕ, List, [], ◌∷◌, Bool, true, false, None, IsTrue, length, take, refl}
use Rattle.std.proofs.Common.{inl, inr, sym, ◌∙◌, ap, subst, arith, ⊎_elim, append_assoc, length-append}
use Rattle.std.proofs.lemmas.List.{append-nil, take_at}
use Rattle.vtl_base.specs.Below.{Advances, advances_nowhere}
use Rattle.vtl_base.specs.declared.faults.DevFault.{DevFault}
use Rattle.tape_disk.specs.Disk.{DiskState, IsDisk}
use Rattle.tape_disk.specs.TwoDisks.{AreHonest, EachOfTwo, Images, KeepsDisks, TwoLeave, failures_of, two_weakened}
use Rattle.volume_core.specs.declared.changes.Change.{Change}
use Rattle.volume_core.specs.Volume.{after}
use Rattle.gate_journal.specs.Heads.{base_of}
use Rattle.cartridge.specs.Answers.{HasBroken, HasStored}
use Rattle.cartridge.specs.Contents.{Contents, GivesContents, IsContents, ShowsContents, Start, changes_of, changes_since, start_of, with_frames}
use Rattle.cartridge.specs.Disks.{IsFaultOfTwo, NoneOfTwo}
use Rattle.cartridge.specs.Extending.{since_with, start_with}
use Rattle.cartridge.specs.State.{OpenCartridge}
use Rattle.accepted_changes.specs.Core.{Core, IsCore, IsWorking, settled}
use Rattle.accepted_changes.specs.Device.{two_disks, two_is_device, two_keep}
use Rattle.accepted_changes.specs.Events.{CoreMoves, ShowsCore}
use Rattle.accepted_changes.specs.Kinds.{GivesSoMany, moves_failing, moves_sticking, moves_storing}
use Rattle.tape_buffer.specs.Accepting.{marked}
use Rattle.tape_buffer.specs.Rules.{GivesChanges, medium_rules}
use Rattle.tape_buffer.specs.Moves.{StoresBehind, buffer_below, medium_moves_nowhere}
use Rattle.tape_buffer.specs.State.{BufferState, IsTornFrom, open_buffer, open_core}
use Rattle.tape_buffer.proofs.TwoLemmas.{are_disks, none_failed, one_failed, stay_honest, were_honest}

-- the frame of all that is pending is a first part of it
pub torn_all : (torn : List (List Change)) (pending : List Change) → torn ≡ pending ∷ [] → IsTornFrom torn pending
torn_all torn pending is = inr (pending, is, ([], sym (append-nil pending)))

-- the changes of one frame
one_frame : (changes : List Change) → changes_of (changes ∷ []) ≡ changes
one_frame changes = append-nil changes

-- of one frame more these changes come last
since_more : (contents : Contents) (changes : List Change) → base_of contents.head ≤ length contents.frames
    → changes_since (with_frames contents (changes ∷ [])) ≡ changes_since contents ++ changes
since_more contents changes copied =
    since_with contents (changes ∷ []) copied
    ∙ ap (λ (l : List Change). changes_since contents ++ l) (one_frame changes)

-- what gives contents gives their changes
pub gives_changes : (contents : Contents) (images : Images) → GivesContents contents images
    → GivesChanges (start_of contents) (changes_since contents) images
gives_changes contents images gives = (contents, gives, refl, refl)

-- what gives contents with frames more gives their changes and those
pub gives_more : (contents : Contents) (torn : List (List Change)) (images : Images)
    → base_of contents.head ≤ length contents.frames → GivesContents (with_frames contents torn) images
    → GivesChanges (start_of contents) (changes_since contents ++ changes_of torn) images
gives_more contents torn images copied gives =
    (with_frames contents torn, gives, start_with contents torn copied, since_with contents torn copied)

gives_as : (start : Start) (xs ys : List Change) (images : Images) → xs ≡ ys
    → GivesChanges start xs images → GivesChanges start ys images
gives_as start xs ys images same gives = subst (λ (l : List Change). GivesChanges start l images) same gives

module _ {D : Type 0} (c : OpenCartridge D) (pending : List Change) where
  abbrev stored_changes : List Change
  stored_changes = changes_since c.contents

  front : take (length stored_changes) (stored_changes ++ pending) ≡ stored_changes
  front = take_at stored_changes pending (length stored_changes) refl

  torn_is : (frame : List Change) → c.torn ≡ frame ∷ [] → changes_of c.torn ≡ frame
  torn_is frame all = ap changes_of all ∙ one_frame frame

  -- of what is pending a first part was in flight
  torn_length : IsTornFrom c.torn pending → length (changes_of c.torn) ≤ length pending
  torn_length (inl none) = omega (arith, ap (λ (t : List (List Change)). length (changes_of t)) none)
  torn_length (inr some) =
      omega (
        arith,
        ap (λ (l : List Change). length l) (torn_is some.0 some.1),
        ap (λ (l : List Change). length l) some.2.1,
        length-append some.0 some.2.0,
      )

  pub stored_front : IsTornFrom c.torn pending
      → take (length stored_changes + length (changes_of c.torn)) (stored_changes ++ pending)
      ≡ stored_changes ++ changes_of c.torn
  stored_front (inl none) =
      ap (λ (n : ℕ). take n (stored_changes ++ pending))
      (omega (arith, ap (λ (t : List (List Change)). length (changes_of t)) none))
      ∙ front ∙ sym (append-nil stored_changes)
      ∙ ap (λ (t : List (List Change)). stored_changes ++ changes_of t) (sym none)
  stored_front (inr some) =
      let many = length stored_changes + length (changes_of c.torn) in
      let frame = torn_is some.0 some.1 in
      ap (λ (l : List Change). take many (stored_changes ++ l)) some.2.1
      ∙ ap (λ (l : List Change). take many l) (sym (append_assoc stored_changes some.0 some.2.0))
      ∙ take_at (stored_changes ++ some.0) some.2.0 many
      (omega (arith, length-append stored_changes some.0, ap (λ (l : List Change). length l) frame))
      ∙ ap (λ (l : List Change). stored_changes ++ l) (sym frame)

  pub open_is_core : IsTornFrom c.torn pending → IsCore (open_core c pending)
  open_is_core torn =
      record {
        safe = omega arith;
        stored = omega (arith, torn_length torn, length-append stored_changes pending);
      }

  -- what the side shows is what is safe, or what is stored
  pub open_shows : IsTornFrom c.torn pending → base_of c.contents.head ≤ length c.contents.frames
      → (image : Images) → ShowsContents c.contents c.torn image → ShowsCore medium_rules (open_core c pending) image
  open_shows torn copied image =
      ⊎_elim
      (λ g. inl (gives_as (start_of c.contents) stored_changes
      (take (length stored_changes) (stored_changes ++ pending))
      image (sym front) (gives_changes c.contents image g)))
      (λ g. inr (gives_as (start_of c.contents) (stored_changes ++ changes_of c.torn)
      (take (length stored_changes + length (changes_of c.torn)) (stored_changes ++ pending)) image
      (sym (stored_front torn)) (gives_more c.contents c.torn image copied g)))

-- All that is pending is stored, or was in flight when the disk failed: with these marks of a fault, whatever more was
-- accepted behind it.
module _ {D : Type 0} (c : OpenCartridge D) (pending more : List Change) (fault stuck : Bool) where
  abbrev since : List Change
  since = changes_since c.contents

  abbrev old_core : Core Start Change
  old_core = marked fault stuck c (pending ++ more)

  abbrev count : ℕ
  count = length since + length (changes_of c.torn) + length pending

  -- where it works nothing is in flight
  at_rest : c.torn ≡ [] → length (changes_of c.torn) ≡ 0
  at_rest none = ap (λ (t : List (List Change)). length (changes_of t)) none

  all_first : c.torn ≡ [] → take count (since ++ (pending ++ more)) ≡ since ++ pending
  all_first none =
      ap (λ (l : List Change). take count l) (sym (append_assoc since pending more))
      ∙ take_at (since ++ pending) more count (omega (arith, at_rest none, length-append since pending))

  -- the images of a storing, with or without what is pending
  so_many : c.torn ≡ [] → base_of c.contents.head ≤ length c.contents.frames → (image : Images)
      → ShowsContents c.contents (pending ∷ []) image → GivesSoMany medium_rules old_core (length pending) image
  so_many none copied image =
      ⊎_elim
      (λ g. inl (gives_as (start_of c.contents) since (take old_core.stored (since ++ (pending ++ more))) image
      (sym (take_at since (pending ++ more) old_core.stored (omega (arith, at_rest none))))
      (gives_changes c.contents image g)))
      (λ g. inr (gives_as (start_of c.contents) (since ++ changes_of (pending ∷ []))
      (take count (since ++ (pending ++ more))) image
      (ap (λ (l : List Change). since ++ l) (one_frame pending) ∙ sym (all_first none))
      (gives_more c.contents (pending ∷ []) image copied g)))

  module _ (c' : OpenCartridge D) (fault' stuck' : Bool) where
    -- all that was pending is stored and safe
    stored_core : fault' ≡ fault → stuck' ≡ stuck → c.torn ≡ [] → base_of c.contents.head ≤ length c.contents.frames
        → HasStored c pending c' → marked fault' stuck' c' more ≡ settled (length pending) old_core
    stored_core same_fault same_stuck none copied stored =
        let now : changes_since c'.contents ≡ since ++ pending =
        ap changes_since stored.contents ∙ since_more c.contents pending copied in
        let long : length (changes_since c'.contents) ≡ length since + length pending =
        ap length now ∙ length-append since pending in
        let rest : length (changes_of c'.torn) ≡ 0 =
        ap (λ (t : List (List Change)). length (changes_of t)) (stored.torn ∙ none) in
        let all : length (changes_since c'.contents) + length (changes_of c'.torn) ≡ count =
        omega (arith, long, rest, at_rest none) in
        let sure : length (changes_since c'.contents) ≡ count = omega (arith, long, at_rest none) in
        λ i. record {
          base = (ap start_of stored.contents ∙ start_with c.contents (pending ∷ []) copied) i;
          accepted = (ap (λ (l : List Change). l ++ more) now ∙ append_assoc since pending more) i;
          stored = all i;
          safe = sure i;
          fault = same_fault i;
          stuck = same_stuck i;
          recovering = false;
        }

    -- the disk failed, and all that is pending was in flight
    broken_core : (f s : Bool) → fault' ≡ f → stuck' ≡ s → c.torn ≡ [] → HasBroken c pending c'
        → marked fault' stuck' c' (pending ++ more) ≡ record old_core { stored = count; fault = f; stuck = s }
    broken_core f s is_fault is_stuck none broken =
        let all : length (changes_since c'.contents) + length (changes_of c'.torn) ≡ count =
        omega (
          arith,
          ap (λ (k : Contents). length (changes_since k)) broken.contents,
          ap (λ (t : List (List Change)). length (changes_of t)) broken.torn,
          ap length (one_frame pending),
          at_rest none,
        ) in
        λ i. record {
          base = (ap start_of broken.contents) i;
          accepted = (ap (λ (k : Contents). changes_since k ++ (pending ++ more)) broken.contents) i;
          stored = all i;
          safe = (ap (λ (k : Contents). length (changes_since k)) broken.contents) i;
          fault = is_fault i;
          stuck = is_stuck i;
          recovering = false;
        }

  module _ (state : D → DiskState) (is_disk : (disk : D) → (state disk).honest → IsDisk (state disk))
      (c' : OpenCartridge D) (none : c.torn ≡ []) (works : IsWorking old_core) (is : IsContents c.contents)
      (keeps : KeepsDisks state c.disks c'.disks)
      (moments : AreHonest state c.disks →
      TwoLeave state c.disks c'.disks (ShowsContents c.contents (pending ∷ []))) where
    leaves : AreHonest state c.disks →
        TwoLeave state c.disks c'.disks (GivesSoMany medium_rules old_core (length pending))
    leaves honest =
        two_weakened state c.disks c'.disks (ShowsContents c.contents (pending ∷ []))
        (GivesSoMany medium_rules old_core (length pending)) (moments honest) (so_many none is.copied)

    same : old_core.safe ≡ old_core.stored
    same = omega (arith, at_rest none)

    fits : old_core.stored + length pending ≤ length old_core.accepted
    fits = omega (arith, at_rest none, length-append since (pending ++ more), length-append pending more)

    pub moves_stored : (fault' stuck' : Bool) → fault' ≡ fault → stuck' ≡ stuck → HasStored c pending c'
        → (AreHonest state c.disks → EachOfTwo state c'.disks (GivesContents c'.contents))
        → CoreMoves medium_rules (two_disks state) c.disks c'.disks old_core (marked fault' stuck' c' more) []
    moves_stored fault' stuck' same_fault same_stuck stored sure =
        subst (λ (new : Core Start Change).
        CoreMoves medium_rules (two_disks state) c.disks c'.disks old_core new [])
        (sym (stored_core c' fault' stuck' same_fault same_stuck none is.copied stored))
        (moves_storing medium_rules (two_disks state) (two_is_device state) c.disks c'.disks old_core
        (length pending) (two_keep state c.disks c'.disks keeps) works same fits leaves
        (λ honest images left.
        subst (λ (start : Start). GivesChanges start (take count (since ++ (pending ++ more))) images)
        (ap start_of stored.contents ∙ start_with c.contents (pending ∷ []) is.copied)
        (gives_as (start_of c'.contents) (changes_since c'.contents) (take count (since ++ (pending ++ more))) images
        (ap changes_since stored.contents ∙ since_more c.contents pending is.copied ∙ sym (all_first none))
        (gives_changes c'.contents images (sure honest images left)))))

    pub moves_broken : (fault' : Bool) → fault' ≡ true → HasBroken c pending c'
        → failures_of state c.disks < failures_of state c'.disks
        → CoreMoves medium_rules (two_disks state) c.disks c'.disks old_core (marked fault' stuck c' (pending ++ more))
        []
    moves_broken fault' failed broken rose =
        subst (λ (new : Core Start Change).
        CoreMoves medium_rules (two_disks state) c.disks c'.disks old_core new [])
        (sym (broken_core c' fault' stuck true stuck failed refl none broken))
        (moves_failing medium_rules (two_disks state) (two_is_device state) c.disks c'.disks old_core
        (length pending) (are_disks state is_disk c'.disks) (two_keep state c.disks c'.disks keeps) rose works same
        fits leaves)

    pub moves_stuck : (stuck' : Bool) → stuck' ≡ true → HasBroken c pending c'
        → failures_of state c.disks < failures_of state c'.disks
        → CoreMoves medium_rules (two_disks state) c.disks c'.disks old_core (marked fault stuck' c' (pending ++ more))
        []
    moves_stuck stuck' failed broken rose =
        subst (λ (new : Core Start Change).
        CoreMoves medium_rules (two_disks state) c.disks c'.disks old_core new [])
        (sym (broken_core c' fault stuck' fault true refl failed none broken))
        (moves_sticking medium_rules (two_disks state) (two_is_device state) c.disks c'.disks old_core
        (length pending) (are_disks state is_disk c'.disks) (two_keep state c.disks c'.disks keeps) rose works same
        fits leaves)

-- the same of the medium, where its fault is reported at once; and where it is not, with all that is accepted behind
module _ {D : Type 0} (c : OpenCartridge D) (pending : List Change) (state : D → DiskState)
    (is_disk : (disk : D) → (state disk).honest → IsDisk (state disk)) (c' : OpenCartridge D) (none : c.torn ≡ [])
    (works : c.failed ≡ false) (is : IsContents c.contents) (keeps : KeepsDisks state c.disks c'.disks)
    (moments : AreHonest state c.disks →
    TwoLeave state c.disks c'.disks (ShowsContents c.contents (pending ∷ []))) where
  nothing_more : pending ++ [] ≡ pending
  nothing_more = append-nil pending

  pub advances_stored : HasStored c pending c' × NoneOfTwo state c.disks c'.disks
      → (AreHonest state c.disks → EachOfTwo state c'.disks (GivesContents c'.contents))
      → Advances (buffer_below state) (open_buffer c pending) [] false (open_buffer c' [])
  advances_stored done sure =
      record {
        moved =
            subst (λ (l : List Change).
            CoreMoves medium_rules (two_disks state) c.disks c'.disks (open_core c l) (open_core c' []) [])
            nothing_more
            (moves_stored c pending [] c.failed false state is_disk c' none (works, refl) is keeps moments c'.failed
            false (done.0.is_fine ∙ sym works) refl done.0 sure);
        counted = none_failed state c.disks c'.disks done.1;
        honesty = (stay_honest state c.disks c'.disks keeps, were_honest state c.disks c'.disks keeps);
        hand = (λ h. h, λ h. h);
      }

  pub advances_broken : HasBroken c pending c' → (fault : DevFault) → IsFaultOfTwo state fault c.disks c'.disks
      → Advances (buffer_below state) (open_buffer c pending) [] true (open_buffer c' pending)
  advances_broken broken fault failed =
      let rose = one_failed state c.disks c'.disks fault failed in
      record {
        moved =
            subst (λ (l : List Change).
            CoreMoves medium_rules (two_disks state) c.disks c'.disks (open_core c l) (open_core c' l) [])
            nothing_more
            (moves_broken c pending [] c.failed false state is_disk c' none (works, refl) is keeps moments c'.failed
            broken.failed broken rose);
        counted = rose;
        honesty = (stay_honest state c.disks c'.disks keeps, were_honest state c.disks c'.disks keeps);
        hand = (λ h. h, λ h. h);
      }

  pub behind_stored : HasStored c pending c'
      → (AreHonest state c.disks → EachOfTwo state c'.disks (GivesContents c'.contents))
      → StoresBehind state (open_buffer c pending) (open_buffer c' [])
  behind_stored stored sure more =
      moves_stored c pending more false c.failed state is_disk c' none (refl, works) is keeps moments false c'.failed
      refl (stored.is_fine ∙ sym works) stored sure

  pub behind_broken : HasBroken c pending c' → (fault : DevFault) → IsFaultOfTwo state fault c.disks c'.disks
      → StoresBehind state (open_buffer c pending) (open_buffer c' pending)
  behind_broken broken fault failed more =
      moves_stuck c pending more false c.failed state is_disk c' none (refl, works) is keeps moments c'.failed
      broken.failed broken (one_failed state c.disks c'.disks fault failed)

-- nothing is done
pub rests : {D : Type 0} (state : D → DiskState) → ((disk : D) → (state disk).honest → IsDisk (state disk))
    → (buffer : BufferState D) → Advances (buffer_below state) buffer [] false buffer
rests state is_disk buffer = advances_nowhere (buffer_below state) (medium_moves_nowhere state is_disk) buffer
