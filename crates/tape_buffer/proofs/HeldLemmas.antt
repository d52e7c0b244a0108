-- What is known of a cartridge that is held, open or closed.
use Rattle.std.specs.Prelude.{◌≡◌, ◌⊎◌, ◌+◌, ◌++◌, ◌≤◌, List, [], Bool, true, false, not, Option, None, Some, length, option_map, if◌then◌else◌, refl}
use Rattle.std.proofs.Common.{inl, inr, sym, ◌∙◌, ap, subst, arith, ⊎_elim, length-append}
use Rattle.std.proofs.lemmas.List.{take_at, take_all}
use Rattle.tape_disk.specs.Disk.{DiskState, IsDisk}
use Rattle.tape_disk.specs.TwoDisks.{AreHonest, EachOfTwo, Images, seen_of_two}
use Rattle.volume_core.specs.declared.changes.Change.{Change}
use Rattle.volume_core.specs.Volume.{Part}
use Rattle.gate_journal.specs.Heads.{base_of}
use Rattle.cartridge.specs.Contents.{Contents, GivesContents, IsContents, ShowsContents, changes_of, changes_since, start_of, volume_made}
use Rattle.cartridge.specs.ContentsOn.{contents_on, contents_on_gives}
use Rattle.cartridge.specs.State.{ClosedCartridge, OpenCartridge}
use Rattle.accepted_changes.specs.Core.{IsCore}
use Rattle.accepted_changes.specs.Events.{ShowsCore}
use Rattle.tape_buffer.specs.Moves.{IsSafeOrPending, ShowsOn}
use Rattle.tape_buffer.specs.Rules.{GivesChanges, medium_rules}
use Rattle.tape_buffer.specs.State.{IsPendingOver, IsSettledOn, closed_state, found_core, found_in, open_core, torn_in}
use Rattle.tape_buffer.proofs.CoreLemmas.{gives_changes, gives_more, open_shows}

-- a closed cartridge's core is one
pub found_is_core : (found : Option Contents) (torn : List Change) → IsCore (found_core found torn)
found_is_core None torn = record { safe = omega arith; stored = omega arith }
found_is_core (Some contents) torn =
    record { safe = omega arith; stored = omega (arith, length-append (changes_since contents) torn) }

-- a closed cartridge is one that was stopped
pub found_stopped : (found : Option Contents) (torn : List Change) → (found_core found torn).recovering ≡ true
found_stopped None torn = refl
found_stopped (Some contents) torn = refl

-- what shows contents shows their core
pub found_shows : (contents : Contents) (torn : List (List Change)) → base_of contents.head ≤ length contents.frames
    → (images : Images) → ShowsContents contents torn images
    → ShowsCore medium_rules (found_core (Some contents) (changes_of torn)) images
found_shows contents torn copied images =
    ⊎_elim
    (λ g. inl (subst (λ (l : List Change). GivesChanges (start_of contents) l images)
    (sym (take_at (changes_since contents) (changes_of torn) (length (changes_since contents)) refl))
    (gives_changes contents images g)))
    (λ g. inr (subst (λ (l : List Change). GivesChanges (start_of contents) l images)
    (sym (take_all (length (changes_since contents) + length (changes_of torn))
    (changes_since contents ++ changes_of torn)
    (omega (arith, length-append (changes_since contents) (changes_of torn)))))
    (gives_more contents torn images copied g)))

module _ {D : Type 0} (state : D → DiskState) (is_disk : (disk : D) → (state disk).honest → IsDisk (state disk)) where
  -- a closed cartridge whose side gives a volume shows its core
  closed_shows : (c : ClosedCartridge D) → IsSettledOn state c
      → (c.known ≡ true → IsContents c.contents)
      → (c.known ≡ true → AreHonest state c.disks → EachOfTwo state c.disks (ShowsContents c.contents c.torn))
      → (volume : List Part) → (closed_state state c).stored ≡ Some volume
      → AreHonest state c.disks → EachOfTwo state c.disks
      (ShowsCore medium_rules (found_core (found_in state c) (torn_in state c)))
  closed_shows c settled is_known known volume gives honest images left = by c.known refl
    where
      unknown : (found : Option Contents) → contents_on (seen_of_two state c.disks) ≡ found
          → option_map volume_made found ≡ Some volume
          → images ≡ seen_of_two state c.disks → ShowsCore medium_rules (found_core found []) images
      unknown None none some seen = absurd (cc)
      unknown (Some contents) is some seen =
          let gives = contents_on_gives (seen_of_two state c.disks) contents is in
          found_shows contents [] gives.0.copied images
          (inl (subst (λ (x : Images). GivesContents contents x) (sym seen) gives))

      by : (k : Bool) → c.known ≡ k
          → ShowsCore medium_rules (found_core (found_in state c) (torn_in state c)) images
      by true is =
          subst (λ (k : Bool). ShowsCore medium_rules
          (found_core (if k then Some c.contents else contents_on (seen_of_two state c.disks))
          (if k then changes_of c.torn else [])) images) (sym is)
          (found_shows c.contents c.torn (is_known is).copied images (known is honest images left))
      by false is =
          subst (λ (k : Bool). ShowsCore medium_rules
          (found_core (if k then Some c.contents else contents_on (seen_of_two state c.disks))
          (if k then changes_of c.torn else [])) images) (sym is)
          (unknown (contents_on (seen_of_two state c.disks)) refl
          (subst (λ (k : Bool). option_map volume_made
          (if k then Some c.contents else contents_on (seen_of_two state c.disks))
          ≡ Some volume) is gives)
          (settled is honest images left))

  -- a closed cartridge that was opened before is settled, as one that is known to be
  settled_where : (c : ClosedCartridge D) → ((closed_state state c).unread ≡ false) ⊎ IsSettledOn state c
      → IsSettledOn state c
  settled_where c (inl read) unknown = let e : true ≡ false = sym (ap not unknown) ∙ read in cc
  settled_where c (inr settled) unknown = settled unknown

  -- so does a medium by what it holds
  pub shows_open : (c : OpenCartridge D) (pending : List Change) → IsPendingOver c pending → IsContents c.contents
      → (AreHonest state c.disks → EachOfTwo state c.disks (ShowsContents c.contents c.torn))
      → ShowsOn state (Some c.disks) (open_core c pending)
  shows_open c pending over contents shows honest images left =
      open_shows c pending over.torn contents.copied images (shows honest images left)

  pub shows_closed : (c : ClosedCartridge D) → (c.known ≡ true → IsContents c.contents)
      → (c.known ≡ true → AreHonest state c.disks → EachOfTwo state c.disks (ShowsContents c.contents c.torn))
      → ((closed_state state c).unread ≡ false) ⊎ IsSettledOn state c
      → (volume : List Part) → (closed_state state c).stored ≡ Some volume
      → ShowsOn state (Some c.disks) (found_core (found_in state c) (torn_in state c))
  shows_closed c contents shows sure volume some =
      closed_shows c (settled_where c sure) contents shows volume some

-- what of an open medium that works is stored is safe, and the rest is pending
pub whole_open : {D : Type 0} (c : OpenCartridge D) (pending : List Change) → (c.failed ≡ false → c.torn ≡ [])
    → IsSafeOrPending (open_core c pending) pending
whole_open c pending at_rest works going = (
  omega (arith, ap (λ (t : List (List Change)). length (changes_of t)) (at_rest works)),
  ap (λ (l : List Change). l ++ pending)
      (sym (take_at (changes_since c.contents) pending (length (changes_since c.contents)) refl)),
)

-- a closed one was stopped
pub whole_closed : (found : Option Contents) (torn : List Change) → IsSafeOrPending (found_core found torn) []
whole_closed None torn works going = absurd (cc)
whole_closed (Some contents) torn works going = absurd (cc)
