-- Where no fault comes, a command's work has one answer, command by command.
use Rattle.std.proofs.Common.{◌≡◌, ℕ, ℤ, zero, suc, List, [], ◌∷◌, Option, None, Some, Bool, true, false, not, sym, ◌∙◌, ap, subst, slice_get}
use Rattle.scsi_sense.specs.declared.replies.Reply.{Reply}
use Rattle.scsi_opcodes.specs.declared.commands.Command.{Command}
use Rattle.scsi_opcodes.specs.declared.commands.Command.TheVariants.{TestUnitReady, Rewind, RequestSense, ReadBlockLimits, Read, Write, WriteFilemarks, Space, Inquiry, Erase, Locate, ReadPosition, PersistentReserveIn, PersistentReserveOut, ModeSelect, ModeSense, LoadUnload}
use Rattle.scsi_sense.specs.Replies.{good_with}
use Rattle.vtl_base.specs.declared.space_codes.SpaceCode.{SpaceCode}
use Rattle.volume_core.specs.declared.changes.Change.{Change}
use Rattle.volume_core.specs.declared.changes.Refusal.{Refusal}
use Rattle.volume_core.specs.declared.changes.Refusal.TheVariants.{NoRoom, NoPartition, PastEnd, TooLong}
use Rattle.volume_core.specs.declared.objects.Object.{Object}
use Rattle.volume_core.specs.declared.objects.Object.TheVariants.{Block, Mark}
use Rattle.volume_core.specs.Volume.{refusal_of, changed, objects_of}
use Rattle.positioning.specs.declared.positions.Pos.{Pos}
use Rattle.drive_commands.specs.State.{Mounted, contents_of}
use Rattle.drive_commands.specs.Relations.{Idles}
use Rattle.drive_commands.specs.StoredFirst.{GoesTo}
use Rattle.drive_commands.specs.Rewind.{RewindWork, partition_start}
use Rattle.positioning.specs.Laws.{NoSpaceEndsTwice, NoLocateEndsTwice}
use Rattle.positioning.specs.Motion.{SpacesTo, LocatesTo}
use Rattle.positioning.specs.Report.{report_of}
use Rattle.drive_commands.specs.Append.{AppendWork, AppendAnswer, LacksRoom, amount_of, behind, done_reply, is_warned}
use Rattle.drive_commands.specs.Erase.{EraseWork, Erases, erase_at}
use Rattle.drive_commands.specs.Space.{SpaceMotion, SpaceWhen, is_over_nothing, space_reply}
use Rattle.drive_commands.specs.Locate.{LocateMotion, locate_reply, part_asked}
use Rattle.drive_commands.specs.Giving.{GivesPosition}
use Rattle.drive_commands.specs.Write.{WriteWork, put_at}
use Rattle.drive_commands.specs.Marks.{MarksWork, marks_at}
use Rattle.drive_commands.specs.Read.{ReadWork, ReadAnswer, GivesObject, object_at, next, block_reply}
use Rattle.drive_commands.specs.Work.{MediumWork}
use Rattle.drive_commands.specs.Determined.{IsSureSight, sight_of}
use Rattle.drive_theorems.proofs.AlikeLemmas.{MountedAlike, Agrees, IsDetermined, works_sure, works_alike, contents_alike, alike_by, goes_to, idles, stored_first}

module _ (old old' : Mounted) (reply reply' : Reply) (made made' : List Change) (m m' : Mounted)
    (S : Type 0) (e : MountedAlike S old old') where
  -- room is lacking
  lacks : (amount : Option ℕ) → LacksRoom amount old reply made m → LacksRoom amount old' reply' made' m'
      → Agrees S reply reply' made made' m m'
  lacks None h k = absurd h
  lacks (Some amount) h k = record {
    replies = h.0 ∙ sym k.0;
    changes = h.1 ∙ sym k.1;
    left = alike_by S m m' old old' h.2 k.2 e;
  }

  -- a change at the position, by whether it is refused
  answers : (cause : Option Refusal) (settles : Bool) (change change' : Change) → change ≡ change'
      → AppendAnswer cause settles change old reply made m → AppendAnswer cause settles change' old' reply' made' m'
      → Agrees S reply reply' made made' m m'
  answers None settles change change' c h k =
      let volumes : changed (contents_of old) change ≡ changed (contents_of old') change' =
      λ i. changed (contents_alike S old old' e i) (c i) in
      record {
        replies =
            h.0
            ∙ (λ i. done_reply (is_warned (amount_of (c i)) (volumes i) (behind (c i) (e.positions i))))
            ∙ sym k.0;
        changes = h.1 ∙ ap (λ (x : Change). x ∷ []) c ∙ sym k.1;
        left = record {
          sights =
              works_alike (changed (contents_of old) change) (changed (contents_of old') change') m.medium m'.medium
              volumes h.2.medium_is k.2.medium_is;
          positions = h.2.position_is ∙ (λ i. behind (c i) (e.positions i)) ∙ sym k.2.position_is;
          sure = λ s. works_sure (changed (contents_of old) change) m.medium h.2.medium_is;
        };
      }
  answers (Some NoRoom) settles change change' c h k =
      lacks (amount_of change) h
      (subst (λ (a : Option ℕ). LacksRoom a old' reply' made' m') (ap amount_of (sym c)) k)
  answers (Some NoPartition) settles change change' c h k = absurd h
  answers (Some PastEnd) settles change change' c h k = absurd h
  answers (Some TooLong) settles change change' c h k = absurd h

  -- READ, by the object at the position
  gives : (object : Option Object) (suppress : Bool) (asked : ℕ)
      → ReadAnswer (Unit {0}) object suppress asked old.position reply m.position
      → ReadAnswer (Unit {0}) object suppress asked old'.position reply' m'.position
      → (reply ≡ reply') × (m.position ≡ m'.position)
  gives None suppress asked h k = (h.0 ∙ sym k.0, h.1 ∙ e.positions ∙ sym k.1)
  gives (Some Mark) suppress asked h k = (h.0 ∙ sym k.0, h.1 ∙ ap next e.positions ∙ sym k.1)
  gives (Some (Block block)) suppress asked h k =
      let given : h.0.given ≡ k.0.given = h.0.same tt ∙ sym (k.0.same tt) in
      (h.0.replied ∙ ap (block_reply suppress asked) given ∙ sym k.0.replied, h.1 ∙ ap next e.positions ∙ sym k.1)

module _ (S : Type 0) where
  -- a change at the position
  appends : (settles : Bool) (change_at : Pos → Change)
      → IsDetermined S (λ old. AppendWork settles (change_at old.position) old)
  appends settles change_at old old' reply reply' made made' m m' e h k =
      let c : change_at old.position ≡ change_at old'.position = ap change_at e.positions in
      let cause = refusal_of (contents_of old) (change_at old.position) in
      let same : refusal_of (contents_of old') (change_at old'.position) ≡ cause =
      λ i. refusal_of (sym (contents_alike S old old' e) i) (sym c i) in
      answers old old' reply reply' made made' m m' S e cause settles (change_at old.position) (change_at
      old'.position) c h
      (subst (λ (r : Option Refusal). AppendAnswer r settles (change_at old'.position) old' reply' made' m') same k)

  -- WRITE
  writes : (buffered : Bool) (sent : List ℕ) → IsDetermined S (WriteWork buffered sent)
  writes buffered [] = idles S
  writes buffered (byte ∷ bytes) = appends (not buffered) (λ position. put_at position (byte ∷ bytes))

  -- WRITE FILEMARKS
  marks : (count : ℕ) (immediate : Bool) → IsDetermined S (MarksWork count immediate)
  marks zero true = idles S
  marks zero false = stored_first S Idles (idles S)
  marks (suc n) immediate = appends (not immediate) (λ position. marks_at position (suc n))

  -- the object at the position
  gives_object : (suppress : Bool) (asked : ℕ) → IsDetermined S (GivesObject (Unit {0}) suppress asked)
  gives_object suppress asked old old' reply reply' made made' m m' e h k =
      let object : object_at old' ≡ object_at old =
      λ i. slice_get (objects_of (sym (contents_alike S old old' e) i) (sym e.positions i).part)
      (sym e.positions i).obj in
      let k' : ReadAnswer (Unit {0}) (object_at old) suppress asked old'.position reply' m'.position =
      subst (λ (o : Option Object). ReadAnswer (Unit {0}) o suppress asked old'.position reply' m'.position) object
      k.2 in
      let given = gives old old' reply reply' made made' m m' S e (object_at old) suppress asked h.2 k' in
      record {
        replies = given.0;
        changes = h.0 ∙ sym k.0;
        left = record {
          sights = ap sight_of h.1 ∙ e.sights ∙ sym (ap sight_of k.1);
          positions = given.1;
          sure = λ s. subst IsSureSight (sym (ap sight_of h.1)) (e.sure s);
        };
      }

  -- READ
  reads : (suppress : Bool) (asked : ℕ) → IsDetermined S (ReadWork (Unit {0}) suppress asked)
  reads suppress zero = idles S
  reads suppress (suc n) = stored_first S (GivesObject (Unit {0}) suppress (suc n)) (gives_object suppress (suc n))

  -- REWIND
  rewinds : IsDetermined S RewindWork
  rewinds = stored_first S (GoesTo partition_start)
      (goes_to S partition_start (λ m m' e. ap (λ (q : Pos). record q { obj = 0 }) e.positions))

  -- the position is given
  gives_position : IsDetermined S GivesPosition
  gives_position old old' reply reply' made made' m m' e h k = record {
    replies = h.0 ∙ (λ i. good_with (report_of (contents_alike S old old' e i) (e.positions i))) ∙ sym k.0;
    changes = h.1 ∙ sym k.1;
    left = alike_by S m m' old old' h.2 k.2 e;
  }

  -- ERASE
  erases : (buffered : Bool) → IsDetermined S (EraseWork buffered)
  erases buffered = stored_first S (Erases buffered) (λ old old' reply reply' made made' m m' e h k.
      appends (not buffered) erase_at old old' reply reply' made made' m m' e h.0 k.0)

  -- a position in a partition, at an object
  at_place : (p q : Pos) → p.part ≡ q.part → p.obj ≡ q.obj → p ≡ q
  at_place p q part obj = λ i. record { part = part i; obj = obj i }

  -- SPACE
  spaced : NoSpaceEndsTwice → (code : SpaceCode) (count : ℤ) → IsDetermined S (SpaceMotion code count)
  spaced once code count old old' reply reply' made made' m m' e h k =
      let a = h.1 in
      let b = k.1 in
      let ends : SpacesTo (objects_of (contents_of old) old.position.part) old.position.obj code count m'.position.obj
      b.stop b.left =
      subst (λ (objects : List Object). SpacesTo objects old.position.obj code count m'.position.obj b.stop b.left)
      (sym (λ i. objects_of (contents_alike S old old' e i) (e.positions i).part))
      (subst (λ (from : ℕ).
      SpacesTo (objects_of (contents_of old') old'.position.part) from code count m'.position.obj b.stop b.left)
      (sym (ap (λ (p : Pos). p.obj) e.positions)) b.ends) in
      let same =
      once (objects_of (contents_of old) old.position.part) old.position.obj code count m.position.obj a.stop a.left
      m'.position.obj b.stop b.left a.ends ends in
      record {
        replies = a.replied ∙ (λ i. space_reply (same.1 i) (same.2 i)) ∙ sym b.replied;
        changes = h.0 ∙ sym k.0;
        left = record {
          sights = ap sight_of a.medium ∙ e.sights ∙ sym (ap sight_of b.medium);
          positions =
              at_place m.position m'.position (a.part ∙ ap (λ (p : Pos). p.part) e.positions ∙ sym b.part) same.0;
          sure = λ s. subst IsSureSight (sym (ap sight_of a.medium)) (e.sure s);
        };
      }

  spaces_when : NoSpaceEndsTwice → (nothing : Bool) (code : SpaceCode) (count : ℤ)
      → IsDetermined S (SpaceWhen nothing code count)
  spaces_when once true code count = idles S
  spaces_when once false code count = stored_first S (SpaceMotion code count) (spaced once code count)

  -- LOCATE
  located : NoLocateEndsTwice → (object : ℕ) (part : Option ℕ) → IsDetermined S (LocateMotion object part)
  located once object part old old' reply reply' made made' m m' e h k =
      let a = h.1 in
      let b = k.1 in
      let parts : part_asked part old.position ≡ part_asked part old'.position = ap (part_asked part) e.positions in
      let ends : LocatesTo (objects_of (contents_of old) (part_asked part old.position)) object m'.position.obj b.stop
      b.left =
      subst (λ (objects : List Object). LocatesTo objects object m'.position.obj b.stop b.left)
      (sym (λ i. objects_of (contents_alike S old old' e i) (parts i))) b.ends in
      let same =
      once (objects_of (contents_of old) (part_asked part old.position)) object m.position.obj a.stop a.left
      m'.position.obj b.stop b.left a.ends ends in
      record {
        replies = a.replied ∙ ap locate_reply same.1 ∙ sym b.replied;
        changes = h.0 ∙ sym k.0;
        left = record {
          sights = ap sight_of a.medium ∙ e.sights ∙ sym (ap sight_of b.medium);
          positions = at_place m.position m'.position (a.part_is ∙ parts ∙ sym b.part_is) same.0;
          sure = λ s. subst IsSureSight (sym (ap sight_of a.medium)) (e.sure s);
        };
      }

  -- no work on a medium
  none_determined : IsDetermined S (λ old answer made new. ⊥)
  none_determined old old' reply reply' made made' m m' e h k = absurd h

  -- any command
  pub commands : NoSpaceEndsTwice → NoLocateEndsTwice → (command : Command) (buffered : Bool) (sent : List ℕ)
      → IsDetermined S (MediumWork (Unit {0}) command buffered sent)
  commands spaces locates TestUnitReady buffered sent = idles S
  commands spaces locates Rewind buffered sent = rewinds
  commands spaces locates (Read asked suppress) buffered sent = reads suppress asked
  commands spaces locates (Write asked) buffered sent = writes buffered sent
  commands spaces locates (WriteFilemarks count immediate) buffered sent = marks count immediate
  commands spaces locates (Space code count) buffered sent =
      spaces_when spaces (is_over_nothing code count) code count
  commands spaces locates Erase buffered sent = erases buffered
  commands spaces locates (Locate object part) buffered sent =
      stored_first S (LocateMotion object part) (located locates object part)
  commands spaces locates ReadPosition buffered sent = stored_first S GivesPosition gives_position
  commands spaces locates (RequestSense room) buffered sent = none_determined
  commands spaces locates ReadBlockLimits buffered sent = none_determined
  commands spaces locates (Inquiry room) buffered sent = none_determined
  commands spaces locates (PersistentReserveIn action room) buffered sent = none_determined
  commands spaces locates (PersistentReserveOut action bytes) buffered sent = none_determined
  commands spaces locates (ModeSelect length) buffered sent = none_determined
  commands spaces locates (ModeSense room bare) buffered sent = none_determined
  commands spaces locates (LoadUnload load) buffered sent = none_determined
