-- What the halves of a drive answer, and the share of the drive then.
use Rattle.std.proofs.Common.{◌≡◌, ◌≢◌, ◌+◌, ◌∙◌, ℕ, List, Option, None, Some, Result, Ok, Err, is_some, true, refl, sym, ap, subst}
use Rattle.std.specs.Prelude.{IfSome}
use Rattle.tape_disk.specs.Disk.{DiskState}
use Rattle.library.specs.Seats.{SeatState}
use Rattle.scsi_sense.specs.declared.replies.Reply.{Reply}
use Rattle.volume_core.specs.declared.media.MediumError.{MediumError}
use Rattle.tape_buffer.specs.Moves.{buffer_below}
use Rattle.tape_buffer.specs.State.{state_of}
use Rattle.aptpl_store.specs.Kept.{store_below, store_kept}
use Rattle.aptpl_store.specs.State.{OpenStore}
use Rattle.bay_moves.specs.Bays.{SavesIn}
use Rattle.bay_moves.specs.Elements.{BayState}
use Rattle.bay_moves.specs.Lent.{KeepsCount}
use Rattle.drive_commands.specs.Execute.{Answers}
use Rattle.drive_commands.specs.State.{machine_of}
use Rattle.drive_commands.specs.Synchronize.{Acknowledges, IsSynchronizing}
use Rattle.drive_commands.specs.ShownChanges.{ShowsChanges}
use Rattle.drive_commands.specs.Work.{Request}
use Rattle.split_bay.specs.Backs.{BackState}
use Rattle.split_bay.specs.Fronts.{AnswersOrWaits, FrontState, KeepsHostsHalf, LeavesOrders}
use Rattle.split_bay.specs.Halves.{ExecutesBoth, HoldsHalves, Joins, MakesRoom, Parts}
use Rattle.split_bay.specs.Rings.{SendingState}
use Rattle.library.specs.Halves.{EndsHeld, HasShare, HoldsBoth, JoinsHeld, PartsHeld, RenewsHeld}
use Rattle.library.specs.Inner.Entering.{CanEnter}
use Rattle.library.specs.Keeps.{IsLeftBy}
use Rattle.library.specs.Served.{ServesFront, ServesHalves}
use Rattle.library.proofs.CountLemmas.{seat_grows, share_stands}
use Rattle.library.proofs.SaveLemmas.{saves_alone}

-- what a drive accepted is the same once its disks are back
joins_accepted : {D : Type 0} (state : D → DiskState) (front : FrontState D) (back : BackState D) (bay : BayState D)
    (ends : SendingState) → Joins state front back bay ends → bay.accepted ≡ front.drive.accepted
joins_accepted state front back bay ends joins = ap (λ (b : BayState _). b.accepted) joins.found

-- and once they went away
parts_accepted : {D : Type 0} (state : D → DiskState) (bay : BayState D) (ends : SendingState) (front : FrontState D)
    (back : BackState D) → Parts state bay ends front back → front.drive.accepted ≡ bay.accepted
parts_accepted state bay ends front back parts = ap (λ (b : BayState _). b.accepted) parts.same

held_accepted : {D : Type 0} (state : D → DiskState) (front : FrontState D) (back : BackState D)
    (joined left : BayState D) (front' : FrontState D) (back' : BackState D)
    → HoldsHalves state front back joined left front' back' → left.accepted ≡ joined.accepted
    → front'.drive.accepted ≡ front.drive.accepted
held_accepted state front back joined left front' back' holds same =
    parts_accepted state left front.sending front' back' holds.parts ∙ same
    ∙ joins_accepted state front back joined front.sending holds.joins

module _ {D : Type 0} (state : D → DiskState) where
  -- what a drive accepted is the same once room was made
  pub room_accepted : (front : FrontState D) (back : BackState D) (result : Result Unit MediumError)
      (front' : FrontState D) (back' : BackState D) → MakesRoom state front back result front' back'
      → front'.drive.accepted ≡ front.drive.accepted
  room_accepted front back (Ok done) front' back' made =
      held_accepted state front back made.0 made.0 front' back' made.1 refl
  room_accepted front back (Err error) front' back' lacks =
      held_accepted state lacks.between lacks.between' lacks.settles.joined lacks.settles.settled front' back'
      lacks.settles.holds lacks.settles.turned.accepted
      ∙ held_accepted state front back lacks.joined lacks.joined lacks.between lacks.between' lacks.holds refl

  -- The hosts' half has answered, and the seat counted that, or it has not. The change that it accepted was entered for
  -- the seat.
  pub front_serves : (old new : FrontState D) (request : Request) (before counted after : SeatState)
      (reply : Option Reply) (left : List ℕ) (low high : ℕ) → AnswersOrWaits state old request reply new left
      → (IsSynchronizing (machine_of (state_of state) store_kept old.drive) request.cdb
      → IfSome reply (λ reply. Acknowledges reply → ⊥))
      → LeavesOrders state old.drive request reply new.drive
      → KeepsHostsHalf state old → KeepsHostsHalf state new → request.nexus ≡ before.nexus
      → ((reply : Reply) (answered : BayState D)
      → (step :
      Answers (state_of state) (buffer_below state) store_kept (store_below state) old.drive request reply answered)
      → ShowsChanges request.cdb reply step.taken.made.changes)
      → low ≡ old.drive.accepted → high ≡ new.drive.accepted → IfSome reply (λ reply. CanEnter low request.cdb reply)
      → (reply ≡ None → counted ≡ before)
      → (is_some reply ≡ true → counted ≡ record before { answered = before.answered + 1 })
      → (low ≡ high → after ≡ counted) → (low ≢ high → after ≡ record counted { amount = counted.amount + 1 })
      → ServesFront state old request before reply new left after
  front_serves old new request before counted after (Some reply) left low high answers waits moments kept keeps host law
      was is below none some same risen =
      let answered = answers.answered in
      let step = answers.step.1 in (
        step.step.taken.made.changes,
        record {
          answers = answers;
          made_is = refl;
          waits = waits;
          moments = moments;
          saves =
              subst (λ (k : OpenStore D). SavesIn state old.drive.keeper k step.step.taken.made.saved)
              (sym (ap (λ (d : BayState D). d.keeper) answers.drive))
              (saves_alone state old answered.keeper step.step.taken.made.saved kept step.step.taken.saves.moved);
          old_keeps = kept;
          keeps = keeps;
        },
        seat_grows (state_of state) (buffer_below state) store_kept (store_below state) old.drive request before counted
            reply answered after low high step.step (law reply answered step.step) host was
            (is ∙ ap (λ (d : BayState D). d.accepted) answers.drive) below (some refl) same risen,
      )
  front_serves old new request before counted after None left low high answers waits moments kept keeps host law was is
      below none some same risen =
      (answers, same (was ∙ sym (ap (λ (f : FrontState D). f.drive.accepted) answers.1) ∙ sym is) ∙ none refl)

  -- the share of the drive then
  pub front_share : (old new : FrontState D) (request : Request) (reply : Option Reply) (left : List ℕ)
      (low high held held' : ℕ) → AnswersOrWaits state old request reply new left
      → ((reply : Reply) (answered : BayState D)
      → (step :
      Answers (state_of state) (buffer_below state) store_kept (store_below state) old.drive request reply answered)
      → ShowsChanges request.cdb reply step.taken.made.changes)
      → low ≡ old.drive.accepted → high ≡ new.drive.accepted → IfSome reply (λ reply. CanEnter low request.cdb reply)
      → held ≡ old.drive.accepted
      → (low ≡ high → held' ≡ held) → (low ≢ high → held' ≡ held + 1) → held' ≡ new.drive.accepted
  front_share old new request (Some reply) left low high held held' answers law was is below stood same risen =
      let counts = ap (λ (d : BayState D). d.accepted) answers.drive in
      share_stands (state_of state) (buffer_below state) store_kept (store_below state) old.drive request reply
      answers.answered low high held held' answers.step.1.step (law reply answers.answered answers.step.1.step) was
      (is ∙ counts) below stood same risen
      ∙ sym counts
  front_share old new request None left low high held held' answers law was is below stood same risen =
      let still : new.drive.accepted ≡ old.drive.accepted = ap (λ (f : FrontState D). f.drive.accepted) answers.1 in
      same (was ∙ sym still ∙ sym is) ∙ stood ∙ sym still

  -- both halves have answered, the seat counted that, and the change that they accepted was entered for it
  pub halves_serve : (front front' : FrontState D) (back back' : BackState D) (request : Request)
      (before counted after : SeatState) (reply : Reply) (left : List ℕ) (low high : ℕ)
      → (both : ExecutesBoth state front back request reply left front' back')
      → request.nexus ≡ before.nexus
      → ((old new : BayState D)
      → (step : Answers (state_of state) (buffer_below state) store_kept (store_below state) old request reply new)
      → ShowsChanges request.cdb reply step.taken.made.changes)
      → low ≡ front.drive.accepted → high ≡ front'.drive.accepted → CanEnter low request.cdb reply
      → counted ≡ record before { answered = before.answered + 1 }
      → (low ≡ high → after ≡ counted) → (low ≢ high → after ≡ record counted { amount = counted.amount + 1 })
      → ServesHalves state front back request before reply front' back' left after
  halves_serve front front' back back' request before counted after reply left low high both host law was is below one
      same risen =
      let step = both.answers.step.step in
      record {
        made = step.taken.made.changes;
        answers = record { both = both; made_is = refl };
        grows =
            seat_grows (state_of state) (buffer_below state) store_kept (store_below state) both.joined request before
            counted reply both.answered after low high step (law both.joined both.answered step) host
            (was ∙ sym (joins_accepted state front back both.joined front.sending both.holds.joins))
            (is ∙ parts_accepted state both.answered front.sending front' back' both.holds.parts) below one same risen;
      }

  -- the share of the drive then
  pub halves_share : (front front' : FrontState D) (back back' : BackState D) (request : Request) (reply : Reply)
      (left : List ℕ) (low high held held' : ℕ)
      → (both : ExecutesBoth state front back request reply left front' back')
      → ((old new : BayState D)
      → (step : Answers (state_of state) (buffer_below state) store_kept (store_below state) old request reply new)
      → ShowsChanges request.cdb reply step.taken.made.changes)
      → low ≡ front.drive.accepted → high ≡ front'.drive.accepted → CanEnter low request.cdb reply → held ≡
      front.drive.accepted
      → (low ≡ high → held' ≡ held) → (low ≢ high → held' ≡ held + 1) → held' ≡ front'.drive.accepted
  halves_share front front' back back' request reply left low high held held' both law was is below stood same risen =
      let step = both.answers.step.step in
      let joined = joins_accepted state front back both.joined front.sending both.holds.joins in
      let parted = parts_accepted state both.answered front.sending front' back' both.holds.parts in
      share_stands (state_of state) (buffer_below state) store_kept (store_below state) both.joined request reply
      both.answered low high held held' step (law both.joined both.answered step) (was ∙ sym joined)
      (is ∙ parted) below (stood ∙ sym joined) same risen
      ∙ sym parted

  -- a drive that was put together and parts again, with its count as it was, has its share
  pub share_after : (front : Option (FrontState D)) (back : Option (BackState D)) (bay bay' : BayState D)
      (ends : SendingState) (front' : Option (FrontState D)) (back' : Option (BackState D)) (share : ℕ)
      → HasShare front share → JoinsHeld state front back bay ends → bay'.accepted ≡ bay.accepted
      → PartsHeld state bay' ends front' back' → HasShare front' share
  share_after (Some front) (Some back) bay bay' ends (Some front') (Some back') share has joins same parts =
      has ∙ sym (joins_accepted state front back bay ends joins) ∙ sym same
      ∙ sym (parts_accepted state bay' ends front' back' parts)
  share_after (Some front) (Some back) bay bay' ends (Some front') None share has joins same parts = absurd parts
  share_after (Some front) (Some back) bay bay' ends None back' share has joins same parts = absurd parts
  share_after (Some front) None bay bay' ends front' back' share has joins same parts = absurd joins
  share_after None back bay bay' ends front' back' share has joins same parts = absurd has

  -- both halves are there again
  pub back_there : (bay : BayState D) (ends : SendingState) (front : Option (FrontState D))
      (back : Option (BackState D)) → PartsHeld state bay ends front back → is_some back ≡ true
  back_there bay ends (Some front) (Some back) parts = refl
  back_there bay ends (Some front) None parts = absurd parts
  back_there bay ends None back parts = absurd parts

  -- the hosts' half is there where its share is
  pub front_there : (front : Option (FrontState D)) (share : ℕ) → HasShare front share → is_some front ≡ true
  front_there (Some front) share has = refl
  front_there None share has = absurd has

  -- a drive that was lent is there again, with its count as it was
  pub still_counted : (bay : BayState D) (held : Option (BayState D)) (bay' : BayState D) → KeepsCount (Some bay) held
      → held ≡ Some bay' → bay'.accepted ≡ bay.accepted
  still_counted bay held bay' keeps is = subst (λ (h : Option (BayState D)). KeepsCount (Some bay) h) is keeps

  -- the same: it cannot be away
  pub still_there : (bay : BayState D) (held : Option (BayState D)) → KeepsCount (Some bay) held → held ≡ None → ⊥
  still_there bay held keeps is = subst (λ (h : Option (BayState D)). KeepsCount (Some bay) h) is keeps

  -- both halves were held, by what their places are seen as
  pub holds_both : (front seen : Option (FrontState D)) (back other : Option (BackState D)) (bay bay' : BayState D)
      (ends : SendingState) (front' : Option (FrontState D)) (back' : Option (BackState D))
      → front ≡ seen → back ≡ other → JoinsHeld state front back bay ends → PartsHeld state bay' ends front' back'
      → HoldsBoth state seen other bay bay' front' back'
  holds_both front seen back other bay bay' ends front' back' same alike joins parts = record {
    ends = ends;
    joins =
        subst (λ (f : Option (FrontState D)). JoinsHeld state f other bay ends) same
        (subst (λ (b : Option (BackState D)). JoinsHeld state front b bay ends) alike joins);
    parts = parts;
  }

  -- both halves were held for more to be sent, by what their places are seen as
  pub renews : (front seen : Option (FrontState D)) (back other : Option (BackState D))
      (result : Result Unit MediumError) (front' : Option (FrontState D)) (back' : Option (BackState D))
      → front ≡ seen → back ≡ other
      → RenewsHeld state front back result front' back' → RenewsHeld state seen other result front' back'
  renews front seen back other result front' back' same alike holds =
      subst (λ (f : Option (FrontState D)). RenewsHeld state f other result front' back') same
      (subst (λ (b : Option (BackState D)). RenewsHeld state front b result front' back') alike holds)

  -- the share of a drive that was put together at the end
  pub end_share : (front : Option (FrontState D)) (back : Option (BackState D)) (bay bay' : BayState D)
      (ends : SendingState) (share : ℕ) → HasShare front share → JoinsHeld state front back bay ends
      → bay'.accepted ≡ bay.accepted → share ≡ bay'.accepted
  end_share (Some front) (Some back) bay bay' ends share has joins same =
      has ∙ sym (joins_accepted state front back bay ends joins) ∙ sym same
  end_share (Some front) None bay bay' ends share has joins same = absurd joins
  end_share None back bay bay' ends share has joins same = absurd has

  -- the halves at the end, by what their places are seen as
  pub ends_held : (front seen : Option (FrontState D)) (back other : Option (BackState D)) (joined bay : BayState D)
      (ends : SendingState) → front ≡ seen → back ≡ other → JoinsHeld state front back joined ends
      → IsLeftBy state joined bay → EndsHeld state seen other bay
  ends_held front seen back other joined bay ends same alike joins left = record {
    joined = joined;
    ends = ends;
    joins =
        subst (λ (f : Option (FrontState D)). JoinsHeld state f other joined ends) same
        (subst (λ (b : Option (BackState D)). JoinsHeld state front b joined ends) alike joins);
    left = left;
  }
