-- The reply to a host's command, by the hosts' half of a drive or by both halves.
use Rattle.std.proofs.Common.{◌≡◌, ◌∙◌, ℕ, List, Option, None, Some, inl, inr, ap, sym, subst}
use Rattle.tape_disk.specs.Disk.{DiskState}
use Rattle.library.specs.Seats.{SeatState}
use Rattle.scsi_sense.specs.declared.replies.Reply.{Reply}
use Rattle.volume_core.specs.declared.changes.Change.{Change}
use Rattle.drive_commands.specs.Data.{data_left}
use Rattle.drive_commands.specs.Execute.{asked}
use Rattle.drive_commands.specs.Work.{Request}
use Rattle.split_bay.specs.Backs.{BackState}
use Rattle.split_bay.specs.Fronts.{FrontState}
use Rattle.library.specs.Served.{IsServed, ServesAlone, ServesBoth}

module _ {D : Type 0} (state : D → DiskState) where
  -- some drive answers the host of a seat, and of the data that it sent this is left
  abbrev pub Serves : Request → SeatState → Reply → List ℕ → SeatState → Type 0
  Serves request before reply left after =
      (served : IsServed state request before reply after) × (left ≡ data_left served.made request.sent)

  pub served_alone : (old new : Option (FrontState D)) (request : Request) (before after : SeatState) (reply : Reply)
      (left : List ℕ) → ServesAlone state old request before (Some reply) new left after
      → Serves request before reply left after
  served_alone (Some old) (Some new) request before after reply left serves = (
    record {
      made = serves.0;
      answered = inl (record { old = old; new = new; left = left; answers = serves.1 });
      grows = serves.2;
    },
    serves.1.answers.step.1.data_is ∙ ap (λ (l : List Change). data_left l request.sent) (sym serves.1.made_is),
  )
  served_alone (Some old) None request before after reply left serves = absurd serves
  served_alone None new request before after reply left serves = absurd serves

  pub served_both : (front front' : Option (FrontState D)) (back back' : Option (BackState D)) (request : Request)
      (before after : SeatState) (reply : Reply) (left : List ℕ)
      → ServesBoth state front back request before reply front' back' left after
      → Serves request before reply left after
  served_both (Some front) (Some front') (Some back) (Some back') request before after reply left serves = (
    record {
      made = serves.made;
      answered =
          inr (record {
            front = front;
            back = back;
            front' = front';
            back' = back';
            left = left;
            answers = serves.answers;
          });
      grows = serves.grows;
    },
    serves.answers.both.answers.step.data_is
        ∙ ap (λ (l : List Change). data_left l request.sent) (sym serves.answers.made_is),
  )
  served_both (Some front) (Some front') (Some back) None request before after reply left serves = absurd serves
  served_both (Some front) None (Some back) back' request before after reply left serves = absurd serves
  served_both (Some front) front' None back' request before after reply left serves = absurd serves
  served_both None front' back back' request before after reply left serves = absurd serves

  -- where the hosts' half did not answer, the seat and the data are as they were
  as_before : (old new : Option (FrontState D)) (request : Request) (before after : SeatState) (left : List ℕ)
      → ServesAlone state old request before None new left after → (left ≡ request.sent) × (after ≡ before)
  as_before (Some old) (Some new) request before after left serves = (serves.0.0.2, serves.1)
  as_before (Some old) None request before after left serves = absurd serves
  as_before None new request before after left serves = absurd serves

  -- then both have answered
  pub served_then : (old new : Option (FrontState D)) (cdb sent mid left : List ℕ) (before between after : SeatState)
      (reply : Reply) → ServesAlone state old (asked before.nexus cdb sent) before None new mid between
      → Serves (asked between.nexus cdb mid) between reply left after
      → Serves (asked before.nexus cdb sent) before reply left after
  served_then old new cdb sent mid left before between after reply alone serves =
      let same = as_before old new (asked before.nexus cdb sent) before between mid alone in
      subst (λ (s : SeatState). Serves (asked s.nexus cdb sent) s reply left after) same.1
      (subst (λ (l : List ℕ). Serves (asked between.nexus cdb l) between reply left after) same.0 serves)
