-- Where no fault comes, a request has one answer.
use Rattle.std.proofs.Common.{◌≡◌, ℕ, List, Result, Ok, Err, IfOk, Bool, true, false, sym, ap, subst}
use Rattle.scsi_sense.specs.declared.replies.Reply.{Reply}
use Rattle.scsi_opcodes.specs.declared.commands.Command.{Command}
use Rattle.scsi_opcodes.specs.Opcodes.{needs_medium}
use Rattle.scsi_opcodes.specs.Commands.{code_of}
use Rattle.positioning.specs.Laws.{NoSpaceEndsTwice, NoLocateEndsTwice}
use Rattle.pr_core.specs.Laws.{NoOrderEndsTwice}
use Rattle.drive_commands.specs.declared.conditions.Denial.{Denial}
use Rattle.drive_commands.specs.State.{Machine}
use Rattle.drive_commands.specs.Conditions.{denial_reply, denied}
use Rattle.drive_commands.specs.Relations.{Made}
use Rattle.drive_commands.specs.Work.{Request, MediumWork, WorkBy}
use Rattle.drive_commands.specs.OnMedium.{OnMediumIn}
use Rattle.drive_commands.specs.Checks.{Executes, ExecutesAs, verdict}
use Rattle.drive_commands.specs.Events.{Execute}
use Rattle.drive_commands.specs.Step.{Answered}
use Rattle.drive_commands.specs.Determined.{IsSureCommand, IsSureDrive, IsSureEvent, seen_of, AreAlike}
use Rattle.drive_theorems.proofs.CommandLemmas.{commands}
use Rattle.drive_theorems.proofs.DeterminedOrders.{Seen, ends}
use Rattle.drive_theorems.proofs.DeterminedVerdicts.{denied_same, denied_sure, verdict_same}
use Rattle.drive_theorems.proofs.DeterminedWorks.{on_drive, on_medium}

module _ (spaces : NoSpaceEndsTwice) (locates : NoLocateEndsTwice) (orders : NoOrderEndsTwice)
    (old beside : Machine) (reply reply' : Reply) (made made' : Made) (new new' : Machine)
    (e : seen_of old ≡ seen_of beside) (S : Type 0) (sure : S → IsSureDrive (seen_of old)) where
  -- both were answered, and came out alike
  abbrev Alike : Type 0
  Alike = AreAlike S (Answered (Ok reply)) (Answered (Ok reply')) made made' new new'

  work_alike : (needs : Bool) (command : Command) (nexus : ℕ) (sent : List ℕ) → IsSureCommand command old.bay
      → WorkBy needs (Unit {0}) command nexus sent old (Ok reply) made new
      → WorkBy needs (Unit {0}) command nexus sent beside (Ok reply') made' new' → Alike
  work_alike true command nexus sent opens h k =
      let work =
      subst (λ (b : Bool). OnMediumIn beside.bay (MediumWork (Unit {0}) command b sent) beside (Ok reply') made' new')
      (ap (λ (x : Seen). x.buffered) (sym e)) k in
      on_medium spaces locates orders old beside reply reply' made made' new new' e S sure
      (MediumWork (Unit {0}) command old.buffered sent) (commands S spaces locates command old.buffered sent)
      old.bay beside.bay (ap (λ (x : Seen). x.bay) e) sure h work
  work_alike false command nexus sent opens h k =
      on_drive spaces locates orders old beside reply reply' made made' new new' e S sure command nexus sent opens h k

  judged_alike : (judged : Result Command Denial) (request : Request)
      → IfOk judged (λ command. IsSureCommand command old.bay)
      → ExecutesAs (Unit {0}) judged request old (Ok reply) made new
      → ExecutesAs (Unit {0}) judged request beside (Ok reply') made' new' → Alike
  judged_alike (Err denial) request opens h k =
      ends orders old beside reply reply' made made' new new' e S sure (Ok (denial_reply denial)) (denied denial
      request.nexus old) (denied denial request.nexus beside)
      (denied_same old beside e denial request.nexus)
      (λ known. denied_sure old beside e denial request.nexus (sure known)) h k
  judged_alike (Ok command) request opens h k =
      work_alike (needs_medium (code_of command)) command request.nexus request.sent opens h k

  -- a request has one answer
  pub requests : (request : Request) → IsSureEvent old (Execute request) → Executes (Unit {0}) request old (Ok reply)
      made new
      → Executes (Unit {0}) request beside (Ok reply') made' new' → Alike
  requests request opens h k =
      judged_alike (verdict old request) request opens h
      (subst (λ (judged : Result Command Denial).
      ExecutesAs (Unit {0}) judged request beside (Ok reply') made' new')
      (sym (verdict_same old beside e request)) k)
