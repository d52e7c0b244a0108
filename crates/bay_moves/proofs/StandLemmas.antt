-- The state of an order with the reply GOOD is held.
use Rattle.std.proofs.Common.{◌≡◌, ◌⊎◌, inl, inr, ℕ, Bool, true, false, Result, Ok, Err, refl, sym, ◌∙◌, ap, subst}
use Rattle.scsi_attention.specs.AttentionSets.{AttentionSet}
use Rattle.std.specs.Prelude.{List}
use Rattle.scsi_sense.specs.declared.replies.Reply.{Reply}
use Rattle.scsi_sense.specs.declared.replies.Status.TheVariants.{Good, Check}
use Rattle.scsi_sense.specs.declared.sense_data.Sense.{Sense}
use Rattle.scsi_lists.specs.declared.actions.PrAction.{PrAction}
use Rattle.scsi_lists.specs.declared.pr_lists.PrOut.{PrOut}
use Rattle.scsi_lists.specs.PrLists.{list_decoded}
use Rattle.scsi_opcodes.specs.declared.commands.Command.{Command}
use Rattle.scsi_opcodes.specs.declared.commands.Command.TheVariants.{PersistentReserveOut}
use Rattle.pr_core.specs.declared.keepers.KeeperError.{KeeperError}
use Rattle.pr_core.specs.declared.states.PrAnswer.{PrAnswer}
use Rattle.pr_core.specs.declared.states.PrState.{PrState}
use Rattle.pr_core.specs.Keepers.{KeeperState}
use Rattle.pr_core.specs.Saves.{needs_save}
use Rattle.drive_commands.specs.declared.conditions.Denial.{Denial}
use Rattle.drive_commands.specs.declared.faults.Fault.{Fault}
use Rattle.drive_commands.specs.Checks.{Executes, ExecutesAs, verdict}
use Rattle.drive_commands.specs.Faults.{reply_of}
use Rattle.drive_commands.specs.Relations.{Made}
use Rattle.drive_commands.specs.ReserveOut.{OrderOf, OrderUnlessFailed, StandsBy, StandsOnceSaved}
use Rattle.drive_commands.specs.State.{Machine}
use Rattle.drive_commands.specs.Work.{Request}
use Rattle.bay_moves.specs.Reservations.{IsOrdered}
use Rattle.bay_moves.proofs.MachineLemmas.{Goes}

-- a refusal is not GOOD
not_good : {A : Type 0} (answer told : Result Reply Fault) → answer ≡ told → (reply_of told).status ≡ Check
    → (reply_of answer).status ≡ Good → A
not_good answer told is check good =
    let clash : Check ≡ Good = sym check ∙ sym (ap (λ (a : Result Reply Fault). (reply_of a).status) is) ∙ good in
    absurd (cc)

module _ (old : Machine) (request : Request) (answer : Result Reply Fault) (made : Made) (new : Machine) where
  now : (state : PrState) → IsOrdered old request state → new.reservations ≡ state
      → IsOrdered old request new.reservations
  now state ordered is = subst (λ (s : PrState). IsOrdered old request s) (sym is) ordered

  -- the order's state, or the one before
  by_saving : (saving : Result Unit KeeperError) (keeper : KeeperState) (brought : PrAnswer) (state : PrState)
      (told : List AttentionSet) → IsOrdered old request state
      → StandsOnceSaved saving keeper brought state told old answer new
      → ((new.reservations ≡ old.reservations) ⊎ IsOrdered old request new.reservations)
      × ((reply_of answer).status ≡ Good → IsOrdered old request new.reservations)
  by_saving (Ok done) keeper brought state told ordered stands =
      let is = now state ordered (ap (λ (m : Machine). m.reservations) stands.1) in (inr is, λ good. is)
  by_saving (Err error) keeper brought state told ordered stands = (
    inl (ap (λ (m : Machine). m.reservations) stands.1),
    λ good. not_good answer _ stands.0 refl good,
  )

  by_need : (needed : Bool) (brought : PrAnswer) (state : PrState) (told : List AttentionSet)
      → IsOrdered old request state → StandsBy needed brought state told old answer made new
      → ((new.reservations ≡ old.reservations) ⊎ IsOrdered old request new.reservations)
      × ((reply_of answer).status ≡ Good → IsOrdered old request new.reservations)
  by_need false brought state told ordered stands =
      let is = now state ordered (ap (λ (m : Machine). m.reservations) stands.2) in (inr is, λ good. is)
  by_need true brought state told ordered stands =
      by_saving stands.0 stands.1 brought state told ordered stands.3

  module _ (action : PrAction) (bytes : ℕ) (command : verdict old request ≡ Ok (PersistentReserveOut action bytes))
    where
      unless_failed : (failed : Bool) (order : PrOut) → list_decoded action request.sent ≡ Ok order
          → OrderUnlessFailed failed order request.nexus old answer made new
          → (reply_of answer).status ≡ Good → IsOrdered old request new.reservations
      unless_failed true order list work good = not_good answer _ work.0 refl good
      unless_failed false order list work good =
          (by_need (needs_save old.reservations work.2) work.0 work.2 work.1 (record {
            action = action;
            bytes = bytes;
            order = order;
            answer = work.0;
            established = work.1;
            command = command;
            list = list;
            ordered = work.3;
          }) work.4).1 good

      by_list : (list : Result PrOut Sense) → list_decoded action request.sent ≡ list
          → OrderOf list request.nexus old answer made new
          → (reply_of answer).status ≡ Good → IsOrdered old request new.reservations
      by_list (Err sense) is work good = not_good answer _ work.0 refl good
      by_list (Ok order) is work good = unless_failed old.keeper.failed order is work good

      pub good_stands : (honest : Type 0) → Executes honest request old answer made new
          → (reply_of answer).status ≡ Good → IsOrdered old request new.reservations
      good_stands honest step good =
          by_list (list_decoded action request.sent) refl
          (subst (λ (judged : Result Command Denial). ExecutesAs honest judged request old answer made new) command
          step)
          good

  pub step_stands : Goes old request answer made new
      → (new.reservations ≡ old.reservations) ⊎ IsOrdered old request new.reservations
  step_stands (inl none) = inl none.reservations
  step_stands (inr order) =
      (by_need (needs_save old.reservations order.work.2) order.work.0 order.work.2 order.work.1 (record {
        action = order.action;
        bytes = order.bytes;
        order = order.order;
        answer = order.work.0;
        established = order.work.1;
        command = order.command;
        list = order.list;
        ordered = order.work.3;
      }) order.work.4).0
