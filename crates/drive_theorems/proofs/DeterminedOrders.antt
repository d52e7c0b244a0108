-- Where no fault comes, an order to the reservations has one answer.
use Rattle.std.proofs.Common.{◌≡◌, ℕ, List, [], None, Result, Ok, Err, Bool, true, false, sym, ◌∙◌, ap, subst}
use Rattle.scsi_attention.specs.AttentionSets.{AttentionSet}
use Rattle.scsi_attention.specs.Attentions.{established_by}
use Rattle.scsi_sense.specs.declared.replies.Reply.{Reply}
use Rattle.scsi_sense.specs.declared.sense_data.Sense.{Sense}
use Rattle.scsi_sense.specs.Replies.{check_with}
use Rattle.scsi_sense.specs.Senses.{keeper_failed}
use Rattle.scsi_lists.specs.declared.pr_lists.PrOut.{PrOut}
use Rattle.pr_core.specs.declared.states.PrState.{PrState}
use Rattle.pr_core.specs.declared.states.PrAnswer.{PrAnswer}
use Rattle.pr_core.specs.Orders.{Orders}
use Rattle.pr_core.specs.Laws.{NoOrderEndsTwice}
use Rattle.pr_core.specs.Saves.{needs_save}
use Rattle.pr_core.specs.Keepers.{KeeperState, Stored, saved_over}
use Rattle.drive_commands.specs.declared.faults.Fault.{Fault}
use Rattle.drive_commands.specs.State.{Machine, DriveState}
use Rattle.drive_commands.specs.Relations.{Made, made_nothing}
use Rattle.drive_commands.specs.ReserveOut.{OrderOf, OrderUnlessFailed, OrderWork, StandsBy, order_reply, ordered}
use Rattle.drive_commands.specs.Step.{Answered}
use Rattle.drive_commands.specs.Determined.{IsSureDrive, Sight, seen_of, without_room, AreAlike}

-- a drive as it is seen
abbrev pub Seen : Type 0
Seen = DriveState Sight KeeperState

-- keepers that are seen alike, and saved the same, are seen alike
saved_alike : (old other : KeeperState) (state : PrState) (new new' : KeeperState)
    → without_room old ≡ without_room other → Stored old state new → Stored other state new'
    → without_room new ≡ without_room new'
saved_alike old other state new new' e h k =
    let saved : new.saved ≡ new'.saved =
    h.saved ∙ ap (λ (x : KeeperState). saved_over x.saved state) e ∙ sym k.saved in
    let torn : new.torn ≡ new'.torn = h.whole ∙ sym k.whole in
    let failed : new.failed ≡ new'.failed = h.works ∙ sym k.works in
    λ i. record { saved = saved i; torn = torn i; failed = failed i; room = None }

module _ (orders : NoOrderEndsTwice) (old beside : Machine) (reply reply' : Reply) (made made' : Made) (new new'
    : Machine) (e : seen_of old ≡ seen_of beside) (S : Type 0) (sure : S → IsSureDrive (seen_of old)) where
  -- both were answered, and came out alike
  abbrev pub Alike : Type 0
  Alike = AreAlike S (Answered (Ok reply)) (Answered (Ok reply')) made made' new new'

  -- what makes nothing leaves drives that are seen alike
  pub ends : (answer : Result Reply Fault) (left left' : Machine) → seen_of left ≡ seen_of left'
      → (S → IsSureDrive (seen_of left))
      → (Ok reply ≡ answer) × (made ≡ made_nothing) × (new ≡ left)
      → (Ok reply' ≡ answer) × (made' ≡ made_nothing) × (new' ≡ left') → Alike
  ends answer left left' same left_sure h k = record {
    outputs = ap Answered (h.0 ∙ sym k.0);
    changes = h.1 ∙ sym k.1;
    drives = ap seen_of h.2 ∙ same ∙ sym (ap seen_of k.2);
    sure = λ s. subst IsSureDrive (sym (ap seen_of h.2)) (left_sure s);
  }

  -- the same order stands in both
  ordered_same : (keeper keeper' : KeeperState) (state : PrState) (established : List AttentionSet)
      → without_room keeper ≡ without_room keeper'
      → seen_of (ordered (record old { keeper = keeper }) state established)
      ≡ seen_of (ordered (record beside { keeper = keeper' }) state established)
  ordered_same keeper keeper' state established kept =
      λ i. record (e i) {
        reservations = state;
        attentions = established_by (e i).attentions established;
        keeper = kept i;
      }

  -- both were saved
  saved_stand : (brought : PrAnswer) (state : PrState) (established : List AttentionSet)
      → StandsBy true brought state established old (Ok reply) made new
      → StandsBy true brought state established beside (Ok reply') made' new' → Alike
  saved_stand brought state established (Ok done, keeper, saves, stands, made_is)
      (Ok done', keeper', saves', stands', is') =
      record {
        outputs = ap Answered (stands.0 ∙ sym stands'.0);
        changes = made_is ∙ sym is';
        drives =
            ap seen_of stands.1
            ∙ ordered_same keeper keeper' state established
            (saved_alike old.keeper beside.keeper state keeper keeper' (ap (λ (x : Seen). x.keeper) e) saves.1 saves'.1)
            ∙ sym (ap seen_of stands'.1);
        sure = λ s. subst IsSureDrive (sym (ap seen_of stands.1)) (sure s);
      }
  saved_stand brought state established (Err error, keeper, saves, stands, made_is) k = cc stands.0
  saved_stand brought state established (Ok done, keeper, saves, stands, made_is)
      (Err error, keeper', saves', stands', is') =
      cc stands'.0

  stand_by : (due : Bool) (brought : PrAnswer) (state : PrState) (established : List AttentionSet)
      → StandsBy due brought state established old (Ok reply) made new
      → StandsBy due brought state established beside (Ok reply') made' new' → Alike
  stand_by false brought state established h k =
      ends (Ok (order_reply brought)) (ordered old state established) (ordered beside state established)
      (ordered_same old.keeper beside.keeper state established (ap (λ (x : Seen). x.keeper) e)) sure h k
  stand_by true brought state established h k = saved_stand brought state established h k

  -- the same order has one answer
  order_alike : (order : PrOut) (nexus : ℕ) → OrderWork order nexus old (Ok reply) made new
      → OrderWork order nexus beside (Ok reply') made' new' → Alike
  order_alike order nexus h k =
      let before : beside.reservations ≡ old.reservations = ap (λ (x : Seen). x.reservations) (sym e) in
      let carried : Orders old.reservations nexus order k.0 k.1 k.2 =
      subst (λ (s : PrState). Orders s nexus order k.0 k.1 k.2) before k.3 in
      let same = orders old.reservations nexus order h.0 k.0 h.1 k.1 h.2 k.2 h.3 carried in
      let due : StandsBy (needs_save old.reservations k.2) k.0 k.2 k.1 beside (Ok reply') made' new' =
      subst (λ (s : PrState). StandsBy (needs_save s k.2) k.0 k.2 k.1 beside (Ok reply') made' new') before k.4 in
      let stands : StandsBy (needs_save old.reservations h.2) h.0 h.2 h.1 beside (Ok reply') made' new' =
      subst (λ (a : PrAnswer). StandsBy (needs_save old.reservations h.2) a h.2 h.1 beside (Ok reply') made' new')
      (sym same.0)
      (subst (λ (t : List AttentionSet).
      StandsBy (needs_save old.reservations h.2) k.0 h.2 t beside (Ok reply') made' new') (sym same.1)
      (subst (λ (s : PrState). StandsBy (needs_save old.reservations s) k.0 s k.1 beside (Ok reply') made' new')
      (sym same.2) due)) in
      stand_by (needs_save old.reservations h.2) h.0 h.2 h.1 h.4 stands

  unless_failed : (failed : Bool) (order : PrOut) (nexus : ℕ)
      → OrderUnlessFailed failed order nexus old (Ok reply) made new
      → OrderUnlessFailed failed order nexus beside (Ok reply') made' new' → Alike
  unless_failed true order nexus h k = ends (Ok (check_with keeper_failed [])) old beside e sure h k
  unless_failed false order nexus h k = order_alike order nexus h k

  -- a parameter list has one answer
  pub lists_alike : (list : Result PrOut Sense) (nexus : ℕ) → OrderOf list nexus old (Ok reply) made new
      → OrderOf list nexus beside (Ok reply') made' new' → Alike
  lists_alike (Err sense) nexus h k = ends (Ok (check_with sense [])) old beside e sure h k
  lists_alike (Ok order) nexus h k =
      unless_failed old.keeper.failed order nexus h
      (subst (λ (failed : Bool). OrderUnlessFailed failed order nexus beside (Ok reply') made' new')
      (ap (λ (x : Seen). x.keeper.failed) (sym e)) k)
