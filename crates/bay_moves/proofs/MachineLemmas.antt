-- What a step of the drive machine does to reservations and keeper: nothing, or the work of an order.
use Rattle.std.proofs.Common.{◌≡◌, ◌⊎◌, inl, inr, ℕ, [], Bool, true, false, Option, None, Some, Result, Ok, Err, refl, ◌∙◌, ap}
use Rattle.scsi_sense.specs.declared.replies.Reply.{Reply}
use Rattle.scsi_sense.specs.declared.sense_data.Sense.{Sense}
use Rattle.scsi_lists.specs.declared.actions.PrAction.{PrAction}
use Rattle.scsi_lists.specs.declared.mode_lists.ModeList.{ModeList}
use Rattle.scsi_lists.specs.declared.pr_lists.PrOut.{PrOut}
use Rattle.scsi_lists.specs.ModeLists.{mode_decoded}
use Rattle.scsi_lists.specs.PrLists.{list_decoded}
use Rattle.scsi_opcodes.specs.declared.commands.Command.{Command}
use Rattle.scsi_opcodes.specs.declared.commands.Command.TheVariants.{TestUnitReady, Rewind, RequestSense, ReadBlockLimits, Read, Write, WriteFilemarks, Space, Inquiry, Erase, Locate, ReadPosition, PersistentReserveIn, PersistentReserveOut, ModeSelect, ModeSense, LoadUnload}
use Rattle.scsi_opcodes.specs.Commands.{code_of}
use Rattle.scsi_opcodes.specs.Opcodes.{needs_medium}
use Rattle.volume_core.specs.declared.media.MediumError.{MediumError}
use Rattle.volume_core.specs.Medium.{MediumState}
use Rattle.drive_commands.specs.declared.bays.Bay.{Bay}
use Rattle.drive_commands.specs.declared.bays.Bay.TheVariants.{Empty, Unloaded, Loaded}
use Rattle.drive_commands.specs.declared.conditions.Condition.{Condition}
use Rattle.drive_commands.specs.declared.conditions.Condition.TheVariants.{DeferredError, UnitAttention}
use Rattle.drive_commands.specs.declared.conditions.Denial.{Denial}
use Rattle.drive_commands.specs.declared.conditions.Denial.TheVariants.{Refused, Reported, Conflict}
use Rattle.drive_commands.specs.declared.faults.Fault.{Fault}
use Rattle.drive_commands.specs.Checks.{Executes, ExecutesAs, verdict}
use Rattle.drive_commands.specs.Conditions.{condition_due, denied, without_condition}
use Rattle.drive_commands.specs.LoadUnload.{LoadsAgain, LoadsIn, LoadUnloadWork, ParksAs, ReloadsAs, UnloadsInto, unloaded}
use Rattle.drive_commands.specs.Mode.{ModeSelectOf, in_asked_mode, in_mode}
use Rattle.drive_commands.specs.OnMedium.{OnMediumIn}
use Rattle.drive_commands.specs.Relations.{Made, MediumRelation, made_nothing}
use Rattle.drive_commands.specs.RequestSense.{after_report, once_reported}
use Rattle.drive_commands.specs.ReserveOut.{OrderOf, OrderUnlessFailed, OrderWork}
use Rattle.drive_commands.specs.State.{Machine, start}
use Rattle.drive_commands.specs.StoredFirst.{GoesTo, StoredFirst}
use Rattle.drive_commands.specs.Work.{DriveWork, MediumWork, Request, WorkBy}

-- reservations and keeper are unchanged, and nothing was saved
pub record Unordered (old : Machine) (made : Made) (new : Machine) : Type 0 where
  pub reservations : new.reservations ≡ old.reservations
  pub keeper : new.keeper ≡ old.keeper
  pub saved : made.saved ≡ []

-- or an order that the request asks for was carried out
pub record IsOrder (old : Machine) (request : Request) (answer : Result Reply Fault) (made : Made) (new : Machine)
    : Type 0 where
  pub action : PrAction
  pub bytes : ℕ
  pub order : PrOut
  pub command : verdict old request ≡ Ok (PersistentReserveOut action bytes)
  pub list : list_decoded action request.sent ≡ Ok order
  pub work : OrderWork order request.nexus old answer made new

abbrev pub Goes : Machine → Request → Result Reply Fault → Made → Machine → Type 0
Goes old request answer made new = Unordered old made new ⊎ IsOrder old request answer made new

-- steps that leave a machine with the same reservations and keeper
as_it_was : (old : Machine) (made : Made) (new left : Machine) → new ≡ left → left.reservations ≡ old.reservations
    → left.keeper ≡ old.keeper → made.saved ≡ [] → Unordered old made new
as_it_was old made new left is reservations keeper saved = record {
  reservations = ap (λ (m : Machine). m.reservations) is ∙ reservations;
  keeper = ap (λ (m : Machine). m.keeper) is ∙ keeper;
  saved = saved;
}

none_saved : (made : Made) → made ≡ made_nothing → made.saved ≡ []
none_saved made is = ap (λ (m : Made). m.saved) is

less_condition : (old : Machine) (made : Made) (new : Machine) (condition : Condition) (nexus : ℕ)
    → new ≡ without_condition condition nexus old → made ≡ made_nothing → Unordered old made new
less_condition old made new DeferredError nexus is none =
    as_it_was old made new (without_condition DeferredError nexus old) is refl refl (none_saved made none)
less_condition old made new (UnitAttention attention) nexus is none =
    as_it_was old made new (without_condition (UnitAttention attention) nexus old) is refl refl (none_saved made none)

once_denied : (old : Machine) (made : Made) (new : Machine) (denial : Denial) (nexus : ℕ)
    → new ≡ denied denial nexus old → made ≡ made_nothing → Unordered old made new
once_denied old made new (Refused sense) nexus is none = as_it_was old made new old is refl refl (none_saved made none)
once_denied old made new (Reported condition) nexus is none = less_condition old made new condition nexus is none
once_denied old made new Conflict nexus is none = as_it_was old made new old is refl refl (none_saved made none)

on_medium : (W : MediumRelation) (bay : Bay MediumState) (old : Machine) (answer : Result Reply Fault) (made : Made)
    (new : Machine) → OnMediumIn bay W old answer made new → Unordered old made new
on_medium W (Loaded medium) old answer made new (m, w, is, saved) = as_it_was old made new _ is refl refl saved
on_medium W Empty old answer made new work = absurd work
on_medium W (Unloaded medium) old answer made new work = absurd work

reported : (old : Machine) (made : Made) (new : Machine) (due : Option Condition) (nexus : ℕ)
    → new ≡ once_reported due nexus old → made ≡ made_nothing → Unordered old made new
reported old made new None nexus is none = as_it_was old made new old is refl refl (none_saved made none)
reported old made new (Some condition) nexus is none = less_condition old made new condition nexus is none

after_sense : (old : Machine) (made : Made) (new : Machine) (answer : Result Reply Fault) (nexus : ℕ)
    → new ≡ after_report answer nexus old → made ≡ made_nothing → Unordered old made new
after_sense old made new (Ok reply) nexus is none = reported old made new (condition_due old nexus) nexus is none
after_sense old made new (Err fault) nexus is none = as_it_was old made new old is refl refl (none_saved made none)

in_modes : (before asked : Bool) (nexus : ℕ) (old : Machine)
    → ((in_mode before asked nexus old).reservations ≡ old.reservations)
    × ((in_mode before asked nexus old).keeper ≡ old.keeper)
in_modes true true nexus old = (refl, refl)
in_modes false false nexus old = (refl, refl)
in_modes true false nexus old = (refl, refl)
in_modes false true nexus old = (refl, refl)

asked_modes : (asked : Option Bool) (nexus : ℕ) (old : Machine)
    → ((in_asked_mode asked nexus old).reservations ≡ old.reservations)
    × ((in_asked_mode asked nexus old).keeper ≡ old.keeper)
asked_modes None nexus old = (refl, refl)
asked_modes (Some asked) nexus old = in_modes old.buffered asked nexus old

selected : (list : Result ModeList Sense) (nexus : ℕ) (old : Machine) (answer : Result Reply Fault) (made : Made)
    (new : Machine) → ModeSelectOf list nexus old answer made new → Unordered old made new
selected (Err sense) nexus old answer made new work =
    as_it_was old made new old work.2 refl refl (none_saved made work.1)
selected (Ok list) nexus old answer made new work =
    let same = asked_modes list.buffered nexus old in
    as_it_was old made new (in_asked_mode list.buffered nexus old) work.2 same.0 same.1 (none_saved made work.1)

parked : (parking : Result Unit MediumError) (left : MediumState) (old : Machine) (answer : Result Reply Fault)
    (made : Made) (new : Machine) → ParksAs unloaded parking left old answer new → made ≡ made_nothing
    → Unordered old made new
parked (Ok done) left old answer made new work none =
    as_it_was old made new _ work.1 refl refl (none_saved made none)
parked (Err error) left old answer made new work none =
    as_it_was old made new _ work.1 refl refl (none_saved made none)

reloads : (woke : Result Unit MediumError) (opened : MediumState) (nexus : ℕ) (old : Machine)
    (answer : Result Reply Fault) (made : Made) (new : Machine) → ReloadsAs woke opened nexus old answer new
    → made ≡ made_nothing → Unordered old made new
reloads (Ok done) opened nexus old answer made new work none =
    as_it_was old made new _ work.1 refl refl (none_saved made none)
reloads (Err error) opened nexus old answer made new work none =
    as_it_was old made new _ work.1 refl refl (none_saved made none)

again : (failed : Bool) (medium : MediumState) (old : Machine) (answer : Result Reply Fault) (made : Made)
    (new : Machine) → LoadsAgain failed medium old answer made new → Unordered old made new
again true medium old answer made new work = as_it_was old made new old work.2 refl refl (none_saved made work.1)
again false medium old answer made new work =
    on_medium (StoredFirst (GoesTo (λ m. start))) (Loaded medium) old answer made new work

loads : (honest : Type 0) (bay : Bay MediumState) (nexus : ℕ) (old : Machine) (answer : Result Reply Fault)
    (made : Made) (new : Machine) → LoadsIn honest bay nexus old answer made new → Unordered old made new
loads honest Empty nexus old answer made new work =
    as_it_was old made new old work.2 refl refl (none_saved made work.1)
loads honest (Unloaded medium) nexus old answer made new work =
    reloads work.0 work.1 nexus old answer made new work.3 work.4
loads honest (Loaded medium) nexus old answer made new work = again medium.failed medium old answer made new work

unloads : (honest : Type 0) (bay : Bay MediumState) (old : Machine) (answer : Result Reply Fault)
    (made : Made) (new : Machine) → UnloadsInto unloaded honest bay old answer made new → Unordered old made new
unloads honest Empty old answer made new work =
    as_it_was old made new old work.2 refl refl (none_saved made work.1)
unloads honest (Unloaded medium) old answer made new work =
    as_it_was old made new _ work.2 refl refl (none_saved made work.1)
unloads honest (Loaded medium) old answer made new work = parked work.0 work.1 old answer made new work.3 work.4

load_unload : (honest : Type 0) (load : Bool) (nexus : ℕ) (old : Machine) (answer : Result Reply Fault)
    (made : Made) (new : Machine) → LoadUnloadWork honest load nexus old answer made new → Unordered old made new
load_unload honest true nexus old answer made new work = loads honest old.bay nexus old answer made new work
load_unload honest false nexus old answer made new work = unloads honest old.bay old answer made new work

-- reported conditions change nothing
tells : (old : Machine) (made : Made) (new : Machine) → made ≡ made_nothing → new ≡ old → Unordered old made new
tells old made new none is = as_it_was old made new old is refl refl (none_saved made none)

module _ (honest : Type 0) (old : Machine) (request : Request) (answer : Result Reply Fault) (made : Made)
    (new : Machine) where
  unless_failed : (failed : Bool) (action : PrAction) (bytes : ℕ) (order : PrOut)
      → verdict old request ≡ Ok (PersistentReserveOut action bytes) → list_decoded action request.sent ≡ Ok order
      → OrderUnlessFailed failed order request.nexus old answer made new → Goes old request answer made new
  unless_failed true action bytes order command list work = inl (tells old made new work.1 work.2)
  unless_failed false action bytes order command list work = inr (record {
    action = action;
    bytes = bytes;
    order = order;
    command = command;
    list = list;
    work = work;
  })

  by_list : (list : Result PrOut Sense) (action : PrAction) (bytes : ℕ)
      → verdict old request ≡ Ok (PersistentReserveOut action bytes) → list_decoded action request.sent ≡ list
      → OrderOf list request.nexus old answer made new → Goes old request answer made new
  by_list (Err sense) action bytes command list_is work = inl (tells old made new work.1 work.2)
  by_list (Ok order) action bytes command list_is work =
      unless_failed old.keeper.failed action bytes order command list_is work

  drive_work : (command : Command) → verdict old request ≡ Ok command
      → DriveWork honest command request.nexus request.sent old answer made new → Goes old request answer made new
  drive_work (RequestSense room) is work = inl (after_sense old made new answer request.nexus work.2 work.1)
  drive_work ReadBlockLimits is work = inl (tells old made new work.1 work.2)
  drive_work (Inquiry room) is work = inl (tells old made new work.1 work.2)
  drive_work (PersistentReserveIn action room) is work = inl (tells old made new work.1 work.2)
  drive_work (PersistentReserveOut action bytes) is work =
      by_list (list_decoded action request.sent) action bytes is refl work
  drive_work (ModeSelect length) is work =
      inl (selected (mode_decoded request.sent) request.nexus old answer made new work)
  drive_work (ModeSense room bare) is work = inl (tells old made new work.1 work.2)
  drive_work (LoadUnload load) is work = inl (load_unload honest load request.nexus old answer made new work)
  drive_work TestUnitReady is work = absurd work
  drive_work Rewind is work = absurd work
  drive_work (Read length suppress) is work = absurd work
  drive_work (Write length) is work = absurd work
  drive_work (WriteFilemarks count immediate) is work = absurd work
  drive_work (Space code count) is work = absurd work
  drive_work Erase is work = absurd work
  drive_work (Locate object part) is work = absurd work
  drive_work ReadPosition is work = absurd work

  work_by : (needs : Bool) (command : Command) → verdict old request ≡ Ok command
      → WorkBy needs honest command request.nexus request.sent old answer made new → Goes old request answer made new
  work_by true command is work =
      inl (on_medium (MediumWork honest command old.buffered request.sent) old.bay old answer made new work)
  work_by false command is work = drive_work command is work

  by_verdict : (judged : Result Command Denial) → verdict old request ≡ judged
      → ExecutesAs honest judged request old answer made new → Goes old request answer made new
  by_verdict (Err denial) is work = inl (once_denied old made new denial request.nexus work.2 work.1)
  by_verdict (Ok command) is work = work_by (needs_medium (code_of command)) command is work

  pub step_goes : Executes honest request old answer made new → Goes old request answer made new
  step_goes step = by_verdict (verdict old request) refl step
