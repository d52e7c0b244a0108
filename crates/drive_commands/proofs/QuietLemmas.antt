-- Work that makes no change.
use Rattle.std.proofs.Common.{◌≡◌, ℕ, ℤ, zero, suc, List, [], Option, Result, Ok, Err, Bool, true, false, ap, inl, inr}
use Rattle.vtl_base.specs.declared.space_codes.SpaceCode.{SpaceCode}
use Rattle.scsi_attention.specs.AttentionSets.{AttentionSet}
use Rattle.scsi_sense.specs.declared.replies.Reply.{Reply}
use Rattle.scsi_sense.specs.declared.sense_data.Sense.{Sense}
use Rattle.scsi_lists.specs.declared.mode_lists.ModeList.{ModeList}
use Rattle.scsi_lists.specs.declared.pr_lists.PrOut.{PrOut}
use Rattle.pr_core.specs.declared.states.PrState.{PrState}
use Rattle.pr_core.specs.declared.states.PrAnswer.{PrAnswer}
use Rattle.pr_core.specs.Saves.{needs_save}
use Rattle.volume_core.specs.declared.changes.Change.{Change}
use Rattle.volume_core.specs.Medium.{MediumState}
use Rattle.positioning.specs.declared.positions.Pos.{Pos}
use Rattle.drive_commands.specs.declared.bays.Bay.{Bay}
use Rattle.drive_commands.specs.declared.bays.Bay.TheVariants.{Empty, Unloaded, Loaded}
use Rattle.drive_commands.specs.declared.faults.Fault.{Fault}
use Rattle.drive_commands.specs.declared.faults.Fault.TheVariants.{NoMemory, Writing, Reading, SideFull, Saving, StoreFull}
use Rattle.drive_commands.specs.State.{Machine, Mounted, mounted, start}
use Rattle.drive_commands.specs.Relations.{Idles, Made, MediumRelation, made_nothing}
use Rattle.drive_commands.specs.StoredFirst.{GoesTo, StoredFirst}
use Rattle.drive_commands.specs.Space.{SpaceMotion, SpaceWhen}
use Rattle.drive_commands.specs.Locate.{LocateMotion}
use Rattle.drive_commands.specs.Read.{GivesObject, ReadWork}
use Rattle.drive_commands.specs.Mode.{ModeSelectOf}
use Rattle.drive_commands.specs.ReserveOut.{OrderOf, OrderUnlessFailed, StandsBy}
use Rattle.drive_commands.specs.LoadUnload.{LoadsAgain, LoadsIn, LoadUnloadWork, UnloadsInto, unloaded}

-- where nothing is made no change is
pub unmade : (made : Made) → made ≡ made_nothing → made.changes ≡ []
unmade made nothing = ap (λ (m : Made). m.changes) nothing

-- such work on a medium makes no change
abbrev pub IsQuiet : MediumRelation → Type 0
IsQuiet W =
    (old : Mounted) (answer : Result Reply Fault) (made : List Change) (new : Mounted) → W old answer made new
    → made ≡ []

pub idles_quiet : IsQuiet Idles
idles_quiet old answer made new work = work.1

pub goes_quiet : (where_to : Mounted → Pos) → IsQuiet (GoesTo where_to)
goes_quiet where_to old answer made new work = work.1

-- and none where what is pending is stored first
pub stored_quiet : (W : MediumRelation) → IsQuiet W → IsQuiet (StoredFirst W)
stored_quiet W quiet old (Ok reply) made new h = quiet (mounted h.0 old.position) (Ok reply) made new h.2
stored_quiet W quiet old (Err NoMemory) made new h = quiet (mounted h.0 old.position) (Err NoMemory) made new h.2
stored_quiet W quiet old (Err Writing) made new (inl h) = h.0
stored_quiet W quiet old (Err Writing) made new (inr h) =
    quiet (mounted h.0 old.position) (Err Writing) made new h.2
stored_quiet W quiet old (Err Reading) made new h = quiet (mounted h.0 old.position) (Err Reading) made new h.2
stored_quiet W quiet old (Err (SideFull residue)) made new h =
    quiet (mounted h.0 old.position) (Err (SideFull residue)) made new h.2
stored_quiet W quiet old (Err Saving) made new h = quiet (mounted h.0 old.position) (Err Saving) made new h.2
stored_quiet W quiet old (Err StoreFull) made new h = quiet (mounted h.0 old.position) (Err StoreFull) made new h.2

motion_quiet : (code : SpaceCode) (count : ℤ) → IsQuiet (SpaceMotion code count)
motion_quiet code count old (Ok reply) made new work = work.0
motion_quiet code count old (Err fault) made new work = absurd work

pub space_quiet : (nothing : Bool) (code : SpaceCode) (count : ℤ) → IsQuiet (SpaceWhen nothing code count)
space_quiet true code count = idles_quiet
space_quiet false code count = stored_quiet (SpaceMotion code count) (motion_quiet code count)

pub locate_quiet : (object : ℕ) (part : Option ℕ) → IsQuiet (LocateMotion object part)
locate_quiet object part old (Ok reply) made new work = work.0
locate_quiet object part old (Err fault) made new work = absurd work

module _ (H : Type 0) where
  gives_quiet : (suppress : Bool) (asked : ℕ) → IsQuiet (GivesObject H suppress asked)
  gives_quiet suppress asked old (Ok reply) made new work = work.0
  gives_quiet suppress asked old (Err NoMemory) made new work = work.0
  gives_quiet suppress asked old (Err Writing) made new work = absurd work
  gives_quiet suppress asked old (Err Reading) made new work = work.0
  gives_quiet suppress asked old (Err (SideFull residue)) made new work = absurd work
  gives_quiet suppress asked old (Err Saving) made new work = absurd work
  gives_quiet suppress asked old (Err StoreFull) made new work = absurd work

  pub read_quiet : (suppress : Bool) (asked : ℕ) → IsQuiet (ReadWork H suppress asked)
  read_quiet suppress zero = idles_quiet
  read_quiet suppress (suc n) = stored_quiet (GivesObject H suppress (suc n)) (gives_quiet suppress (suc n))

module _ (old : Machine) (answer : Result Reply Fault) (made : Made) (new : Machine) where
  pub mode_quiet : (list : Result ModeList Sense) (nexus : ℕ) → ModeSelectOf list nexus old answer made new
      → made.changes ≡ []
  mode_quiet (Ok list) nexus work = unmade made work.1
  mode_quiet (Err sense) nexus work = unmade made work.1

  -- an order to the reservations
  stands_quiet : (due : Bool) (brought : PrAnswer) (state : PrState) (established : List AttentionSet)
      → StandsBy due brought state established old answer made new → made.changes ≡ []
  stands_quiet false brought state established work = unmade made work.1
  stands_quiet true brought state established work = ap (λ (m : Made). m.changes) work.4

  order_quiet : (failed : Bool) (order : PrOut) (nexus : ℕ) → OrderUnlessFailed failed order nexus old answer made new
      → made.changes ≡ []
  order_quiet true order nexus work = unmade made work.1
  order_quiet false order nexus work =
      stands_quiet (needs_save old.reservations work.2) work.0 work.2 work.1 work.4

  pub list_quiet : (list : Result PrOut Sense) (nexus : ℕ) → OrderOf list nexus old answer made new
      → made.changes ≡ []
  list_quiet (Err sense) nexus work = unmade made work.1
  list_quiet (Ok order) nexus work = order_quiet old.keeper.failed order nexus work

  -- LOAD UNLOAD
  unload_quiet : (H : Type 0) (bay : Bay MediumState) → UnloadsInto unloaded H bay old answer made new
      → made.changes ≡ []
  unload_quiet H Empty work = unmade made work.1
  unload_quiet H (Unloaded medium) work = unmade made work.1
  unload_quiet H (Loaded medium) work = unmade made work.4

  again_quiet : (failed : Bool) (medium : MediumState) → LoadsAgain failed medium old answer made new
      → made.changes ≡ []
  again_quiet true medium work = unmade made work.1
  again_quiet false medium work =
      stored_quiet (GoesTo (λ m. start)) (goes_quiet (λ m. start)) (mounted medium old.position) answer made.changes
      work.0 work.1

  load_quiet : (H : Type 0) (bay : Bay MediumState) (nexus : ℕ) → LoadsIn H bay nexus old answer made new
      → made.changes ≡ []
  load_quiet H Empty nexus work = unmade made work.1
  load_quiet H (Unloaded medium) nexus work = unmade made work.4
  load_quiet H (Loaded medium) nexus work = again_quiet medium.failed medium work

  pub load_unload_quiet : (H : Type 0) (load : Bool) (nexus : ℕ) → LoadUnloadWork H load nexus old answer made new
      → made.changes ≡ []
  load_unload_quiet H true nexus work = load_quiet H old.bay nexus work
  load_unload_quiet H false nexus work = unload_quiet H old.bay work
