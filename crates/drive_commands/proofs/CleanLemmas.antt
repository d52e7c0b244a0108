-- Media that have nothing pending, and LOAD UNLOAD, which leaves such.
use Rattle.std.proofs.Common.{◌≡◌, ℕ, [], Result, Ok, Err, Bool, true, false, not, subst, sym, ap}
use Rattle.scsi_sense.specs.declared.replies.Reply.{Reply}
use Rattle.volume_core.specs.declared.media.MediumError.{MediumError}
use Rattle.volume_core.specs.Medium.{MediumState, IsParkedFrom, Parks}
use Rattle.drive_commands.specs.declared.bays.Bay.{Bay}
use Rattle.drive_commands.specs.declared.bays.Bay.TheVariants.{Empty, Unloaded, Loaded}
use Rattle.drive_commands.specs.State.{Machine, Mounted}
use Rattle.drive_commands.specs.Relations.{Made}
use Rattle.drive_commands.specs.StoredFirst.{IsStored}
use Rattle.drive_commands.specs.LoadUnload.{LoadUnloadWork, LoadsAgain, LoadsIn, ParksAs, UnloadsInto, unloaded}
use Rattle.drive_commands.specs.Synchronize.{NothingPending, is_working}

-- a medium that has not failed, and has nothing pending
abbrev pub IsClean : MediumState → Type 0
IsClean medium = (medium.failed ≡ false) × (medium.pending ≡ [])

-- a medium on which all is stored is clean, and so is what is equal to it
pub stored_clean : (old between medium : MediumState) → IsStored old between → medium ≡ between → IsClean medium
stored_clean old between medium h e =
    subst (λ (m : MediumState). IsClean m) (sym e) (h.works.works, h.nothing_pending)

-- a medium that worked and was parked is clean, and what its side gives is sure
parked_clean : (H : Type 0) (failed : Bool) (old new : MediumState) → not failed ≡ true → IsParkedFrom H failed old new
    → IsClean new × (H → new.torn ≡ [])
parked_clean H false old new worked h = ((h.works, h.nothing_pending), λ honest. (h.gives honest).1)
parked_clean H true old new worked h = cc

module _ (H : Type 0) (old : Machine) (reply : Reply) (made : Made) (new : Machine) where
  parks_settled : (m left : MediumState) (parking : Result Unit MediumError) → not m.failed ≡ true
      → Parks H m parking left → ParksAs unloaded parking left old (Ok reply) new → NothingPending H new
  parks_settled m left (Ok done) works parks h =
      let clean = parked_clean H m.failed m left works parks in
      rw h.1 clean
  parks_settled m left (Err error) works parks h = cc h.0

  unload_settled : (bay : Bay MediumState) → is_working bay ≡ true
      → UnloadsInto unloaded H bay old (Ok reply) made new → NothingPending H new
  unload_settled Empty works h = cc
  unload_settled (Unloaded m) works h = cc
  unload_settled (Loaded m) works h = parks_settled m h.1 h.0 works h.2 h.3

  again_settled : (failed : Bool) (m : MediumState) → not failed ≡ true
      → LoadsAgain failed m old (Ok reply) made new → NothingPending H new
  again_settled true m works h = cc
  again_settled false m works h =
      let clean : IsClean h.0.medium =
      stored_clean m h.1.0 h.0.medium h.1.1 (ap (λ (x : Mounted). x.medium) h.1.2.2) in
      rw h.2 (clean, tt)

  load_settled : (bay : Bay MediumState) (nexus : ℕ) → is_working bay ≡ true
      → LoadsIn H bay nexus old (Ok reply) made new → NothingPending H new
  load_settled Empty nexus works h = cc
  load_settled (Unloaded m) nexus works h = cc
  load_settled (Loaded m) nexus works h = again_settled m.failed m works h

  pub load_unload_settled : (load : Bool) (nexus : ℕ) → is_working old.bay ≡ true
      → LoadUnloadWork H load nexus old (Ok reply) made new → NothingPending H new
  load_unload_settled true nexus works h = load_settled old.bay nexus works h
  load_unload_settled false nexus works h = unload_settled old.bay works h
