-- A block is read: from a pending change, or from the disk.
use Rattle.std.specs.Prelude.{◌≡◌, ◌<◌, ◌≤◌, ℕ, zero, suc, List, [], ◌∷◌, true, false, Bool, Option, Some, Result, Ok, Err, OnOk, IfSome, length, slice_get, refl}
use Rattle.std.proofs.Common.{sym, ◌∙◌, ap, subst, arith}
use Rattle.std.proofs.lemmas.Bool.{and_parts, leb-true}
use Rattle.std.proofs.lemmas.Result.{on_ok_weaker}
use Rattle.vtl_base.specs.Below.{Advances}
use Rattle.vtl_base.specs.declared.limits.TheConstants.{MAX_BLOCK}
use Rattle.tape_disk.specs.Disk.{DiskState, IsDisk}
use Rattle.tape_disk.specs.TwoDisks.{AreHonest, EachOfTwo, KeepsDisks, TwoLeave, failures_of}
use Rattle.volume_core.specs.declared.changes.Change.{Change}
use Rattle.volume_core.specs.declared.changes.Change.TheVariants.{Put}
use Rattle.volume_core.specs.declared.media.MediumError.{MediumError}
use Rattle.volume_core.specs.declared.media.MediumError.TheVariants.{Refused, NoMemory, SideFull, Device, Failed, Unreadable}
use Rattle.volume_core.specs.Volume.{AllApply, Part, changed}
use Rattle.volume_core.specs.Medium.{met_fault}
use Rattle.cartridge.specs.Disks.{UnwrittenTwo}
use Rattle.cartridge.specs.State.{OpenCartridge}
use Rattle.accepted_changes.specs.Device.{two_disks, two_is_device, two_keep, two_rest}
use Rattle.accepted_changes.specs.Events.{ShowsCore}
use Rattle.accepted_changes.specs.Kinds.{moves_faulting, moves_resting}
use Rattle.tape_buffer.specs.Inner.Fetching.{IsCopyOf, IsFetched}
use Rattle.tape_buffer.specs.Moves.{buffer_below}
use Rattle.tape_buffer.specs.Rules.{medium_rules}
use Rattle.tape_buffer.specs.State.{open_buffer, open_core}
use Rattle.tape_buffer.proofs.VolumeLemmas.{well_formed}
use Rattle.tape_buffer.proofs.TwoLemmas.{are_disks, stay_honest, were_honest}

-- the block of a change that applies is no longer than a block
pub short_block : (volume : List Part) (changes : List Change) (i part staying : ℕ) (block : List ℕ)
    → AllApply volume changes → slice_get changes i ≡ Some (Put part staying block) → length block ≤ MAX_BLOCK
short_block volume [] i part staying block all at = absurd (cc)
short_block volume (change ∷ changes) zero part staying block all at =
    let is : change ≡ Put part staying block = cc in
    let well = well_formed volume (Put part staying block) (rw is at all.0) in
    leb-true (length block) 1048576 (and_parts _ _ well).1
short_block volume (change ∷ changes) (suc i) part staying block all at =
    short_block (changed volume change) changes i part staying block all.1 at

-- what a copy of a block is
module _ (block : List ℕ) (capacity : ℕ) where
  pub copied : (result : Result Unit MediumError) (bytes : List ℕ) → IsCopyOf block capacity result bytes
      → OnOk result (bytes ≡ block)
  copied (Ok done) bytes same = same
  copied (Err error) bytes same = tt

  pub copied_well : (result : Result Unit MediumError) (bytes : List ℕ) → IsCopyOf block capacity result bytes
      → met_fault result ≡ false
  copied_well (Ok done) bytes same = refl
  copied_well (Err NoMemory) bytes same = refl
  copied_well (Err (Refused cause)) bytes same = refl
  copied_well (Err SideFull) bytes same = refl
  copied_well (Err Failed) bytes same = refl
  copied_well (Err Unreadable) bytes same = refl
  copied_well (Err Device) bytes same = absurd same

  pub copied_lack : (result : Result Unit MediumError) (bytes : List ℕ) → IsCopyOf block capacity result bytes
      → result ≡ Err NoMemory → capacity < length block
  copied_lack result bytes same none =
      subst (λ (r : Result Unit MediumError). IsCopyOf block capacity r bytes) none same

  module _ (seen : Option (List ℕ)) (is : seen ≡ Some block) (result : Result Unit MediumError) (bytes : List ℕ)
      (same : IsCopyOf block capacity result bytes) where
    pub copied_block : OnOk result (seen ≡ Some bytes)
    copied_block = on_ok_weaker result (λ same. is ∙ ap Some (sym same)) (copied result bytes same)

    pub copied_short : length block ≤ MAX_BLOCK → OnOk result (length bytes ≤ MAX_BLOCK)
    copied_short short =
        on_ok_weaker result (λ same. omega (arith, ap (λ (l : List ℕ). length l) same, short))
        (copied result bytes same)

    pub copied_memory : result ≡ Err NoMemory → IfSome seen (λ block. capacity < length block)
    copied_memory none =
        subst (λ (o : Option (List ℕ)). IfSome o (λ block. capacity < length block)) (sym is)
        (copied_lack result bytes same none)

-- memory ran out for its cause
pub fetched_lack : (memory : Type 0) (failed : Bool) (before now : ℕ) (result : Result Unit MediumError)
    → IsFetched result memory failed before now → result ≡ Err NoMemory → memory
fetched_lack memory failed before now result told none =
    (subst (λ (r : Result Unit MediumError). IsFetched r memory failed before now) none told).2

module _ {D : Type 0} (state : D → DiskState) (is_disk : (disk : D) → (state disk).honest → IsDisk (state disk))
    (c c' : OpenCartridge D) (pending : List Change) (works : c.failed ≡ false)
    (same : c' ≡ record c { disks = c'.disks; failed = c'.failed }) (keeps : KeepsDisks state c.disks c'.disks)
    (quiet : AreHonest state c.disks → UnwrittenTwo state c.disks c'.disks) where
  -- each moment shows what was shown before
  rests_so : AreHonest state c.disks → EachOfTwo state c.disks (ShowsCore medium_rules (open_core c pending))
      → TwoLeave state c.disks c'.disks (ShowsCore medium_rules (open_core c pending))
  rests_so honest =
      two_rest state c.disks c'.disks (ShowsCore medium_rules (open_core c pending)) (quiet honest).moments

  -- nothing failed
  fetched_well : c'.failed ≡ false → failures_of state c'.disks ≡ failures_of state c.disks
      → Advances (buffer_below state) (open_buffer c pending) [] false (open_buffer c' pending)
  fetched_well fine counted =
      subst (λ (k : OpenCartridge D). Advances (buffer_below state) (open_buffer c pending) [] false
      (open_buffer k pending))
      (sym (same ∙ (λ i. record c { disks = c'.disks; failed = (fine ∙ sym works) i })))
      (record {
        moved =
            moves_resting medium_rules (two_disks state) (two_is_device state) c.disks c'.disks
            (open_core c pending) (are_disks state is_disk c'.disks) (two_keep state c.disks c'.disks keeps) rests_so;
        counted = counted;
        honesty = (stay_honest state c.disks c'.disks keeps, were_honest state c.disks c'.disks keeps);
        hand = (λ h. h, λ h. h);
      })

  -- the disk failed
  fetched_badly : c'.failed ≡ true → failures_of state c.disks < failures_of state c'.disks
      → Advances (buffer_below state) (open_buffer c pending) [] true (open_buffer c' pending)
  fetched_badly failed counted =
      subst (λ (k : OpenCartridge D). Advances (buffer_below state) (open_buffer c pending) [] true
      (open_buffer k pending))
      (sym (same ∙ (λ i. record c { disks = c'.disks; failed = failed i })))
      (record {
        moved =
            moves_faulting medium_rules (two_disks state) (two_is_device state) c.disks c'.disks
            (open_core c pending) (are_disks state is_disk c'.disks) (two_keep state c.disks c'.disks keeps) counted
            rests_so;
        counted = counted;
        honesty = (stay_honest state c.disks c'.disks keeps, were_honest state c.disks c'.disks keeps);
        hand = (λ h. h, λ h. h);
      })

  pub fetched : (memory : Type 0) (result : Result Unit MediumError)
      → IsFetched result memory c'.failed (failures_of state c.disks) (failures_of state c'.disks)
      → Advances (buffer_below state) (open_buffer c pending) [] (met_fault result) (open_buffer c' pending)
  fetched memory (Ok done) told = fetched_well told.0 told.1
  fetched memory (Err NoMemory) told = fetched_well told.0 told.1
  fetched memory (Err Device) told = fetched_badly told.0 told.1
  fetched memory (Err (Refused cause)) told = absurd told
  fetched memory (Err SideFull) told = absurd told
  fetched memory (Err Failed) told = absurd told
  fetched memory (Err Unreadable) told = absurd told
