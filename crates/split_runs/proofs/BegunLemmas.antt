-- What holds of the two halves of a drive at first.
use Rattle.std.proofs.Common.{◌≡◌, Option, sym, ap, subst}
use Rattle.tape_disk.specs.Disk.{DiskState, IsDisk}
use Rattle.volume_core.specs.Medium.{MediumState}
use Rattle.cartridge.specs.State.{ClosedCartridge, OpenCartridge}
use Rattle.drive_commands.specs.declared.bays.Bay.{Bay}
use Rattle.drive_commands.specs.declared.bays.Bay.TheVariants.{Empty, Unloaded, Loaded}
use Rattle.drive_commands.specs.State.{medium_in}
use Rattle.tape_buffer.specs.declared.holding.Holding.{Holding}
use Rattle.tape_buffer.specs.declared.holding.Holding.TheVariants.{Open, Closed, Away}
use Rattle.tape_buffer.specs.State.{BufferState, state_held, state_of}
use Rattle.split_bay.specs.Fronts.{OwesHeld, OwesIn}
use Rattle.split_bay.specs.Spans.{Span, medium_begun, span_of}
use Rattle.split_runs.specs.Begun.{PartedHalvesKeep, ToldIsSeen}
use Rattle.split_runs.proofs.PartLemmas.{ToldAs, parted_keeps}

module _ {D : Type 0} (state : D → DiskState) where
  told_held : (medium : BufferState D) (span : Span) → OwesHeld medium.held span
      → (medium_begun span).failed ≡ (state_of state medium).failed
  told_held medium span owes = by medium.held owes
    where
      by : (held : Holding (OpenCartridge D) (ClosedCartridge D)) → OwesHeld held span
          → (medium_begun span).failed ≡ (state_held state held medium.pending).failed
      by (Open c) owes = absurd owes
      by (Closed c) owes = absurd owes
      by (Away a) owes = sym (ap (λ (m : MediumState). m.failed) owes.seen)

  told_in : (bay : Bay (BufferState D)) (span : Span) → OwesIn bay span
      → ToldAs state (medium_begun span).failed (medium_in bay)
  told_in Empty span owes = tt
  told_in (Unloaded medium) span owes = told_held medium span owes
  told_in (Loaded medium) span owes = told_held medium span owes

  pub told_seen : ToldIsSeen state
  told_seen halves medium keeps is =
      let span = span_of halves.front.sending.sent in
      subst (λ (m : Option (BufferState D)). ToldAs state (medium_begun span).failed m) is
      (told_in halves.front.drive.bay span keeps.stands.0)

module _ {D : Type 0} (state : D → DiskState) (is_disk : (disk : D) → (state disk).honest → IsDisk (state disk)) where
  pub begun_keep : PartedHalvesKeep state
  begun_keep bay ends halves parts again =
      parted_keeps state is_disk bay ends halves parts again.waiting again.front again.back
