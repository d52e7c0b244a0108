-- A drive counts nothing while a cartridge goes into it or out of it.
use Rattle.std.proofs.Common.{◌≡◌, Result, Ok, Err, ap}
use Rattle.tape_disk.specs.Disk.{DiskState}
use Rattle.scsi_sense.specs.declared.replies.Reply.{Reply}
use Rattle.drive_commands.specs.declared.bays.Bay.{Bay}
use Rattle.drive_commands.specs.declared.bays.Bay.TheVariants.{Empty, Unloaded, Loaded}
use Rattle.drive_commands.specs.Media.{GoesOut, GoesOutOf, TakesIn}
use Rattle.tape_buffer.specs.Moves.{buffer_below}
use Rattle.tape_buffer.specs.State.{BufferState, state_of}
use Rattle.bay_moves.specs.Elements.{BayState}

module _ {D : Type 0} (state : D → DiskState) where
  out_of_counts : (bay : Bay (BufferState D)) (old : BayState D) (result : Result (BufferState D) Reply)
      (new : BayState D) → GoesOutOf (state_of state) (buffer_below state) bay old result new
      → new.accepted ≡ old.accepted
  out_of_counts Empty old (Ok out) new h = absurd h
  out_of_counts Empty old (Err reply) new h = ap (λ (b : BayState D). b.accepted) h.1
  out_of_counts (Unloaded given) old (Ok out) new h = ap (λ (b : BayState D). b.accepted) h.1
  out_of_counts (Unloaded given) old (Err reply) new h = absurd h
  out_of_counts (Loaded given) old (Ok out) new h = ap (λ (b : BayState D). b.accepted) h.1
  out_of_counts (Loaded given) old (Err reply) new h = ap (λ (b : BayState D). b.accepted) h.3

  pub out_counts : (old : BayState D) (result : Result (BufferState D) Reply) (new : BayState D)
      → GoesOut (state_of state) (buffer_below state) old result new → new.accepted ≡ old.accepted
  out_counts old result new h = out_of_counts old.bay old result new h

  pub in_counts : (old : BayState D) (given : BufferState D) (result : Result Unit (BufferState D × Reply))
      (new : BayState D) → TakesIn (state_of state) (buffer_below state) old given result new
      → new.accepted ≡ old.accepted
  in_counts old given (Ok done) new h = ap (λ (b : BayState D). b.accepted) h.2
  in_counts old given (Err back) new h = ap (λ (b : BayState D). b.accepted) h.3
