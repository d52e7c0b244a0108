-- Moves on lent slots and drives: from what they do in each library to what stays there.
use Rattle.std.proofs.Common.{ℕ, List, Option}
use Rattle.scsi_sense.specs.declared.replies.Reply.{Reply}
use Rattle.tape_disk.specs.Disk.{DiskState, IsDisk}
use Rattle.tape_buffer.specs.State.{BufferState}
use Rattle.bay_moves.specs.Elements.{BayState, HeldState}
use Rattle.bay_moves.specs.Inner.Carried.{MovesLent}
use Rattle.bay_moves.specs.Lent.{InEach}
use Rattle.bay_moves.specs.Moves.{KeepsCartridges, MovesMedium}
use Rattle.bay_moves.proofs.MoveLemmas.{moves_keep}

module _ {D : Type 0} (state : D → DiskState) (from to : ℕ) (slots : List (Option (BufferState D)))
    (source destination : Option (BayState D)) (reply : Reply) (slots' : List (Option (BufferState D)))
    (source' destination' : Option (BayState D)) where
  abbrev Each : (HeldState D → HeldState D → Type 0) → Type 0
  Each P = InEach from to slots source destination slots' source' destination' P

  pub each_answer : MovesLent state from to slots source destination reply slots' source' destination'
      → Each (λ old new. MovesMedium state old from to reply new)
  each_answer moved bays named = (moved bays named).answer

  pub each_keeps : ((disk : D) → (state disk).honest → IsDisk (state disk))
      → MovesLent state from to slots source destination reply slots' source' destination'
      → Each (λ old new. KeepsCartridges state old from to reply new)
  each_keeps is_disk moved bays named =
      let so = moved bays named in moves_keep state is_disk _ _ from to reply so.awake so.answer
