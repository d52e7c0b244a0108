-- Moves of cartridges between slots and drives.
use Rattle.std.specs.Prelude.{◌≡◌, ◌⊎◌, ◌≢◌, ◌&&◌, ◌||◌, ℕ, [], not, true, false, List, Option, None, Some, is_some, Result, Ok, Err, if◌then◌else◌}
use Rattle.tape_disk.specs.Disk.{DiskState}
use Rattle.scsi_sense.specs.declared.replies.Reply.{Reply}
use Rattle.scsi_sense.specs.Replies.{check_with, conflict, good_with}
use Rattle.scsi_sense.specs.Senses.{destination_full, invalid_element_address, source_empty}
use Rattle.volume_core.specs.Volume.{Part}
use Rattle.volume_core.specs.Medium.{MediumState, volume_of}
use Rattle.drive_commands.specs.declared.bays.Bay.TheVariants.{Unloaded}
use Rattle.drive_commands.specs.Media.{GoesOut, TakesIn}
use Rattle.tape_buffer.specs.Moves.{buffer_below}
use Rattle.tape_buffer.specs.State.{BufferState, state_of}
use Rattle.element_slots.specs.Slots.{Puts, held_at, is_slot}
use Rattle.bay_moves.specs.Elements.{BayState, Becomes, HeldState, bay_at, cartridge_at, is_element, is_reserved_at}

-- the volume of a medium: that which an awake one shows, or that which the side of a parked one gives (own)
abbrev pub volume_given : MediumState → Option (List Part)
volume_given medium = if medium.awake then Some (volume_of medium) else medium.stored

module _ {D : Type 0} where
  -- why nothing is moved, by the first of these that holds: an address is neither a slot's nor a drive's; a reservation
  -- is held at a drive of the move; the source is empty; the destination is full (SMC-3, MOVE MEDIUM; that a
  -- reservation keeps the operator out, own)
  abbrev pub refusal_of_move : HeldState D → ℕ → ℕ → Option Reply
  refusal_of_move held from to =
      if not (is_element held from && is_element held to) then Some (check_with invalid_element_address [])
      else (if is_reserved_at (bay_at held.bays from) || is_reserved_at (bay_at held.bays to) then Some conflict
      else (if not (is_some (cartridge_at held from)) then Some (check_with source_empty [])
      else (if is_some (cartridge_at held to) then Some (check_with destination_full []) else None)))

  -- only this slot changes: it holds this now (own)
  pub record SlotHolds (address : ℕ) (cartridge : Option (BufferState D)) (old new : HeldState D) : Type 0 where
    pub slots : Puts address cartridge old.slots new.slots
    pub bays : new.bays ≡ old.bays

  -- only the drive of this number changes: it is this one now (own)
  pub record BayIs (number : ℕ) (bay : BayState D) (old new : HeldState D) : Type 0 where
    pub bays : Becomes number (Some bay) old.bays new.bays
    pub slots : new.slots ≡ old.slots

  -- a cartridge is put into the drive of this address, not loaded (own)
  abbrev pub InsertsAt : HeldState D → ℕ → BufferState D → HeldState D → Type 0
  InsertsAt old address given new =
      (bay : BayState D) × (bay_at old.bays address ≡ Some bay)
      × BayIs address (record bay { bay = Unloaded given }) old new

  -- a cartridge that did not go in returns to its source: into the slot, or into the drive, unloaded (own)
  abbrev pub GoesBackTo : HeldState D → ℕ → BufferState D → HeldState D → Type 0
  GoesBackTo old address back new =
      ((is_slot address ≡ true) × SlotHolds address (Some back) old new)
      ⊎ ((is_slot address ≡ false) × InsertsAt old address back new)

  -- the same drives are configured (own)
  abbrev pub KeepsBays : HeldState D → HeldState D → Type 0
  KeepsBays old new = (number : ℕ) → is_some (bay_at new.bays number) ≡ is_some (bay_at old.bays number)

  module _ (state : D → DiskState) where
    -- the cartridge in the drive of this address comes out, or the drive replies why not (own)
    abbrev pub UnloadsAt : HeldState D → ℕ → Result (BufferState D) Reply → HeldState D → Type 0
    UnloadsAt old address result new =
        (bay bay' : BayState D) × (bay_at old.bays address ≡ Some bay)
        × GoesOut (state_of state) (buffer_below state) bay result bay' × BayIs address bay' old new

    -- a cartridge is loaded into the drive of this address, or is returned with the reply (own)
    abbrev pub LoadsAt :
        HeldState D → ℕ → BufferState D → Result Unit (BufferState D × Reply) → HeldState D → Type 0
    LoadsAt old address given result new =
        (bay bay' : BayState D) × (bay_at old.bays address ≡ Some bay)
        × TakesIn (state_of state) (buffer_below state) bay given result bay' × BayIs address bay' old new

    -- The cartridge at this address comes out: unchanged out of a slot, and out of a drive as UNLOAD leaves it. Where
    -- the device fails, the drive replies so and the cartridge stays in it (SMC-3, MOVE MEDIUM; the fault own).
    abbrev pub GoesOutAt : HeldState D → ℕ → Result (BufferState D) Reply → HeldState D → Type 0
    GoesOutAt old address (Ok out) new =
        ((is_slot address ≡ true) × (held_at old.slots address ≡ Some out) × SlotHolds address None old new)
        ⊎ ((is_slot address ≡ false) × UnloadsAt old address (Ok out) new)
    GoesOutAt old address (Err reply) new = (is_slot address ≡ false) × UnloadsAt old address (Err reply) new

    -- A cartridge goes to this empty address: unchanged into a slot, opened into a drive. Where it can't be opened, it
    -- is returned with the reply (SMC-3, MOVE MEDIUM; the refusals own).
    abbrev pub GoesInAt :
        HeldState D → ℕ → BufferState D → Result Unit (BufferState D × Reply) → HeldState D → Type 0
    GoesInAt old address given (Ok done) new =
        ((is_slot address ≡ true) × SlotHolds address (Some given) old new)
        ⊎ ((is_slot address ≡ false) × LoadsAt old address given (Ok done) new)
    GoesInAt old address given (Err back) new = (is_slot address ≡ false) × LoadsAt old address given (Err back) new

    -- A move that is not refused: the cartridge comes out of the source and goes into the destination, with the reply
    -- GOOD. Where it does not come out, or not go in, the reply is the drive's, and it stays at the source (SMC-3, MOVE
    -- MEDIUM; the refusals own).
    abbrev pub Carries : HeldState D → ℕ → ℕ → Reply → HeldState D → Type 0
    Carries old from to reply new =
        GoesOutAt old from (Err reply) new
        ⊎ ((out : BufferState D) × (mid : HeldState D) × GoesOutAt old from (Ok out) mid
        × ((GoesInAt mid to out (Ok tt) new × (reply ≡ good_with []))
        ⊎ ((back : BufferState D) × (left : HeldState D) × GoesInAt mid to out (Err (back, reply)) left
        × GoesBackTo left from back new)))

    -- a move is refused by the first cause that holds, and nothing changes; or the cartridge is carried (SMC-3, MOVE
    -- MEDIUM)
    abbrev pub AnswersMove : Option Reply → HeldState D → ℕ → ℕ → Reply → HeldState D → Type 0
    AnswersMove (Some refusal) old from to reply new = (reply ≡ refusal) × (new ≡ old)
    AnswersMove None old from to reply new = Carries old from to reply new

    -- a cartridge is moved from one element address to another (SMC-3, MOVE MEDIUM)
    abbrev pub MovesMedium : HeldState D → ℕ → ℕ → Reply → HeldState D → Type 0
    MovesMedium old from to reply new = AnswersMove (refusal_of_move old from to) old from to reply new

    -- The same cartridge, later: it accepted nothing. It gives the same volume where it is honest and has not failed
    -- and, if it is parked, has no frame in flight (own).
    pub record IsSameCartridge (old new : BufferState D) : Type 0 where
      pub moves : (buffer_below state).moves old [] new
      pub gives : (buffer_below state).honest old → (state_of state old).failed ≡ false
          → ((state_of state old).awake ≡ false → (state_of state old).torn ≡ [])
          → volume_given (state_of state new) ≡ volume_given (state_of state old)

    -- The same cartridge, which was not moved. It gives the same volume, except that one that was not opened before and
    -- whose device fails now may give another, or none (own).
    pub record StaysCartridge (old new : BufferState D) : Type 0 where
      pub moves : (buffer_below state).moves old [] new
      pub gives : (buffer_below state).honest old → (state_of state old).failed ≡ false
          → ((state_of state old).awake ≡ false → (state_of state old).torn ≡ [])
          → ((state_of state old).unread ≡ false)
          ⊎ ((buffer_below state).failures new ≡ (buffer_below state).failures old)
          → volume_given (state_of state new) ≡ volume_given (state_of state old)

    -- the cartridge at an address was not moved, or there is none (own)
    abbrev pub StaysAt : Option (BufferState D) → Option (BufferState D) → Type 0
    StaysAt None None = Unit {0}
    StaysAt (Some old) (Some new) = StaysCartridge old new
    StaysAt _ _ = ⊥

    -- the same cartridge is at an address, or none (own)
    abbrev pub IsSameAt : Option (BufferState D) → Option (BufferState D) → Type 0
    IsSameAt None None = Unit {0}
    IsSameAt (Some old) (Some new) = IsSameCartridge old new
    IsSameAt _ _ = ⊥

    -- A cartridge moved: the source had it and is empty now, the destination was empty and has it, and each other
    -- address is unchanged (SMC-3, MOVE MEDIUM).
    pub record MovesCartridge (from to : ℕ) (old new : HeldState D) : Type 0 where
      pub apart : from ≢ to
      pub had : is_some (cartridge_at old from) ≡ true
      pub room : cartridge_at old to ≡ None
      pub gone : cartridge_at new from ≡ None
      pub there : IsSameAt (cartridge_at old from) (cartridge_at new to)
      pub others : (other : ℕ) → other ≢ from → other ≢ to → cartridge_at new other ≡ cartridge_at old other

    -- no cartridge moved: the source has the same one, or none, and each other address is unchanged (SMC-3, MOVE
    -- MEDIUM)
    pub record MovesNothing (from : ℕ) (old new : HeldState D) : Type 0 where
      pub there : StaysAt (cartridge_at old from) (cartridge_at new from)
      pub others : (other : ℕ) → other ≢ from → cartridge_at new other ≡ cartridge_at old other

    -- no cartridge is ever lost: with GOOD the cartridge of the source is at the destination, with any other reply none
    -- has moved (SMC-3, MOVE MEDIUM)
    abbrev pub KeepsCartridges : HeldState D → ℕ → ℕ → Reply → HeldState D → Type 0
    KeepsCartridges old from to reply new =
        ((reply ≡ good_with []) × MovesCartridge from to old new)
        ⊎ ((reply ≢ good_with []) × MovesNothing from old new)
