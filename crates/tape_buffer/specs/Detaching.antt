-- How the disks of a medium go away.
use Rattle.std.specs.Prelude.{◌≡◌, ◌==◌, ◌&&◌, List, [], Bool, false, not, None, is_some}
use Rattle.vtl_base.specs.Below.{Advances}
use Rattle.tape_disk.specs.Disk.{DiskState}
use Rattle.volume_core.specs.declared.changes.Change.{Change}
use Rattle.volume_core.specs.Medium.{MediumState}
use Rattle.tape_buffer.specs.Aways.{IsCut, loose_in}
use Rattle.tape_buffer.specs.Moves.{buffer_below}
use Rattle.tape_buffer.specs.State.{BufferState, state_of}
use Rattle.tape_buffer.specs.Taking.{LendsFrom, DisksState}
use Rattle.tape_buffer.specs.declared.aways.Away.{Away}
use Rattle.tape_buffer.specs.declared.budgets.Budget.{Budget}
use Rattle.tape_buffer.specs.declared.holding.Holding.{Holding}
use Rattle.tape_buffer.specs.declared.holding.Holding.TheVariants as Holdings

-- no change, no byte, no room (own)
abbrev pub no_budget : Budget
no_budget = record { records = 0; bytes = 0; room = 0 }

-- how much a medium may accept without its disks; none while they are at hand (own)
abbrev pub left_in : {C S : Type 0} → Holding C S → Budget
left_in (Holdings.Open cartridge) = no_budget
left_in (Holdings.Closed cartridge) = no_budget
left_in (Holdings.Away away) = away.left

-- what was accepted without the disks, and not passed on (own)
abbrev pub loose_held : {C S : Type 0} → Holding C S → List Change
loose_held (Holdings.Open cartridge) = []
loose_held (Holdings.Closed cartridge) = []
loose_held (Holdings.Away away) = loose_in away.loose

-- whether there is such a change (own)
abbrev pub has_loose_held : {C S : Type 0} → Holding C S → Bool
has_loose_held (Holdings.Open cartridge) = false
has_loose_held (Holdings.Closed cartridge) = false
has_loose_held (Holdings.Away away) = is_some away.loose

-- what was accepted, once it was passed on (own)
abbrev pub passed_held : {C S : Type 0} → Holding C S → Holding C S
passed_held (Holdings.Open cartridge) = Holdings.Open cartridge
passed_held (Holdings.Closed cartridge) = Holdings.Closed cartridge
passed_held (Holdings.Away away) = Holdings.Away (record away { loose = None })

-- a medium as it was seen, of which disks that take so much went away; nothing was accepted without them (own)
pub record IsAwayAs (seen : MediumState) (left : Budget) (away : Away) : Type 0 where
  pub noted : away.noted ≡ seen
  pub loose : away.loose ≡ None
  pub cut : IsCut left away.left

-- a medium works, and yet accepts no change until its disks are back (own)
abbrev pub lacks_room_held : {C S : Type 0} → Holding C S → Bool
lacks_room_held (Holdings.Open cartridge) = false
lacks_room_held (Holdings.Closed cartridge) = false
lacks_room_held (Holdings.Away away) =
    away.noted.awake && (not away.noted.failed && away.left.records == 0)

module _ {D : Type 0} where
  -- what a medium accepted without its disks, and did not pass on (own)
  abbrev pub loose_of : BufferState D → List Change
  loose_of medium = loose_held medium.held

  -- a medium that has passed on what it accepted (own)
  abbrev pub passed : BufferState D → BufferState D
  passed medium = record medium { held = passed_held medium.held }

  -- a medium whose disks are away (own)
  abbrev pub away_buffer : Away → BufferState D
  away_buffer away = record { held = Holdings.Away away; pending = away.noted.pending }

  -- The disks of a medium were sent away, as they were except for the memory that is reserved. Hosts see just the
  -- medium (own).
  pub record DetachesFrom (state : D → DiskState) (old : BufferState D) (lent : DisksState D) (new : BufferState D)
      : Type 0 where
    pub away : Away
    pub lends : LendsFrom old lent
    pub state_is : state_of state lent.buffer ≡ state_of state old
    pub advances : Advances (buffer_below state) old [] false lent.buffer
    pub new_is : new ≡ away_buffer away
    pub away_is : IsAwayAs (state_of state old) lent.left away
