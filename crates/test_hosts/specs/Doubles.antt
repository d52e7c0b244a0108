-- What the desk of the tests takes.
use Rattle.std.specs.Prelude.{ℕ, nat_le, Bool, true}
use Rattle.vtl_wire.specs.declared.requests.Request.{Request}
use Rattle.vtl_wire.specs.declared.requests.Request.TheVariants.{Command, Move, Inventory}

-- a command to drive 1 or 2, a move or an inventory (own)
abbrev pub is_within : Request → Bool
is_within (Command host drive cdb sent tag) = nat_le drive 2
is_within (Move from to tag) = true
is_within (Inventory tag) = true
