use Rattle.std.proofs.Common.{◌≡◌, None, replicate}
use Rattle.element_slots.proofs.slots.Slots.new.Given as goal

-- the places so far are empty
abbrev pub invariant-loop : goal.invariant-loop
invariant-loop g l = l.places.items ≡ replicate l.counter None
