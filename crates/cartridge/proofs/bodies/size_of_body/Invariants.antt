use Rattle.std.proofs.Common.{◌≡◌, length, take}
use Rattle.change_records.specs.Records.{spell_all}
use Rattle.cartridge.proofs.bodies.size_of_body.Given as goal

abbrev pub invariant-loop-change : goal.invariant-loop-change
invariant-loop-change l = l.size ≡ length (spell_all (take l.change-index l.changes))
