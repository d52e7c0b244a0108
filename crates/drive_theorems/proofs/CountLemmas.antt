-- A count rises by the number of the changes, up to its limit.
use Rattle.std.proofs.Common.{◌≡◌, ◌≤◌, ◌+◌, ◌-◌, ◌^◌, ◌∙◌, min, ℕ, List, [], ◌∷◌, length, arith}
use Rattle.volume_core.specs.declared.changes.Change.{Change}
use Rattle.drive_commands.specs.Counted.{CountsAreHeld, counted_up}

pub counts_are_held : CountsAreHeld
counts_are_held count [] within = omega (arith, within)
counts_are_held count (change ∷ changes) within =
    counts_are_held (min (count + 1) (2 ^ 64 - 1)) changes (omega arith) ∙ omega (arith, within)
