use Rattle.std.proofs.Common.{◌≡◌, ◌<◌, ◌+◌, ℕ, length, get_or}
use Rattle.library.specs.Counts.{has_drive}
use Rattle.library.specs.Seen.{is_place_seen}
use Rattle.library.specs.declared.inventories.Element.TheVariants.{Missing}
use Rattle.library.proofs.libraries.Library.inventory.Given as goal

-- the drives so far are seen
abbrev pub invariant-loop-place : goal.invariant-loop-place
invariant-loop-place g l = record {
  long : length l.drives ≡ 16;
  so :
      (number : ℕ) → number < l.place
      → is_place_seen (get_or l.drives number Missing) ≡ has_drive l.fn.self (number + 1);
}
