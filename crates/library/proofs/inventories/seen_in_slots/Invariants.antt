use Rattle.std.proofs.Common.{◌≡◌, ◌<◌, ℕ, None, length, get_or}
use Rattle.library.specs.Seen.{seen_at}
use Rattle.library.specs.declared.inventories.Element.TheVariants.{Missing}
use Rattle.library.proofs.inventories.seen_in_slots.Given as goal

-- the slots so far are seen
abbrev pub invariant-loop-place : goal.invariant-loop-place
invariant-loop-place g l = record {
  long : length l.seen ≡ 256;
  so : (place : ℕ) → place < l.place → get_or l.seen place Missing ≡ seen_at (get_or l.row place None);
}
