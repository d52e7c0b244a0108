-- The capacities of a cartridge's partitions.
use Rattle.std.specs.Prelude.{◌≤◌, ℕ, List, IsTrue, length}
use Rattle.std.specs.List.{All}
use Rattle.vtl_base.specs.Limits.{is_capacity}
use Rattle.vtl_base.specs.declared.limits.TheConstants.{MAX_PARTITIONS}

-- 1 to 4 capacities, each of 4,096 to 1,099,511,627,776 bytes (own)
pub record AreCapacities (capacities : List ℕ) : Type 0 where
  pub some : 1 ≤ length capacities
  pub few : length capacities ≤ MAX_PARTITIONS
  pub each : All (λ bytes. IsTrue (is_capacity bytes)) capacities
