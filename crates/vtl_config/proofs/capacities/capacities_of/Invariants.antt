use Rattle.std.proofs.Common.{◌≡◌, IsTrue, length, map, take}
use Rattle.std.specs.List.{All}
use Rattle.toml.specs.View.{view}
use Rattle.vtl_base.specs.Limits.{is_capacity}
use Rattle.vtl_config.specs.Values.{whole}
use Rattle.vtl_config.proofs.capacities.capacities_of.Given as goal

abbrev pub invariant-loop-place : goal.invariant-loop-place
invariant-loop-place l = record {
  four : length l.bytes ≡ 4;
  same : map view (take l.place l.items) ≡ map whole (take l.place l.bytes);
  each : All (λ bytes. IsTrue (is_capacity bytes)) (take l.place l.bytes);
}
