use Rattle.std.proofs.Common.{◌≡◌, length, map, inl, inr}
use Rattle.std.proofs.lemmas.Bool.{eqb-true}
use Rattle.std.proofs.lemmas.List.{length-map}
use Rattle.toml.specs.View.{view}
use Rattle.vtl_config.proofs.CapacityLemmas.{no_capacities}
use Rattle.vtl_config.proofs.capacities.capacities_of.Goals as goal

pub returns-then-is_empty : goal.returns-then-is_empty
returns-then-is_empty c =
    elim c.then-is_empty.either [
      | inl empty ↦
          let none : length c.args.items.now ≡ 0 =
          eqb-true (length c.args.items.now) 0 (rw (← c.is_empty.ensures) empty) in
          no_capacities (map view c.args.items.now) (inl (rw (length-map c.args.items.now view) none))
      | inr long ↦
          no_capacities (map view c.args.items.now) (inr (rw (length-map c.args.items.now view) long.1))
    ]
