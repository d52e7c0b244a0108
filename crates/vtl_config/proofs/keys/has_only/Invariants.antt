use Rattle.std.proofs.Common.{◌≡◌, string_bytes}
use Rattle.std.specs.List.{list_all}
use Rattle.std.specs.Map.{keys_of}
use Rattle.vtl_config.specs.Keys.{is_one_of}
use Rattle.vtl_config.proofs.keys.has_only.Given as goal

abbrev pub invariant-loop-name : goal.invariant-loop-name
invariant-loop-name l = record {
  can : (goal.iterator-loop-name).can_next l.name-iterator;
  finite : (goal.iterator-loop-name).is_finite l.name-iterator;
  left :
      list_all (λ key. is_one_of l.keys (string_bytes key)) (keys_of l.table.entries)
      ≡ list_all (λ key. is_one_of l.keys (string_bytes key)) l.name-iterator;
}
