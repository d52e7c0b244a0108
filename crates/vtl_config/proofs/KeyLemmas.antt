-- The keys of a table, and the entries of the map that it is.
use Rattle.std.proofs.Common.{◌≡◌, ℕ, Bool, List, [], ◌∷◌, ◌&&◌, String, Global, string_bytes, refl, ap}
use Rattle.std.specs.List.{list_all}
use Rattle.std.specs.Map.{keys_of}
use Rattle.toml.specs.declared.value.Value.{Value}
use Rattle.toml.specs.View.{members_view}
use Rattle.vtl_config.specs.Keys as own

-- a test of each key of a table is one of each key of the map
pub list_all-keys :
    (test : List ℕ → Bool) (es : List (String Global × Value))
    → list_all test (own.keys_of (members_view es)) ≡ list_all (λ key. test (string_bytes key)) (keys_of es)
list_all-keys test [] = refl
list_all-keys test (e ∷ es) = ap (λ (b : Bool). test (string_bytes e.0) && b) (list_all-keys test es)
