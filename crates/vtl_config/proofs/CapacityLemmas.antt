-- Items, and the list of values that they are.
use Rattle.std.proofs.Common.{◌≡◌, suc, Bool, true, false, ◌&&◌, ◌<◌, ◌⊎◌, inl, inr, List, [], ◌∷◌, length, map, Some, None, nat_le, arith, refl, ap, ◌∙◌}
use Rattle.std.proofs.lemmas.Bool.{lt-leb, and_left, and_right}
use Rattle.std.proofs.lemmas.List.Folds.{list_all-map}
use Rattle.std.specs.List.{list_all}
use Rattle.toml.specs.Data.{Data, string, integer, float, boolean, datetime, array, table, as_array}
use Rattle.toml.specs.View.{items_of, view}
use Rattle.toml.specs.declared.value.Value.{Value}
use Rattle.vtl_config.specs.Values.{items_all, count_items, hold_capacities, is_integer, is_of_kind, numbers, IsWithin}
use Rattle.vtl_config.specs.declared.keys.Key.TheVariants.{Capacities}
use Rattle.vtl_config.proofs.ValueLemmas.{array_value}

pub items_all-items_of : (test : Data → Bool) (ds : List Data) → items_all test (items_of ds) ≡ list_all test ds
items_all-items_of test [] = refl
items_all-items_of test (d ∷ ds) = ap (λ (b : Bool). test d && b) (items_all-items_of test ds)

pub count_items-items_of : (ds : List Data) → count_items (items_of ds) ≡ length ds
count_items-items_of [] = refl
count_items-items_of (d ∷ ds) = ap suc (count_items-items_of ds)

-- too few values, or too many, are no capacities
pub no_capacities :
    (ds : List Data) → (length ds ≡ 0) ⊎ (4 < length ds) → hold_capacities (items_of ds) ≡ false
no_capacities [] few = refl
no_capacities (d ∷ ds) (inl none) = absurd (omega arith)
no_capacities (d ∷ ds) (inr many) =
    let too_many : nat_le (count_items (items_of (d ∷ ds))) 4 ≡ false =
    rw (count_items-items_of (d ∷ ds)) (lt-leb (length (d ∷ ds)) 4 many) in
    and_left _ _ (and_right _ _ too_many)

-- whether a value is a list of integers
pub list_kind :
    (value : Data) (vs seen : List Value) → as_array value ≡ Some (items_of (map view vs)) → seen ≡ vs
    → is_of_kind numbers value ≡ list_all (λ item. is_integer (view item)) seen
list_kind value vs seen is_list same =
    rw (array_value value (items_of (map view vs)) is_list, same)
    (items_all-items_of is_integer (map view vs) ∙ list_all-map is_integer view vs)

-- a value that is no list is none of integers
pub no_list_kind : (value : Data) → as_array value ≡ None → is_of_kind numbers value ≡ false
no_list_kind (string x) e = refl
no_list_kind (integer x) e = refl
no_list_kind (float x) e = refl
no_list_kind (boolean x) e = refl
no_list_kind (datetime x) e = refl
no_list_kind (array x) e = cc
no_list_kind (table x) e = refl

-- a list that is no capacities is outside its limits
pub not_within :
    (value : Data) (vs seen : List Value) → as_array value ≡ Some (items_of (map view vs)) → seen ≡ vs
    → hold_capacities (items_of (map view seen)) ≡ false → ¬ IsWithin Capacities value
not_within value vs seen is_list same none =
    rw (array_value value (items_of (map view vs)) is_list, ← same)
    (λ (h : hold_capacities (items_of (map view seen)) ≡ true). cc)
