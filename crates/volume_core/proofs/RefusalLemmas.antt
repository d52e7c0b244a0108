-- Why a volume refuses a change, by what a catalog shows of its partition.
use Rattle.std.proofs.Common.{◌≡◌, ℕ, ◌<◌, ◌≤◌, ◌+◌, ◌⊎◌, inl, inr, get_or, List, length, take, Option, None, Some, refl, sym, ◌∙◌, ap, arith, length-append}
use Rattle.std.specs.Prelude.{slice_get, if◌then◌else◌, not, nat_le, ◌&&◌, Bool, true, false}
use Rattle.std.proofs.lemmas.List.{length-take-le}
use Rattle.std.proofs.lemmas.Option.{none-some, slice_get-get_or}
use Rattle.std.proofs.lemmas.List.Sums.{sum_by-append}
use Rattle.std.proofs.lemmas.Bool.{and_from, and_left, and_right, le-leb, le-ltb, lt-leb}
use Rattle.vtl_base.specs.declared.limits.TheConstants.{MAX_OBJECTS}
use Rattle.volume_core.specs.declared.changes.Change.{Change}
use Rattle.volume_core.specs.declared.changes.Demand.{Demand}
use Rattle.volume_core.specs.declared.changes.Refusal.{Refusal}
use Rattle.volume_core.specs.declared.changes.Refusal.TheVariants.{NoRoom, PastEnd, TooLong}
use Rattle.volume_core.specs.Volume.{Part, added_by, capacity_in, capacity_of, cost_of, count_of, demand_of, empty_part, is_well_formed, staying_of, objects_after, objects_in, part_of, refusal_in, refusal_of, used_of, used_up_to}

-- the causes behind that the end is not passed: there is no room, or it is not well formed
abbrev cause : Bool → Bool → Option Refusal
cause room formed = if not room then Some NoRoom else (if not formed then Some TooLong else None)

-- what is asked fits behind so many objects, which take so much of the capacity
abbrev has_room : ℕ → ℕ → ℕ → Demand → Bool
has_room at used capacity demand =
    nat_le (at + demand.objects) MAX_OBJECTS && nat_le (used + demand.bytes) capacity

seen_in : (found : Option Part) (change : Change) → (found ≡ None → ⊥) → staying_of change ≤ length (objects_in found)
    → refusal_in found change
    ≡ cause (has_room (staying_of change) (used_of (take (staying_of change) (objects_in found))) (capacity_in found)
    (demand_of change)) (is_well_formed change)
seen_in None change some reached = absurd (some refl)
seen_in (Some part) change some reached =
    let fits = le-ltb (length part.objects) (staying_of change) reached in
    let size : length (objects_after part.objects change) ≡ staying_of change + length (added_by change) =
    omega (
      arith,
      length-append (take (staying_of change) part.objects) (added_by change),
      length-take-le (staying_of change) part.objects reached,
    ) in
    let takes = sum_by-append cost_of (take (staying_of change) part.objects) (added_by change) in
    λ i. if fits i then Some PastEnd
    else cause (nat_le (size i) MAX_OBJECTS && nat_le (takes i) part.capacity) (is_well_formed change)

module _ (volume : List Part) (change : Change) (part at : ℕ) (demand : Demand) (here : part_of change ≡ part)
    (stays : staying_of change ≡ at) (asks : demand_of change ≡ demand)
    (inside : part < length volume) (reached : at ≤ count_of volume part) where
  seen : refusal_of volume change
      ≡ cause (has_room at (used_up_to volume part at) (capacity_of volume part) demand) demand.formed
  seen =
      seen_in (slice_get volume (part_of change)) change
      (λ none. none-some (get_or volume (part_of change) (empty_part 0))
      (sym none ∙ slice_get-get_or volume (part_of change) (empty_part 0) (omega (arith, inside, here))))
      (omega (arith, reached, stays, ap (λ (n : ℕ). count_of volume n) here))
      ∙ (λ i. cause (has_room (stays i) (used_up_to volume (here i) (stays i)) (capacity_of volume (here i)) (asks i))
      (Demand.formed (asks i)))

  -- there is no room for it
  pub lacks_room : (MAX_OBJECTS < at + demand.objects)
      ⊎ (capacity_of volume part < used_up_to volume part at + demand.bytes) → refusal_of volume change ≡ Some NoRoom
  lacks_room (inl many) =
      seen ∙ ap (λ (room : Bool). cause room demand.formed)
      (and_left _ _ (lt-leb (at + demand.objects) MAX_OBJECTS many))
  lacks_room (inr much) =
      seen ∙ ap (λ (room : Bool). cause room demand.formed)
      (and_right _ _ (lt-leb (used_up_to volume part at + demand.bytes) (capacity_of volume part) much))

  -- it fits, and is well formed or not
  pub by_form : at + demand.objects ≤ MAX_OBJECTS
      → used_up_to volume part at + demand.bytes ≤ capacity_of volume part → (bad : Bool)
      → not demand.formed ≡ bad → refusal_of volume change ≡ (if bad then Some TooLong else None)
  by_form few fit bad is =
      let room : has_room at (used_up_to volume part at) (capacity_of volume part) demand ≡ true =
      and_from _ _ (le-leb (at + demand.objects) MAX_OBJECTS few)
      (le-leb (used_up_to volume part at + demand.bytes) (capacity_of volume part) fit) in
      seen ∙ (λ i. if not (room i) then Some NoRoom else (if is i then Some TooLong else None))
