-- Laws of sets of unit attention conditions.
use Rattle.std.specs.Prelude.{◌≡◌, ◌≢◌, ◌||◌, ◌-◌, ℕ, Bool, true, false, List, Some, None, length, option_map, slice_get}
use Rattle.scsi_attention.specs.declared.attention_sets.Attention.{Attention}
use Rattle.scsi_attention.specs.AttentionSets.{AttentionSet, contains, set_to, union, with_attention, without}
use Rattle.scsi_attention.specs.Attentions.{established_by, established_for_others}

-- a condition that was put in is in the set (own)
abbrev pub HasWhatIsPutIn : Type 0
HasWhatIsPutIn =
    (attention : Attention) (set : AttentionSet) → contains attention (with_attention attention set) ≡ true

-- a condition that was taken out is not in the set (own)
abbrev pub LacksWhatIsTakenOut : Type 0
LacksWhatIsTakenOut =
    (attention : Attention) (set : AttentionSet) → contains attention (without attention set) ≡ false

-- every other condition stays (own)
abbrev pub OthersStay : Type 0
OthersStay =
    (pending : Bool) (attention other : Attention) (set : AttentionSet) → other ≢ attention
    → contains other (set_to pending attention set) ≡ contains other set

-- sets with the same conditions are the same (own)
abbrev pub MembersDecide : Type 0
MembersDecide =
    (one other : AttentionSet) → ((attention : Attention) → contains attention one ≡ contains attention other)
    → one ≡ other

-- a condition is in a union exactly where it is in one of the two sets (own)
abbrev pub UnionHasBoth : Type 0
UnionHasBoth =
    (attention : Attention) (one other : AttentionSet)
    → contains attention (union one other) ≡ (contains attention one || contains attention other)

-- the conditions of a nexus are joined with its own set (own)
abbrev pub EachGetsItsOwn : Type 0
EachGetsItsOwn =
    (sets established : List AttentionSet) (place : ℕ) (set more : AttentionSet)
    → slice_get sets place ≡ Some set → slice_get established place ≡ Some more
    → slice_get (established_by sets established) place ≡ Some (union set more)

-- the set of a nexus without conditions stays (own)
abbrev pub TheOthersStay : Type 0
TheOthersStay =
    (sets established : List AttentionSet) (place : ℕ)
    → slice_get established place ≡ None → slice_get (established_by sets established) place ≡ slice_get sets place

-- there are as many sets as before (own)
abbrev pub NoNexusIsLost : Type 0
NoNexusIsLost = (sets established : List AttentionSet) → length (established_by sets established) ≡ length sets

-- where a condition is established for every nexus but one, each other one has it beside its own (own)
abbrev pub EachOtherGetsIt : Type 0
EachOtherGetsIt =
    (sets : List AttentionSet) (nexus place : ℕ) (attention : Attention) → place ≢ nexus - 1
    → slice_get (established_for_others sets nexus attention) place
    ≡ option_map (with_attention attention) (slice_get sets place)

-- and the set of that one stays (own)
abbrev pub TheOneGetsNone : Type 0
TheOneGetsNone =
    (sets : List AttentionSet) (nexus : ℕ) (attention : Attention)
    → slice_get (established_for_others sets nexus attention) (nexus - 1) ≡ slice_get sets (nexus - 1)
