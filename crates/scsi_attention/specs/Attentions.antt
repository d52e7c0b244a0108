-- The unit attention conditions of all nexuses of a drive, by rising nexus.
use Rattle.std.specs.Prelude.{ℕ, ◌-◌, List, [], ◌∷◌, map, slice_get, slice_set, Option, None, Some}
use Rattle.scsi_attention.specs.declared.attention_sets.Attention.{Attention}
use Rattle.scsi_attention.specs.AttentionSets.{AttentionSet, first_of, union, with_attention, without}

-- the condition that is reported first from a nexus's set (own)
abbrev pub attention_in : Option AttentionSet → Option Attention
attention_in None = None
attention_in (Some set) = first_of set

-- the condition that is reported to a nexus next (own)
abbrev pub attention_of : List AttentionSet → ℕ → Option Attention
attention_of sets nexus = attention_in (slice_get sets (nexus - 1))

-- all sets after a condition is cleared in this set, which is a nexus's (own)
abbrev pub cleared_in : Option AttentionSet → List AttentionSet → ℕ → Attention → List AttentionSet
cleared_in None sets nexus attention = sets
cleared_in (Some set) sets nexus attention = slice_set sets (nexus - 1) (without attention set)

-- all sets after a condition is cleared for a nexus (SAM-5, unit attention condition)
abbrev pub cleared : List AttentionSet → ℕ → Attention → List AttentionSet
cleared sets nexus attention = cleared_in (slice_get sets (nexus - 1)) sets nexus attention

-- all sets after a condition is established for every nexus (SAM-5, unit attention condition)
abbrev pub established_for_all : List AttentionSet → Attention → List AttentionSet
established_for_all sets attention = map (with_attention attention) sets

-- all sets, with this one again for a nexus, if there is one (own)
abbrev pub put_back : Option AttentionSet → List AttentionSet → ℕ → List AttentionSet
put_back None sets nexus = sets
put_back (Some set) sets nexus = slice_set sets (nexus - 1) set

-- all sets after a condition is established for every nexus but one (SAM-5, unit attention condition)
abbrev pub established_for_others : List AttentionSet → ℕ → Attention → List AttentionSet
established_for_others sets nexus attention =
    put_back (slice_get sets (nexus - 1)) (established_for_all sets attention) nexus

-- all sets after the conditions of each nexus are established for it, by rising nexus; without conditions its set stays
-- (SAM-5, unit attention condition)
abbrev pub established_by : List AttentionSet → List AttentionSet → List AttentionSet
established_by sets [] = sets
established_by [] (more ∷ established) = []
established_by (set ∷ sets) (more ∷ established) = union set more ∷ established_by sets established
