-- The frames of a side with sums, each spelled for its place.
use Rattle.std.specs.Prelude.{◌+◌, ◌*◌, ◌^◌, ℕ, List, [], ◌∷◌}
use Rattle.vtl_base.specs.declared.layout.TheConstants.{FRAME_HEAD}
use Rattle.sealed_records.specs.Sealed.{Laid, laids_size, spell_laids}

-- The seed of a frame's records: the sum of the side's heading, and the length of the body (own).
abbrev pub seed_of : ℕ → ℕ → ℕ
seed_of heading_sum size = heading_sum * 2 ^ 32 + size

-- the body of a frame with its gate at that place, of these records (own)
abbrev pub body_laid : ℕ → ℕ → List Laid → List ℕ
body_laid heading_sum gate laids = spell_laids (seed_of heading_sum (laids_size laids)) (gate + FRAME_HEAD) laids

-- the place of the gate behind a frame of these records (own)
abbrev pub gate_after : ℕ → List Laid → ℕ
gate_after gate laids = gate + FRAME_HEAD + laids_size laids

-- the bodies of frames, the first of which has its gate at that place (own)
abbrev pub bodies_from : ℕ → ℕ → List (List Laid) → List (List ℕ)
bodies_from heading_sum gate [] = []
bodies_from heading_sum gate (frame ∷ frames) =
    body_laid heading_sum gate frame ∷ bodies_from heading_sum (gate_after gate frame) frames

-- the place of the gate behind the last of them (own)
abbrev pub end_from : ℕ → List (List Laid) → ℕ
end_from gate [] = gate
end_from gate (frame ∷ frames) = end_from (gate_after gate frame) frames
