-- The totals of a packing so far.
use Rattle.std.specs.Prelude.{◌+◌, ℕ, nat_le, if◌then◌else◌}
use Rattle.volume_copy.specs.declared.totals.Packed.{Packed}
use Rattle.vtl_base.specs.declared.limits.TheConstants.{COPY_BODY}

-- the totals with one more record of this size: in the last frame, if it fits there (own)
abbrev pub packed_with : Packed → ℕ → Packed
packed_with packed size =
    if nat_le (packed.last + size) COPY_BODY
    then (record { frames = packed.frames; bytes = packed.bytes + size; last = packed.last + size })
    else (record { frames = packed.frames + 1; bytes = packed.bytes + size; last = size })
