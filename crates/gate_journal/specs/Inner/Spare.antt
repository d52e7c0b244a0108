-- How many frames can be added without taking memory.
use Rattle.std.specs.Prelude.{ℕ, ◌-◌, if◌then◌else◌, nat_le, vec_len, vec_capacity}
use Rattle.std.specs.declared.vec.Vec.{Vec}
use Rattle.vtl_base.specs.declared.limits.TheConstants.{MAX_BODY}
use Rattle.gate_journal.specs.Spelled.{SpelledBody}

-- how many extents can be added without taking memory (own)
abbrev pub free : {A B : Type 0} → Vec A B → ℕ
free extents = vec_capacity extents - vec_len extents

-- how many extents can be added, where the buffer has room for the longest body (own)
abbrev pub spare : {A B : Type 0} → Vec A B → SpelledBody → ℕ
spare extents buffer = if nat_le MAX_BODY buffer.room then free extents else 0
