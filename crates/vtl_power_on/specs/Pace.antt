-- The pace of the flushers (own).
use Rattle.std.specs.Prelude.{ℕ, nat_lt, if◌then◌else◌}
use Rattle.volume_core.specs.declared.media.Turn.{Turn}
use Rattle.volume_core.specs.declared.media.Turn.TheVariants.{Idle, Stored, Device}

-- how many milliseconds a flusher rests after a turn: 2 after one that stored fewer than 4 changes, and else none (own)
abbrev pub rest_of : Turn → ℕ
rest_of (Stored changes) = if nat_lt changes 4 then 2 else 0
rest_of Idle = 0
rest_of Device = 0
