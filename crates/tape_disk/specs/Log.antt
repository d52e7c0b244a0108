-- The log of a disk in memory, read from its fields.
use Rattle.std.specs.Prelude.{map}
use Rattle.tape_disk.specs.CallLog.{LoggedCall, Wrote, CutTo, Synced, CallLog}
use Rattle.tape_disk.specs.declared.log.Call.{Call}
use Rattle.tape_disk.specs.declared.log.Call.TheVariants as call
use Rattle.tape_disk.specs.declared.log.Log.{Log}

-- a logged call (own)
abbrev pub logged_call : Call → LoggedCall
logged_call (call.Wrote idle at bytes) = Wrote idle.value at bytes.items
logged_call (call.CutTo idle len) = CutTo idle.value len
logged_call (call.Synced idle) = Synced idle.value

-- the whole log (own)
abbrev pub log_of : Log → CallLog
log_of log = record { base = log.base.items; calls = map logged_call log.calls; idle = log.idle.value }
