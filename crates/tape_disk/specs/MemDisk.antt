-- A disk in memory, as its contracts see it.
use Rattle.std.specs.Prelude.{◌≡◌, ℕ, ◌+◌, max, Result, Ok, Err}
use Rattle.vtl_base.specs.declared.faults.DevFault.{DevFault}
use Rattle.tape_disk.specs.CallLog.{CallLog, idled, logged}
use Rattle.tape_disk.specs.Disk.{DiskCall, ReadAt, WriteAt, CutAt, SyncAll}
use Rattle.tape_disk.specs.Log.{log_of}
use Rattle.tape_disk.specs.declared.memory.MemDisk.{MemDisk}

-- its calls, and what it began with (own)
abbrev pub mem_log : MemDisk → CallLog
mem_log disk = log_of disk.log

-- how many of its calls have failed (own)
abbrev pub mem_failures : MemDisk → ℕ
mem_failures disk = disk.failures.count.value

-- how many bytes the widest of its reads asked for (own)
abbrev pub mem_widest : MemDisk → ℕ
mem_widest disk = disk.widest

-- the same after one more call (own)
abbrev pub widest_after : DiskCall → ℕ → ℕ
widest_after (ReadAt at count) widest = max widest count
widest_after (WriteAt at bytes) widest = widest
widest_after (CutAt len) widest = widest
widest_after SyncAll widest = widest

-- What a call adds to the log: at Ok itself; after a refused growth only that there was a call, which adds one failure.
-- The widest read is the widest so far (own).
abbrev pub MemEffect : DiskCall → Result Unit DevFault → MemDisk → MemDisk → Type 0
MemEffect call (Ok done) old new =
    (mem_log new ≡ logged call (mem_log old)) × (mem_failures new ≡ mem_failures old)
    × (mem_widest new ≡ widest_after call (mem_widest old))
MemEffect call (Err fault) old new =
    (mem_log new ≡ idled (mem_log old)) × (mem_failures new ≡ mem_failures old + 1)
    × (mem_widest new ≡ mem_widest old)
