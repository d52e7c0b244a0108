-- A disk over a file, as its contracts see it.
use Rattle.std.specs.Prelude.{◌≡◌, ℕ, ◌+◌, Result, OnErr, refl}
use Rattle.std.specs.Coded.{Coded, code_by, coded×, coded_ℕ}
use Rattle.vtl_base.specs.declared.faults.DevFault.{DevFault}
use Rattle.tape_disk.specs.Disk.{DiskCall, DiskState}
use Rattle.tape_disk.specs.Faults.{with_failures}

-- a file, and how many calls of the disk over it have failed (own)
pub record OpenFile (F : Type 0) : Type 0 where
  pub file : F
  -- it has no bound
  pub failures : ℕ

module _ {F : Type 0} where
  -- the state of the disk: that of the file, except for the failures (own)
  abbrev pub file_disk_state : (F → DiskState) → OpenFile F → DiskState
  file_disk_state state disk = with_failures (state disk.file) disk.failures

  -- a call that fails is one failure more (own)
  abbrev pub CountsOnce : DiskCall → Result Unit DevFault → OpenFile F → OpenFile F → Type 0
  CountsOnce call result old new = OnErr result (new.failures ≡ old.failures + 1)

  -- a disk over a file as plain data (own)
  abbrev pub open_file_code : Coded F → Coded (OpenFile F)
  open_file_code file = code_by (F × ℕ) (coded× file coded_ℕ) (λ d. (d.file, d.failures))
      (λ p. record { file = p.0; failures = p.1 }) (λ _. refl)
