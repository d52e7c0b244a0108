use Rattle.std.proofs.Common.{inl, inr, ⊎_elim, ◌<◌, ◌≤◌, ◌∙◌, ap, length, arith}
use Rattle.tape_disk.specs.CallLog.{CallLog, log_state}
use Rattle.tape_disk.specs.MemDisk.{mem_log}
use Rattle.test_files.proofs.forgetful.ForgetfulFileRawFile.write_again.Goals as goal

pub returns-clause-unsynced : goal.returns-clause-unsynced
returns-clause-unsynced c = λ honest place lies.
    let size = ap (λ (l : CallLog). length (log_state l 0).seen)
    (ap mem_log c.written.ensures.disk ∙ c.rest.ensures.log) in
    ⊎_elim
    (λ (old : (c.rest.new.self.since ≤ place) × (place < c.rest.new.self.until)).
    inl (
      omega (arith, old.0, c.rest.ensures.since),
      omega (arith, old.1, c.rest.ensures.until),
      omega (arith, lies.2, size),
    ))
    (λ new. inr (new.0, omega (arith, new.1, c.saturating_add.ensures)))
    (c.written.ensures.noted place lies.0 lies.1)
