use Rattle.std.proofs.Common.{inl, inr, ⊎_elim, ◌∙◌, refl, ap, length, arith}
use Rattle.tape_disk.specs.CallLog.{CallLog, log_state}
use Rattle.tape_disk.specs.MemDisk.{mem_log}
use Rattle.test_files.specs.Forgetful.{forgetful_file_state}
use Rattle.test_files.proofs.StagedLemmas.{overwritten_within, staged_wrote_all}
use Rattle.test_files.proofs.forgetful.ForgetfulFileRawFile.write_some.Goals as goal

pub returns-in-Ok-clause-writes : goal.returns-in-Ok-clause-writes
returns-in-Ok-clause-writes c = λ honest.
    staged_wrote_all _ _ _ refl c.args.at c.args.bytes.now
    (ap mem_log c.written.ensures.disk ∙ c.in-Ok.ensures.effect.0)

pub returns-in-Ok-clause-unsynced : goal.returns-in-Ok-clause-unsynced
returns-in-Ok-clause-unsynced c = λ honest place lies.
    let size = ap (λ (l : CallLog). length (log_state l 0).seen)
    (ap mem_log c.written.ensures.disk ∙ c.in-Ok.ensures.effect.0) in
    ⊎_elim
    (λ within. ⊎_elim (λ old. inl (old.0, old.1, within))
    (λ new. inr (new.0, omega (arith, new.1, c.saturating_add.ensures)))
    (c.written.ensures.noted place lies.0 lies.1))
    inr
    (overwritten_within c.args.at c.args.bytes.now (forgetful_file_state c.args.self.now).seen place
    (c.requires honest) (omega (arith, lies.2, size)))
