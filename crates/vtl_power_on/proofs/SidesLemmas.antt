-- A disk that gives no store; memory that ran out.
use Rattle.std.proofs.Common.{◌≡◌, Result, Ok, Err, IfErr, sym, subst, arith}
use Rattle.tape_disk.specs.Disk.{DiskState, IsDisk}
use Rattle.gate_journal.specs.Answers.{NoneFailed}
use Rattle.aptpl_store.specs.Answers.{IsStoreNotOpened}
use Rattle.aptpl_store.specs.declared.error.StoreError.{StoreError}
use Rattle.aptpl_store.specs.declared.error.StoreError.TheVariants.{NotOurs, Damaged, BadRecord, Device, NoMemory}
use Rattle.vtl_faults.specs.FromBelow.{IsFailure}
use Rattle.vtl_faults.specs.declared.faults.VtlFault.{VtlFault}
use Rattle.vtl_faults.specs.declared.faults.VtlFault.TheVariants as Faults

-- no call failed, so what a read gives is sure, and is what one gave before
pub same_by_refusal : (error : StoreError) (old new : DiskState) → IsStoreNotOpened error old new
    → NoneFailed old new → old.honest → IsDisk new → new.seen ≡ old.seen
same_by_refusal NotOurs old new why none honest disk = (why.1 honest).1 new.seen disk.reads
same_by_refusal (Damaged at) old new why none honest disk = (why.1 honest).1 new.seen disk.reads
same_by_refusal (BadRecord at) old new why none honest disk = (why.1 honest).1 new.seen disk.reads
same_by_refusal (Device fault) old new why none honest disk = absurd (omega (arith, why.cause, none))
same_by_refusal NoMemory old new why none honest disk = (why.1 honest).1 new.seen disk.reads

-- the only fault is that memory ran out
pub memory_is_failure : {G : Type 0} (made : Result G VtlFault) → IfErr made (λ fault. fault ≡ Faults.NoMemory)
    → IfErr made IsFailure
memory_is_failure (Ok given) only = tt
memory_is_failure (Err fault) only = subst IsFailure (sym only) tt
