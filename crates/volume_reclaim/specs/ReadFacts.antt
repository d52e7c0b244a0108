-- Laws of reading: reads one after another, and what stays.
use Rattle.std.specs.Prelude.{ℕ, List, refl}
use Rattle.std.proofs.Common.{sym, subst, ◌∙◌, arith}
use Rattle.vtl_base.specs.declared.faults.DevFault.{DevFault}
use Rattle.tape_disk.specs.Disk.{DiskState, Elapses, IsDisk, Keeps, Same}
use Rattle.tape_disk.specs.Moments.{in_sequence, no_call, one_more_call, weakened}
use Rattle.gate_journal.specs.Crash.{Unwritten}
use Rattle.volume_reclaim.specs.Reading.{LiesAtPlace, LiesOnDisk, OnlyRead, ReadUntilFault}

keeps_on : (a b c : DiskState) → Keeps a b → Keeps b c → Keeps a c
keeps_on a b c one other = record {
  stays_honest = λ h. other.stays_honest (one.stays_honest h);
  was_honest = λ h. one.was_honest (other.was_honest h);
  counted = omega (arith, one.counted, other.counted);
}

unwritten_on : (a b c : DiskState) → Unwritten a b → Unwritten b c → Unwritten a c
unwritten_on a b c one other = record {
  seen = other.seen ∙ one.seen;
  images = λ image left. one.images image (other.images image left);
  moments =
      in_sequence a b c a.may_leave one.moments
      (weakened b c b.may_leave a.may_leave other.moments (λ image left. one.images image left));
}

-- nothing is read
pub read_nothing : (disk : DiskState) → (disk.honest → IsDisk disk) → OnlyRead disk disk
read_nothing disk law = record {
  keeps = record { stays_honest = λ h. h; was_honest = λ h. h; counted = omega arith };
  none_failed = refl;
  unwritten =
      λ h. record {
        seen = refl;
        images = λ image left. left;
        moments = no_call disk disk.may_leave (law h) (λ image left. left);
      };
}

-- reads after reads
pub read_on : (a b c : DiskState) → OnlyRead a b → OnlyRead b c → OnlyRead a c
read_on a b c one other = record {
  keeps = keeps_on a b c one.keeps other.keeps;
  none_failed = other.none_failed ∙ one.none_failed;
  unwritten = λ h. unwritten_on a b c (one.unwritten h) (other.unwritten (one.keeps.stays_honest h));
}

-- a fault after reads
pub fault_on : (a b c : DiskState) (fault : DevFault) → OnlyRead a b → ReadUntilFault b fault c
    → ReadUntilFault a fault c
fault_on a b c fault one other = record {
  keeps = keeps_on a b c one.keeps other.keeps;
  failed = record { cause = omega (arith, one.none_failed, other.failed.cause); reported = other.failed.reported };
  unwritten = λ h. unwritten_on a b c (one.unwritten h) (other.unwritten (one.keeps.stays_honest h));
}

-- a block stays where it lies
pub lies_still : (a b : DiskState) (block : List ℕ) (place : ℕ) → OnlyRead a b → LiesOnDisk a block place
    → LiesOnDisk b block place
lies_still a b block place read lies = λ h.
    subst (λ (l : List ℕ). LiesAtPlace l block place) (sym (read.unwritten (read.keeps.was_honest h)).seen)
    (lies (read.keeps.was_honest h))

-- a read writes nothing
pub unwritten_by : (old new : DiskState) → IsDisk old → Elapses old new → Same old new → Unwritten old new
unwritten_by old new disk time same = record {
  seen = same.seen;
  images = same.crash;
  moments =
      one_more_call old old new old.may_leave (no_call old old.may_leave disk (λ image left. left)) time same.crash;
}
