-- Calls of a file in a row that change nothing of it.
use Rattle.std.proofs.Common.{inl, inr, ⊎_elim, ℕ, zero, suc, List, refl, sym, ◌∙◌, subst, arith, Result}
use Rattle.vtl_base.specs.declared.faults.DevFault.{DevFault}
use Rattle.tape_disk.specs.Disk.{Cuts, DiskState, Elapses, IsDisk, Same, Syncs, Writes}
use Rattle.gate_journal.specs.Reads.{OnlyReads, ReadsInRow}
use Rattle.file_disk.specs.RawFile.{IsAsHonest, ReachesStill}
use Rattle.file_disk.specs.Inner.Rested.{ReadsOnly, OnlyReadFile, Rested, FileRests}
use Rattle.file_disk.specs.declared.looked.Looked.{Looked}
use Rattle.file_disk.proofs.RunLemmas.{as_honest_both}

-- nothing was called
pub rests_none : (state : DiskState) → FileRests state state
rests_none state = record {
  later = omega arith;
  seen = refl;
  crash = λ image left. left;
  nothing = λ t image le left. left;
  keeps = λ t image le left. left;
}

-- one call
pub rests_call : (old new : DiskState) → IsDisk old → Elapses old new → Same old new → FileRests old new
rests_call old new is_disk time same = record {
  later = omega (arith, time.later);
  seen = same.seen;
  crash = same.crash;
  nothing = λ t image le left. ⊎_elim (λ before. before)
      (λ leaves. is_disk.counts_now t image le (same.crash image leaves)) (time.nothing_else t image le left);
  keeps = time.keeps;
}

module _ (old mid new : DiskState) (first : FileRests old mid) where
  -- more of them
  pub rests_then : FileRests mid new → FileRests old new
  rests_then second = record {
    later = omega (arith, first.later, second.later);
    seen = second.seen ∙ first.seen;
    crash = λ image left. first.crash image (second.crash image left);
    nothing = λ t image le left.
        first.nothing t image le (second.nothing t image (omega (arith, le, first.later)) left);
    keeps = λ t image le left.
        second.keeps t image (omega (arith, le, first.later)) (first.keeps t image le left);
  }

  -- a call behind them
  pub time_behind : Elapses mid new → Elapses old new
  time_behind second = record {
    later = omega (arith, first.later, second.later);
    nothing_else = λ t image le left. ⊎_elim (λ before. inl (first.nothing t image le before)) inr
        (second.nothing_else t image (omega (arith, le, first.later)) left);
    keeps = λ t image le left.
        second.keeps t image (omega (arith, le, first.later)) (first.keeps t image le left);
  }

  -- one that changes nothing
  pub same_behind : Same mid new → Same old new
  same_behind second = record {
    seen = second.seen ∙ first.seen;
    crash = λ image left. first.crash image (second.crash image left);
  }

module _ {F : Type 0} (state : F → DiskState) (passed_over unsynced : F → ℕ → Type 0) where
  -- nothing was called
  pub rested_none : (file : F) → Rested state passed_over unsynced file file
  rested_none file = record {
    honesty = record { stays_honest = λ honest. honest; was_honest = λ honest. honest };
    rests = λ honest. rests_none (state file);
    reaches = λ honest place passed. passed;
  }

  -- calls behind others
  pub rested_then : (old mid new : F) → Rested state passed_over unsynced old mid
      → Rested state passed_over unsynced mid new → Rested state passed_over unsynced old new
  rested_then old mid new first second = record {
    honesty = as_honest_both (state old) (state mid) (state new) first.honesty second.honesty;
    rests = λ honest. rests_then (state old) (state mid) (state new) (first.rests honest)
        (second.rests (first.honesty.stays_honest honest));
    reaches = λ honest place passed.
        first.reaches honest place (second.reaches (first.honesty.stays_honest honest) place passed);
  }

  -- one call
  pub rested_call : (old new : F) → ((state old).honest → IsDisk (state old)) → IsAsHonest (state old) (state new)
      → ((state old).honest → Elapses (state old) (state new)) → ((state old).honest → Same (state old) (state new))
      → ((state old).honest → ReachesStill (passed_over old) (passed_over new))
      → Rested state passed_over unsynced old new
  rested_call old new is_disk honesty time same reaches = record {
    honesty = honesty;
    rests = λ honest. rests_call (state old) (state new) (is_disk honest) (time honest) (same honest);
    reaches = reaches;
  }

  -- nothing was read
  pub read_none : (file : F) → OnlyReadFile state passed_over unsynced file file
  read_none file = record { rested = rested_none file; adds_none = λ honest place written. written }

  -- reads behind others
  pub read_then : (old mid new : F) → OnlyReadFile state passed_over unsynced old mid
      → OnlyReadFile state passed_over unsynced mid new → OnlyReadFile state passed_over unsynced old new
  read_then old mid new first second = record {
    rested = rested_then old mid new first.rested second.rested;
    adds_none = λ honest place written. first.adds_none honest place
        (second.adds_none (first.rested.honesty.stays_honest honest) place written);
  }

  -- what reads of the disk over it leave of a file
  pub read_all_of : (old new : Looked F) → OnlyReads (ReadsOnly state passed_over unsynced) old new
      → OnlyReadFile state passed_over unsynced old.file new.file
  read_all_of old new reads = by reads.calls new reads.reads
    where
      by : (calls : ℕ) (last : Looked F) → ReadsInRow (ReadsOnly state passed_over unsynced) calls old last
          → OnlyReadFile state passed_over unsynced old.file last.file
      by zero last same =
          subst (λ (l : Looked F). OnlyReadFile state passed_over unsynced old.file l.file) (sym same)
          (read_none old.file)
      by (suc calls) last more = read_then old.file more.0.file last.file (by calls more.0 more.3) more.5.1

-- a write behind such calls
pub writes_behind : (old mid new : DiskState) → FileRests old mid → (at : ℕ) (bytes : List ℕ)
    (result : Result Unit DevFault) → Writes at bytes result mid new → Writes at bytes result old new
writes_behind old mid new first at bytes result writes = subst
    (λ (s : List ℕ). Writes at bytes result (record old { seen = s }) new) first.seen (record {
      written = writes.written;
      smeared = writes.smeared;
      crash = λ image left. let torn = writes.crash image left in (torn.0, first.crash torn.0 torn.1, torn.2);
    })

-- a cut behind them
pub cuts_behind : (old mid new : DiskState) → FileRests old mid → (len : ℕ) (result : Result Unit DevFault)
    → Cuts len result mid new → Cuts len result old new
cuts_behind old mid new first len result cuts = subst
    (λ (s : List ℕ). Cuts len result (record old { seen = s }) new) first.seen (record {
      done = cuts.done;
      smeared = cuts.smeared;
      crash = λ image left. let torn = cuts.crash image left in (torn.0, first.crash torn.0 torn.1, torn.2);
    })

-- a sync behind them
pub syncs_behind : (old mid new : DiskState) → FileRests old mid → (result : Result Unit DevFault)
    → Syncs result mid new → Syncs result old new
syncs_behind old mid new first result syncs = subst
    (λ (s : List ℕ). Syncs result (record old { seen = s }) new) first.seen (record {
      durable = syncs.durable;
      crash = λ image left. first.crash image (syncs.crash image left);
    })
