-- Calls that failed and changed nothing, and one more call of a disk in memory.
use Rattle.std.proofs.Common.{◌≡◌, ℕ, ◌+◌, List, [], length, drop, refl, sym, ap, ◌∙◌, subst, arith, Ok, Err, take-append-drop}
use Rattle.std.proofs.lemmas.List.{append-nil}
use Rattle.vtl_base.specs.declared.faults.DevFault.{DevFault}
use Rattle.tape_disk.specs.Disk.{DiskState, Same, Smeared, Cut, Writes, Cuts, Syncs}
use Rattle.tape_disk.specs.CallLog.{Synced, CallLog, IsImage, idled, log_state, reads, with_call}

all_stays : (at n : ℕ) (xs : List ℕ) → Smeared at n xs xs
all_stays at n xs = record {
  before = (drop at xs, sym (take-append-drop at xs));
  after = ([], sym (append-nil (drop (at + n) xs)));
  no_shorter = omega arith;
}

all_there : (len : ℕ) (xs : List ℕ) → Cut len xs xs
all_there len xs = (drop len xs, sym (take-append-drop len xs))

module _ (old new : DiskState) (same : Same old new) (fault : DevFault) where
  pub not_written : (at : ℕ) (bytes : List ℕ) → Writes at bytes (Err fault) old new
  not_written at bytes = record {
    written = tt;
    smeared = subst (Smeared at (length bytes) old.seen) (sym same.seen) (all_stays at (length bytes) old.seen);
    crash = λ image left. (image, same.crash image left, all_stays at (length bytes) image);
  }

  pub not_cut : (len : ℕ) → Cuts len (Err fault) old new
  not_cut len = record {
    done = tt;
    smeared = subst (Cut len old.seen) (sym same.seen) (all_there len old.seen);
    crash = λ image left. (image, same.crash image left, all_there len image);
  }

module _ (log mid new : CallLog) (f f' : ℕ) where
  pub same_log : mid ≡ log → new ≡ idled mid → Same (log_state log f) (log_state new f')
  same_log same rests = subst (λ (l : CallLog). Same (log_state log f) (log_state l f')) (sym (rests ∙ ap idled same))
      (record { seen = refl; crash = λ image left. left })

module _ (log new : CallLog) (f f' : ℕ) where
  pub is_synced : new ≡ with_call (Synced log.idle) log → Syncs (Ok tt) (log_state log f) (log_state new f')
  is_synced is = subst (λ (p : CallLog). Syncs (Ok tt) (log_state log f) (log_state p f')) (sym is) (record {
    durable = λ image left. left;
    crash = λ image left. subst (IsImage log.base log.calls) (sym left) (reads log.base log.calls);
  })
