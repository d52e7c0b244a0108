-- The log of a disk in memory: the bytes that it began with, and its calls since then, the newest first.
use Rattle.std.specs.Prelude.{◌≡◌, ◌⊎◌, ℕ, ◌+◌, ◌-◌, ◌≤◌, Bool, true, false, List, [], ◌∷◌, ◌++◌, length, take, drop, replicate, count_by, refl}
use Rattle.std.proofs.Common.{inl, inr, ◌<◌, ◌∙◌, sym, ap, arith, append_assoc, length-append}
use Rattle.std.proofs.lemmas.Bool.{cases_lt}
use Rattle.std.proofs.lemmas.List.{append-nil, drop_at, drop_all, length-take, length-take-le, length-drop}
use Rattle.tape_disk.specs.Disk.{DiskCall, ReadAt, WriteAt, CutAt, SyncAll, DiskState, IsDisk, IsPrefixOf, Smeared, Cut, overwritten}

-- A call that changed the disk or made it safe, with the number of calls between the last such one and it that did
-- neither: reads, and calls that failed (own).
pub data LoggedCall : Type 0 where
  Wrote : (idle at : ℕ) (bytes : List ℕ) → LoggedCall
  CutTo : (idle len : ℕ) → LoggedCall
  Synced : (idle : ℕ) → LoggedCall

-- The calls of a disk in memory (own).
pub record CallLog : Type 0 where
  -- what was on the disk at first, all of it safe
  pub base : List ℕ
  -- the newest first
  pub calls : List LoggedCall
  -- the calls since then that changed nothing
  pub idle : ℕ

-- the calls before this one that changed nothing, since the last one that did (own)
abbrev pub idle_before : LoggedCall → ℕ
idle_before (Wrote idle at bytes) = idle
idle_before (CutTo idle len) = idle
idle_before (Synced idle) = idle

-- how many calls there were (own)
abbrev pub clock_of : List LoggedCall → ℕ
clock_of [] = 0
clock_of (call ∷ older) = clock_of older + idle_before call + 1

-- whether a call was a sync (own)
abbrev pub is_sync : LoggedCall → Bool
is_sync (Synced idle) = true
is_sync (Wrote idle at bytes) = false
is_sync (CutTo idle len) = false

-- how many syncs there were (own)
abbrev pub syncs_of : List LoggedCall → ℕ
syncs_of calls = count_by is_sync calls

-- how many bytes were written since the last sync (own)
abbrev pub unsynced_bytes : List LoggedCall → ℕ
unsynced_bytes [] = 0
unsynced_bytes (Wrote idle at bytes ∷ older) = unsynced_bytes older + length bytes
unsynced_bytes (CutTo idle len ∷ older) = unsynced_bytes older
unsynced_bytes (Synced idle ∷ older) = 0

-- the first n of the bytes, and the fill in place of the others (own)
abbrev pub landed : ℕ → ℕ → List ℕ → List ℕ
landed n fill bytes = take n bytes ++ replicate (length bytes - n) fill

module _ (base : List ℕ) where
  -- the bytes that reads return (own)
  abbrev pub bytes_after : List LoggedCall → List ℕ
  bytes_after [] = base
  bytes_after (Wrote idle at bytes ∷ older) = overwritten at bytes (bytes_after older)
  bytes_after (CutTo idle len ∷ older) = take len (bytes_after older)
  bytes_after (Synced idle ∷ older) = bytes_after older

  -- what a crash may leave now: what the disk model says of each call since the last sync (own)
  abbrev pub IsImage : List LoggedCall → List ℕ → Type 0
  IsImage [] image = image ≡ base
  IsImage (Wrote idle at bytes ∷ older) image =
      (before : List ℕ) × IsImage older before × Smeared at (length bytes) before image
  IsImage (CutTo idle len ∷ older) image = (before : List ℕ) × IsImage older before × Cut len before image
  IsImage (Synced idle ∷ older) image = image ≡ bytes_after older

  -- what a crash at moment t or later might have left: what it may leave now, or, where t is no later than the newest
  -- call, what it might have left before that (own)
  abbrev pub IsImageSince : List LoggedCall → ℕ → List ℕ → Type 0
  IsImageSince [] t image = IsImage [] image
  IsImageSince (call ∷ older) t image =
      IsImage (call ∷ older) image ⊎ ((t ≤ clock_of older + idle_before call) × IsImageSince older t image)

  -- one image that a crash may leave now: of the bytes written since the last sync the first `keep` landed, the others
  -- hold the fill, and each cut was carried out (own)
  abbrev pub torn : ℕ → ℕ → List LoggedCall → List ℕ
  torn keep fill [] = base
  torn keep fill (Wrote idle at bytes ∷ older) =
      overwritten at (landed (keep - unsynced_bytes older) fill bytes) (torn keep fill older)
  torn keep fill (CutTo idle len ∷ older) = take len (torn keep fill older)
  torn keep fill (Synced idle ∷ older) = bytes_after older

-- a disk that begins with these bytes (own)
abbrev pub new_log : List ℕ → CallLog
new_log bytes = record { base = bytes; calls = []; idle = 0 }

-- after a call that changed nothing (own)
abbrev pub idled : CallLog → CallLog
idled log = record log { idle = log.idle + 1 }

-- after a call that is logged (own)
abbrev pub with_call : LoggedCall → CallLog → CallLog
with_call call log = record log { calls = call ∷ log.calls; idle = 0 }

-- after a call with the result Ok: a read changed nothing, any other call is logged (own)
abbrev pub logged : DiskCall → CallLog → CallLog
logged (ReadAt at count) log = idled log
logged (WriteAt at bytes) log = with_call (Wrote log.idle at bytes) log
logged (CutAt len) log = with_call (CutTo log.idle len) log
logged SyncAll log = with_call (Synced log.idle) log

-- the disk of this log, which is always honest (own)
abbrev pub log_state : CallLog → ℕ → DiskState
log_state log failures = record {
  honest = Unit {0};
  seen = bytes_after log.base log.calls;
  may_leave = IsImage log.base log.calls;
  moment = clock_of log.calls + log.idle;
  left_since = IsImageSince log.base log.calls;
  failures = failures;
}

-- any bytes may be in the range of a write, these too
pub smears : (at : ℕ) (bytes old : List ℕ) → Smeared at (length bytes) old (overwritten at bytes old)
smears at bytes old = record {
  before = (bytes ++ drop (at + length bytes) old, append_assoc (take at old) bytes (drop (at + length bytes) old));
  after = elim (cases_lt (length old) at) [ inl past ↦ behind past | inr inside ↦ within inside ];
  no_shorter = omega (
    arith,
    length-take at old,
    length-append (take at old ++ bytes) (drop (at + length bytes) old),
    length-append (take at old) bytes,
    length-drop (at + length bytes) old,
  );
}
  where
    new : List ℕ
    new = overwritten at bytes old

    end : ℕ
    end = at + length bytes

    within : at ≤ length old → IsPrefixOf (drop end old) (drop end new)
    within inside =
        let size : length (take at old ++ bytes) ≡ end
        = omega (arith, length-append (take at old) bytes, length-take-le at old inside) in
        ([], drop_at (take at old ++ bytes) (drop end old) end size ∙ sym (append-nil (drop end old)))

    behind : length old < at → IsPrefixOf (drop end old) (drop end new)
    behind past = (
      drop end new,
      ap (λ (l : List ℕ). l ++ drop end new) (sym (drop_all end old (omega (arith, past)))),
    )

module _ (base : List ℕ) where
  -- the bytes that reads return are an image that a crash may leave
  pub reads : (calls : List LoggedCall) → IsImage base calls (bytes_after base calls)
  reads [] = refl
  reads (Wrote idle at bytes ∷ older) =
      (bytes_after base older, reads older, smears at bytes (bytes_after base older))
  reads (CutTo idle len ∷ older) =
      (bytes_after base older, reads older, ([], sym (append-nil (take len (bytes_after base older)))))
  reads (Synced idle ∷ older) = refl

  counts_now : (calls : List LoggedCall) (t : ℕ) (image : List ℕ) →
      IsImage base calls image → IsImageSince base calls t image
  counts_now [] t image now = now
  counts_now (call ∷ older) t image now = inl now

  only_now : (calls : List LoggedCall) (idle : ℕ) (image : List ℕ) →
      IsImageSince base calls (clock_of calls + idle) image → IsImage base calls image
  only_now [] since image left = left
  only_now (call ∷ older) since image (inl now) = now
  only_now (call ∷ older) since image (inr before) = absurd (omega (arith, before.0))

-- the laws of a disk
pub is_disk : (log : CallLog) (failures : ℕ) → IsDisk (log_state log failures)
is_disk log failures = record {
  reads = reads log.base log.calls;
  counts_now = λ t image le now. counts_now log.base log.calls t image now;
  only_now = only_now log.base log.calls log.idle;
}
