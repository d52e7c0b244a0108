-- Runs of a disk in which it is only read, or only read and synced.
use Rattle.std.specs.Prelude.{◌≡◌, ◌≤◌, ◌⊎◌, ℕ, zero, suc, Result}
use Rattle.std.proofs.Common.{refl, subst, sym, inl, inr}
use Rattle.vtl_base.specs.declared.faults.DevFault.{DevFault}
use Rattle.tape_disk.specs.Disk.{DiskCall, ReadAt, SyncAll}

module _ {D : Type 0} (effect : DiskCall → Result Unit DevFault → D → D → Type 0) where
  -- one read, with the effect that the disk states (own)
  abbrev pub ReadsOnce : ℕ → ℕ → D → D → Type 0
  ReadsOnce at count old new = (result : Result Unit DevFault) × effect (ReadAt at count) result old new

  -- a number of reads of at most 65,536 bytes, one after another (own)
  abbrev pub ReadsInRow : ℕ → D → D → Type 0
  ReadsInRow zero old new = new ≡ old
  ReadsInRow (suc calls) old new =
      (mid : D) × (at : ℕ) × (count : ℕ) × ReadsInRow calls old mid × (count ≤ 65536) × ReadsOnce at count mid new

  -- From old to new only reads were called, each of at most 65,536 bytes (own).
  pub record OnlyReads (old new : D) : Type 0 where
    pub calls : ℕ
    pub reads : ReadsInRow calls old new

  -- no call at all
  pub reads_none : (disk : D) → OnlyReads disk disk
  reads_none disk = record { calls = zero; reads = refl }

  -- one read
  pub reads_one : (at count : ℕ) (old new : D) → count ≤ 65536 → ReadsOnce at count old new → OnlyReads old new
  reads_one at count old new short did = record { calls = suc zero; reads = (old, at, count, refl, short, did) }

  -- reads after reads
  pub reads_then : (old mid new : D) → OnlyReads old mid → OnlyReads mid new → OnlyReads old new
  reads_then old mid new first second = by second.calls new second.reads
    where
      by : (calls : ℕ) (last : D) → ReadsInRow calls mid last → OnlyReads old last
      by zero last same = subst (λ (d : D). OnlyReads old d) (sym same) first
      by (suc calls) last more =
          let so_far = by calls more.0 more.3 in
          record { calls = suc so_far.calls; reads = (more.0, more.1, more.2, so_far.reads, more.4, more.5) }

  -- one sync, with the effect that the disk states (own)
  abbrev pub SyncsOnce : D → D → Type 0
  SyncsOnce old new = (result : Result Unit DevFault) × effect SyncAll result old new

  -- a number of syncs and reads, one after another (own)
  abbrev pub OpeningsInRow : ℕ → D → D → Type 0
  OpeningsInRow zero old new = new ≡ old
  OpeningsInRow (suc calls) old new =
      (mid : D) × OpeningsInRow calls old mid × (SyncsOnce mid new ⊎ OnlyReads mid new)

  -- From old to new only syncs were called, and reads of at most 65,536 bytes (own).
  pub record OnlyOpenings (old new : D) : Type 0 where
    pub calls : ℕ
    pub opens : OpeningsInRow calls old new

  -- no call at all
  pub opens_none : (disk : D) → OnlyOpenings disk disk
  opens_none disk = record { calls = zero; opens = refl }

  -- one sync
  pub opens_sync : (old new : D) → SyncsOnce old new → OnlyOpenings old new
  opens_sync old new did = record { calls = suc zero; opens = (old, refl, inl did) }

  -- reads alone
  pub opens_reads : (old new : D) → OnlyReads old new → OnlyOpenings old new
  opens_reads old new did = record { calls = suc zero; opens = (old, refl, inr did) }

  -- such calls after others
  pub opens_then : (old mid new : D) → OnlyOpenings old mid → OnlyOpenings mid new → OnlyOpenings old new
  opens_then old mid new first second = by second.calls new second.opens
    where
      by : (calls : ℕ) (last : D) → OpeningsInRow calls mid last → OnlyOpenings old last
      by zero last same = subst (λ (d : D). OnlyOpenings old d) (sym same) first
      by (suc calls) last more =
          let so_far = by calls more.0 more.1 in
          record { calls = suc so_far.calls; opens = (more.0, so_far.opens, more.2) }

  -- The first call of the disk was a sync, and after it came only syncs, and reads of at most 65,536 bytes (own).
  pub record SyncsFirst (old new : D) : Type 0 where
    pub synced : D
    pub sync : SyncsOnce old synced
    pub rest : OnlyOpenings synced new

  -- such calls after a beginning with a sync
  pub begins_then : (old mid new : D) → SyncsFirst old mid → OnlyOpenings mid new → SyncsFirst old new
  begins_then old mid new first more = record {
    synced = first.synced;
    sync = first.sync;
    rest = opens_then first.synced mid new first.rest more;
  }

  -- with the sync, only syncs were called, and such reads
  pub opens_begun : (old new : D) → SyncsFirst old new → OnlyOpenings old new
  opens_begun old new did = opens_then old did.synced new (opens_sync old did.synced did.sync) did.rest
