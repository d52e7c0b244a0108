-- A copy is written, and its gate opened.
use Rattle.std.proofs.Common.{◌≡◌, ◌⊎◌, inl, inr, ⊎_elim, ℕ, List, [], ◌∷◌, ◌++◌, ◌+◌, ◌<◌, ◌^◌, length, sym, ◌∙◌, ap, arith}
use Rattle.std.specs.Prelude.{Err, Ok, OnOk, Result, Some, drop, take}
use Rattle.std.specs.List.{flat_map}
use Rattle.std.proofs.lemmas.List.{append-nil}
use Rattle.std.proofs.lemmas.List.Elements.{All-weaker}
use Rattle.vtl_base.specs.declared.faults.DevFault.{DevFault}
use Rattle.tape_disk.specs.Disk.{DiskState, Each, IsDisk, Only}
use Rattle.tape_disk.specs.Moments.{LeavesOnly, holds_now, in_sequence, weakened}
use Rattle.gate_journal.specs.declared.header.Header.{Header}
use Rattle.gate_journal.specs.declared.heads.Copied.{Copied}
use Rattle.gate_journal.specs.Heads.{Head, epoch_of, spell_side_head}
use Rattle.gate_journal.specs.Side.{CLOSED, IsBody, OPEN, frame, heading_of}
use Rattle.cartridge_sides.specs.declared.which.Which.{Which}
use Rattle.cartridge_sides.specs.declared.which.Which.TheVariants.{First, Second}
use Rattle.cartridge_sides.specs.Copying.{GivesAll, IsCopyBody, IsWritten, said_of}
use Rattle.cartridge_sides.specs.Pairs.{begun}
use Rattle.cartridge_sides.specs.Passes.{HasStart, HasWritten, IsCopy, IsOpenSideOf, IsShutPair, SidesStandFor, TakesOver, copy_head, first_image, spell_copy}
use Rattle.side_reclaim.specs.Taking.{HasTaken, MayTake, WithOrWithoutCopy}
use Rattle.side_reclaim.proofs.PairedLemmas.{second_paired}

-- the head that is written is that of a copy with this head
said_is : (header : Header) (copied : Copied) (head : Head) (copies : List (List ℕ)) → heading_of header ≡ head.heading
    → copied.epoch ≡ epoch_of head + 1 → length copies ≡ copied.base → said_of header copied ≡ copy_head head copies
said_is header copied head copies heading epoch count =
    λ i. record { heading = heading i; copied = Some (record { epoch = epoch i; base = sym count i }) }

-- the ten bytes of a closed side come first
module _ (header : Header) (copied : Copied) (which : Which) (head : Head) (bodies : List (List ℕ)) (counts : List ℕ)
    (old mid : DiskState) (may : MayTake header copied which head bodies counts old) (copies : List (List ℕ))
    (written : IsWritten (said_of header copied) copies old mid) (honest : old.honest) where
  same_head : said_of header copied ≡ copy_head head copies
  same_head = said_is header copied head copies may.heading may.epoch written.count_is

  begins : take 10 old.seen ≡ begun may.closed.1.0 may.closed.0
  begins = ap (λ (l : List ℕ). take 10 l) may.closed.1.3

  -- the copy follows the ten bytes, and nothing else
  reads : mid.seen ≡ begun may.closed.1.0 may.closed.0 ++ spell_copy head copies
  reads =
      (written.written honest).0
      ∙ (λ i. begins i ++ (spell_side_head (same_head i) ++ (flat_map frame copies ++ CLOSED ∷ [])))

  pub has_start : HasStart mid.seen
  has_start = (may.closed.1.0, may.closed.0, spell_copy head copies, reads)

  pub has_written : HasWritten (spell_copy head copies) mid.seen
  has_written = (
    may.closed.1.0,
    may.closed.0,
    [],
    may.closed.1.2,
    reads
        ∙ ap (λ (l : List ℕ). begun may.closed.1.0 may.closed.0 ++ l) (sym (append-nil (spell_copy head copies))),
  )

  -- the same once the gate is open
  pub alone : (new : DiskState) → new.seen ≡ OPEN ∷ drop 1 mid.seen → Only new.seen new.may_leave
      → Each new (IsOpenSideOf (spell_copy head copies))
  alone new opened only = λ image left.
      (may.closed.0, only image left ∙ opened ∙ ap (λ (l : List ℕ). OPEN ∷ drop 1 l) reads)

  pub is_copy : copied.epoch < 2 ^ 64 → copied.base < 2 ^ 32 → IsCopy head copies
  is_copy epoch base = record {
    epoch = omega (arith, epoch, may.epoch);
    few = omega (arith, base, written.count_is);
    each =
        All-weaker IsCopyBody IsBody (λ body short. (short.0, omega (arith, short.1))) copies written.each;
  }

  still_paired : (w : Which) → SidesStandFor w head bodies counts mid.seen
      → (IsShutPair (first_image w counts old.seen) → ⊥) → IsShutPair (first_image w counts mid.seen) → ⊥
  still_paired First stands paired shut = paired shut
  still_paired Second stands paired shut = second_paired head bodies mid.seen counts stands shut

  pub mid_paired : SidesStandFor which head bodies counts mid.seen → IsShutPair (first_image which counts mid.seen) → ⊥
  mid_paired stands = still_paired which stands may.paired

  -- the bytes still stand for the same
  pub mid_stands : IsDisk mid → LeavesOnly old mid (SidesStandFor which head bodies counts)
      → SidesStandFor which head bodies counts mid.seen
  mid_stands disk leaves = holds_now old mid (SidesStandFor which head bodies counts) disk leaves mid.seen disk.reads

-- for a source of bodies
module _ {S : Type 0} (gives : S → List ℕ → S → Type 0) (base : ℕ) (source_old source_new : S) (which : Which)
    (head : Head) (bodies : List (List ℕ)) (counts : List ℕ) where
  -- a run in which no copy counts yet
  pub without : (old mid : DiskState) → LeavesOnly old mid (SidesStandFor which head bodies counts)
      → LeavesOnly old mid (WithOrWithoutCopy gives base source_old source_new which head bodies counts)
  without old mid run =
      weakened old mid (SidesStandFor which head bodies counts)
      (WithOrWithoutCopy gives base source_old source_new which head bodies counts) run (λ image stands. inl stands)

  -- and one after it, in which the copy's gate is opened
  pub with_copy : (old mid new : DiskState) (copies : List (List ℕ)) → GivesAll gives source_old copies source_new
      → length copies ≡ base → LeavesOnly old mid (SidesStandFor which head bodies counts)
      → LeavesOnly mid new
      (λ image. SidesStandFor which head bodies counts image ⊎ TakesOver which head copies counts image)
      → LeavesOnly old new (WithOrWithoutCopy gives base source_old source_new which head bodies counts)
  with_copy old mid new copies gave count run then_run =
      in_sequence old mid new (WithOrWithoutCopy gives base source_old source_new which head bodies counts)
      (without old mid run)
      (weakened mid new
      (λ image. SidesStandFor which head bodies counts image ⊎ TakesOver which head copies counts image)
      (WithOrWithoutCopy gives base source_old source_new which head bodies counts) then_run
      (λ image. ⊎_elim inl (λ takes. inr (copies, gave, count, takes))))

-- a copy was written, and its gate opened
pub taken : {S : Type 0} (gives : S → List ℕ → S → Type 0) (header : Header) (copied : Copied)
    (copies : List (List ℕ)) (source_old source_new : S) (old mid new : DiskState)
    → GivesAll gives source_old copies source_new → IsWritten (said_of header copied) copies old mid
    → (r : Result Unit DevFault) → OnOk r (new.failures ≡ mid.failures)
    → (old.honest → (which : Which) (head : Head) (bodies : List (List ℕ)) (counts : List ℕ)
    → MayTake header copied which head bodies counts old
    → OnOk r (Each new (TakesOver which head copies counts)))
    → (old.honest → (which : Which) (head : Head) (bodies : List (List ℕ)) (counts : List ℕ)
    → MayTake header copied which head bodies counts old
    → OnOk r (Each new (IsOpenSideOf (spell_copy head copies))))
    → OnOk r ((given : List (List ℕ)) × HasTaken gives header copied given source_old source_new old new)
taken gives header copied copies source_old source_new old mid new gave written (Ok done) none takes alone = (
  copies,
  record {
    gave = gave;
    count_is = written.count_is;
    none_failed = none ∙ written.none_failed;
    takes_over = takes;
    alone = alone;
  },
)
taken gives header copied copies source_old source_new old mid new gave written (Err fault) none takes alone = tt
