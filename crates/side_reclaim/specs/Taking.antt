-- A copy is written, and takes over.
use Rattle.std.specs.Prelude.{◌≡◌, ◌⊎◌, ◌+◌, ℕ, List, length}
use Rattle.tape_disk.specs.Disk.{DiskState, Each, Only}
use Rattle.gate_journal.specs.declared.header.Header.{Header}
use Rattle.gate_journal.specs.declared.heads.Copied.{Copied}
use Rattle.gate_journal.specs.Answers.{NoneFailed}
use Rattle.gate_journal.specs.Heads.{Head, epoch_of}
use Rattle.gate_journal.specs.Side.{heading_of}
use Rattle.cartridge_sides.specs.declared.which.Which.{Which}
use Rattle.cartridge_sides.specs.Copying.{GivesAll}
use Rattle.cartridge_sides.specs.Passes.{IsOpenSideOf, IsShutPair, ReadsClosed, SidesStandFor, TakesOver, first_image, spell_copy}

-- With this image of the side that counts, the spare may take a copy, with its heading and the next epoch: the spare's
-- gate is closed, the pair gate is open, and that is sure (own).
pub record MayTake (header : Header) (copied : Copied) (which : Which) (head : Head) (bodies : List (List ℕ))
    (counts : List ℕ) (spare : DiskState) : Type 0 where
  pub heading : heading_of header ≡ head.heading
  pub epoch : copied.epoch ≡ epoch_of head + 1
  pub stands : SidesStandFor which head bodies counts spare.seen
  pub paired : IsShutPair (first_image which counts spare.seen) → ⊥
  pub closed : ReadsClosed spare.seen
  pub sure : Only spare.seen spare.may_leave

-- for a source of bodies
module _ {S : Type 0} (gives : S → List ℕ → S → Type 0) where
  -- the source gave a copy with as many bodies as its base, and the copy counts (own)
  abbrev pub TakesGiven : ℕ → S → S → Which → Head → List ℕ → List ℕ → Type 0
  TakesGiven base source_old source_new which head counts image =
      (copies : List (List ℕ)) × GivesAll gives source_old copies source_new × (length copies ≡ base)
      × TakesOver which head copies counts image

  -- the source gave a copy with as many bodies as its base, and the copy counts from now on (own)
  pub record HasTaken (header : Header) (copied : Copied) (copies : List (List ℕ)) (source_old source_new : S)
      (old new : DiskState) : Type 0 where
    pub gave : GivesAll gives source_old copies source_new
    pub count_is : length copies ≡ copied.base
    pub none_failed : NoneFailed old new
    pub takes_over : old.honest → (which : Which) (head : Head) (bodies : List (List ℕ)) (counts : List ℕ)
        → MayTake header copied which head bodies counts old → Each new (TakesOver which head copies counts)
    -- the spare is open, with the copy from place 10 on and nothing after it
    pub alone : old.honest → (which : Which) (head : Head) (bodies : List (List ℕ)) (counts : List ℕ)
        → MayTake header copied which head bodies counts old → Each new (IsOpenSideOf (spell_copy head copies))

  -- the pair stands for the same as before, or for the copy that the source gave (own)
  abbrev pub WithOrWithoutCopy : ℕ → S → S → Which → Head → List (List ℕ) → List ℕ → List ℕ → Type 0
  WithOrWithoutCopy base source_old source_new which head bodies counts image =
      SidesStandFor which head bodies counts image ⊎ TakesGiven base source_old source_new which head counts image
