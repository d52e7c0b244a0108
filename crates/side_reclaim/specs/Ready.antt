-- Two disks that are made ready for a copy.
use Rattle.std.specs.Prelude.{◌≡◌, ℕ, List, drop}
use Rattle.vtl_base.specs.declared.layout.TheConstants.{BEGUN_BYTES}
use Rattle.tape_disk.specs.Disk.{DiskState, Only}
use Rattle.tape_disk.specs.TwoDisks.{Images, TwoDisks, seen_of_two}
use Rattle.gate_journal.specs.Heads.{Head}
use Rattle.cartridge_sides.specs.declared.which.Which.{Which}
use Rattle.cartridge_sides.specs.declared.which.Which.TheVariants.{First, Second}
use Rattle.cartridge_sides.specs.Pairs.{PairStandsFor}
use Rattle.cartridge_sides.specs.Passes.{IsPrepared, IsShutPair, ReadsClosed}

-- the pair of images stands for this side, this head and these frames (own)
abbrev pub GivesSide : Which → Head → List (List ℕ) → Images → Type 0
GivesSide which head bodies images = PairStandsFor which head bodies images.0 images.1

-- the image of the side that counts (own)
abbrev pub counting : Which → Images → List ℕ
counting First images = images.0
counting Second images = images.1

-- the image of the other side (own)
abbrev pub resting : Which → Images → List ℕ
resting First images = images.1
resting Second images = images.0

module _ {D : Type 0} (state : D → DiskState) where
  -- the bytes of the disks stand for this side, this head and these frames, and are sure (own)
  pub record GivesSurely (disks : TwoDisks D) (which : Which) (head : Head) (bodies : List (List ℕ)) : Type 0 where
    pub stands : GivesSide which head bodies (seen_of_two state disks)
    pub first : Only (state disks.first).seen (state disks.first).may_leave
    pub second : Only (state disks.second).seen (state disks.second).may_leave

  -- the disks still give the side surely, and all bytes after the first ten of the side that counts stay (own)
  pub record StillGives (old new : TwoDisks D) (which : Which) (head : Head) (bodies : List (List ℕ)) : Type 0 where
    pub gives : GivesSurely new which head bodies
    pub same : drop BEGUN_BYTES (counting which (seen_of_two state new))
        ≡ drop BEGUN_BYTES (counting which (seen_of_two state old))

  -- where the first disk's pair gate is closed, the second disk is prepared (own)
  abbrev pub IsPreparedIfShut : TwoDisks D → Type 0
  IsPreparedIfShut disks = IsShutPair (state disks.first).seen → IsPrepared (state disks.second).seen

  -- the first disk's pair gate is open (own)
  abbrev pub IsPaired : TwoDisks D → Type 0
  IsPaired disks = IsShutPair (state disks.first).seen → ⊥

  -- a copy may be written: the pair gate is open, and the gate of the side that does not count is closed (own)
  pub record IsReady (disks : TwoDisks D) (which : Which) : Type 0 where
    pub paired : IsPaired disks
    pub closed : ReadsClosed (resting which (seen_of_two state disks))
