-- What a pair of images of a cartridge's two disks stands for.
use Rattle.std.specs.Prelude.{◌≡◌, ◌≢◌, ◌⊎◌, ◌<◌, ◌≤◌, ◌+◌, ℕ, List, ◌∷◌, ◌++◌, length, None}
use Rattle.std.specs.List.{All, flat_map}
use Rattle.vtl_base.specs.declared.layout.TheConstants.{BEGUN_BYTES}
use Rattle.gate_journal.specs.declared.header.SideKind.TheVariants.{Cartridge}
use Rattle.gate_journal.specs.Heads.{Head, IsHead, base_of, epoch_of, spell_side_head}
use Rattle.gate_journal.specs.Side.{OPEN, IsBody, IsBroken, frame, start}
pub use Rattle.gate_journal.specs.Side.{LacksFrames}
use Rattle.cartridge_sides.specs.declared.which.Which.{Which}
use Rattle.cartridge_sides.specs.declared.which.Which.TheVariants.{First, Second}

-- the ten bytes at the start of a cartridge's side: its gate, its mark, its pair gate (own)
abbrev pub begun : ℕ → ℕ → List ℕ
begun side pair = start side Cartridge pair

-- a head that a cartridge's side may have (own)
pub record IsOfCartridge (head : Head) : Type 0 where
  pub kind : head.heading.kind ≡ Cartridge
  pub spelled : IsHead head

-- The image is an open side with this pair gate and this head, followed by the rest (own).
pub record IsOpenSide (pair : ℕ) (head : Head) (rest image : List ℕ) : Type 0 where
  pub head_is : IsOfCartridge head
  pub image_is : image ≡ begun OPEN pair ++ (spell_side_head head ++ rest)

-- the image begins as a closed side with this pair gate; it needs no head (own)
abbrev pub IsClosedSide : ℕ → List ℕ → Type 0
IsClosedSide pair image =
    (gate : ℕ) × (rest : List ℕ) × (gate ≢ OPEN) × (image ≡ begun gate pair ++ rest)

-- the image does not count beside a side of this epoch: it is closed, or open with a lesser epoch (own)
abbrev pub YieldsTo : ℕ → ℕ → List ℕ → Type 0
YieldsTo epoch pair image =
    IsClosedSide pair image
    ⊎ ((head : Head) × (rest : List ℕ) × IsOpenSide pair head rest image × (epoch_of head < epoch))

-- Where the first image's pair gate is closed, that image is read alone, and only if it is no copy. Where the gate is
-- open, the second image must yield to the first, with a closed pair gate of its own (own).
abbrev pub StandsBeside : ℕ → Head → List ℕ → Type 0
StandsBeside pair head second =
    ((pair ≢ OPEN) × (head.copied ≡ None))
    ⊎ ((pair ≡ OPEN) × ((other : ℕ) × (other ≢ OPEN) × YieldsTo (epoch_of head) other second))

-- That side of the pair counts, with this head, which the rest follows. The second image counts only where the pair
-- gate of the first is open, its own is closed, and the first yields to it (own).
abbrev pub SideCounts : Which → Head → List ℕ → List ℕ → List ℕ → Type 0
SideCounts First head rest first second =
    (pair : ℕ) × IsOpenSide pair head rest first × StandsBeside pair head second
SideCounts Second head rest first second =
    (pair : ℕ) × (pair ≢ OPEN) × IsOpenSide pair head rest second × YieldsTo (epoch_of head) OPEN first

-- no side of the pair counts (own)
abbrev pub IsNoPair : List ℕ → List ℕ → Type 0
IsNoPair first second =
    (which : Which) (head : Head) (rest : List ℕ) → SideCounts which head rest first second → ⊥

-- these frames can be spelled, and are at least as many as the base (own)
pub record AreFrames (head : Head) (bodies : List (List ℕ)) : Type 0 where
  pub each : All IsBody bodies
  pub base : base_of head ≤ length bodies

-- The pair stands for this head and these frames: those of the side that counts, up to a closed gate (own).
abbrev pub PairStandsFor : Which → Head → List (List ℕ) → List ℕ → List ℕ → Type 0
PairStandsFor which head bodies first second =
    AreFrames head bodies
    × ((gate : ℕ) × (more : List ℕ) × (gate ≢ OPEN)
    × SideCounts which head (flat_map frame bodies ++ gate ∷ more) first second)

-- the place of the gate after these frames (own)
abbrev pub gate_behind : Head → List (List ℕ) → ℕ
gate_behind head bodies = BEGUN_BYTES + length (spell_side_head head ++ flat_map frame bodies)

-- The side that counts has these whole frames. What follows them, from that gate on, is broken, or is a closed gate
-- that comes too early. The place is one of the side that counts (own).
abbrev pub IsPairDamagedAt : List ℕ → List ℕ → ℕ → Type 0
IsPairDamagedAt first second at =
    (which : Which) × (head : Head) × (bodies : List (List ℕ)) × (behind : List ℕ) × All IsBody bodies
    × SideCounts which head (flat_map frame bodies ++ behind) first second × (at ≡ gate_behind head bodies)
    × (IsBroken bodies behind ⊎ LacksFrames head bodies behind)

-- the pair stands for a head and frames, is not ours, or is damaged (own)
abbrev pub IsDecidedPair : List ℕ → List ℕ → Type 0
IsDecidedPair first second =
    ((which : Which) × (head : Head) × (bodies : List (List ℕ)) × PairStandsFor which head bodies first second)
    ⊎ (IsNoPair first second ⊎ ((at : ℕ) × IsPairDamagedAt first second at))
