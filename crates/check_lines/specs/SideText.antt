-- What `vtl check` says of a side (own).
use Rattle.std.specs.Prelude.{◌≡◌, ◌≢◌, ◌⊎◌, ◌<◌, ℕ, List, [], ◌∷◌, ◌++◌, count_by, length, flat_map, codes, decimal}
use Rattle.std.specs.List.{All, range_with_len}
use Rattle.vtl_base.specs.Barcode.{IsBarcode}
use Rattle.volume_core.specs.Volume.{Part, objects_of, used_of}
use Rattle.tape_disk.specs.Disk.{DiskState, Only}
use Rattle.tape_disk.specs.TwoDisks.{AreHonest, Images, TwoDisks, failures_of}
use Rattle.gate_journal.specs.Answers.{NoneFailed}
use Rattle.gate_journal.specs.declared.header.SideKind.TheVariants.{Store}
use Rattle.gate_journal.specs.Side.{Heading, IsDamagedOf, padded}
use Rattle.pr_core.specs.declared.states.PrState.{PrState}
use Rattle.pr_core.specs.Sets.{nexuses}
use Rattle.pr_core.specs.States.{is_registered, power_loss}
use Rattle.cartridge.specs.Contents.{Contents, GivesContents, IsBadFrameAt, IsDamagedPairAt, IsNoCartridge, volume_made}
use Rattle.cartridge.specs.Disks.{NoneOfTwo, OnlyOfTwo}
use Rattle.aptpl_store.specs.Contents.{GivesStates, IsBadStateAt, IsNoStore, latest}
use Rattle.vtl_faults.specs.declared.faults.VtlFault.{VtlFault}
use Rattle.vtl_faults.specs.declared.faults.VtlFault.TheVariants.{Words, Config, Script, Frame, Device, NoMemory}

-- the line of a cartridge: its barcode, how many partitions and frames the side of it that counts has (own)
abbrev pub cartridge_line : List ℕ → ℕ → ℕ → List ℕ
cartridge_line barcode partitions frames =
    codes "cartridge " ++ barcode ++ codes " partitions " ++ decimal partitions ++ codes " frames " ++ decimal frames
    ++ 10 ∷ []

-- the line of a partition: its number, how many objects it has, what these take of its capacity (own)
abbrev pub partition_line : List Part → ℕ → List ℕ
partition_line volume number =
    codes "partition " ++ decimal number ++ codes " objects " ++ decimal (length (objects_of volume number))
    ++ codes " used " ++ decimal (used_of (objects_of volume number)) ++ 10 ∷ []

-- the lines of a volume's partitions, from partition 0 on (own)
abbrev pub partition_lines : List Part → List ℕ
partition_lines volume = flat_map (partition_line volume) (range_with_len 0 (length volume))

-- the lines of a pair that gives a cartridge's contents: that of the cartridge, and of each partition (own)
pub record PrintsContents (contents : Contents) (text : List ℕ) : Type 0 where
  pub barcode : List ℕ
  pub is_barcode : IsBarcode barcode
  pub named : contents.head.heading.name ≡ padded barcode
  pub lines :
      text ≡ cartridge_line barcode (length (volume_made contents)) (length contents.frames)
      ++ partition_lines (volume_made contents)

-- how many nexuses are registered (SPC-4, registrations)
unfoldable pub registrations_in : PrState → ℕ
registrations_in state = count_by (is_registered state) nexuses

-- the line of a store: its name, how many frames its side has, how many registrations a loss of power leaves (own)
abbrev pub store_line : List ℕ → ℕ → ℕ → List ℕ
store_line name frames registrations =
    codes "reservations " ++ name ++ codes " frames " ++ decimal frames ++ codes " registrations "
    ++ decimal registrations ++ 10 ∷ []

-- the line of a side that gives a store's states: its name without the spaces behind it, its frames, and who is
-- registered after a loss of power of the last state (own)
pub record PrintsStates (heading : Heading) (states : List PrState) (text : List ℕ) : Type 0 where
  pub name : List ℕ
  pub has_no_space : All (λ byte. byte ≢ 32) name
  pub named : heading.name ≡ padded name
  pub line : text ≡ store_line name (length states) (registrations_in (power_loss (latest states)))

-- the line of a pair that is no side: as a cartridge none of it counts, and the first image is no store (own)
abbrev pub not_a_side_line : List ℕ
not_a_side_line = codes "not a side" ++ 10 ∷ []

-- the line of a side whose first frame that is not whole has its gate at that place (own)
abbrev pub damaged_line : ℕ → List ℕ
damaged_line at = codes "damaged at " ++ decimal at ++ 10 ∷ []

-- the line of a side whose first frame that spells no changes, or ones that do not apply, has its gate at that place
-- (own)
abbrev pub bad_record_line : ℕ → List ℕ
bad_record_line at = codes "bad record at " ++ decimal at ++ 10 ∷ []

-- What `vtl check` prints of the images of two files. It is the lines of the cartridge whose contents they give, or
-- that of the store whose states the first one gives, whatever the second one is. Else it is one line. The line says
-- that they are no side; or it has the gate of the first frame that is not whole, of the side that counts or of the
-- store. Or it has the gate of the first frame that spells no changes that apply, on a store's side no state (own).
abbrev pub SideText : Images → List ℕ → Type 0
SideText images text =
    ((contents : Contents) × GivesContents contents images × PrintsContents contents text)
    ⊎ (((heading : Heading) × (states : List PrState) × GivesStates heading states images.0
    × PrintsStates heading states text)
    ⊎ ((IsNoCartridge images × IsNoStore images.0 × (text ≡ not_a_side_line))
    ⊎ (((at : ℕ) × (IsDamagedPairAt images at ⊎ IsDamagedOf Store images.0 at) × (text ≡ damaged_line at))
    ⊎ ((at : ℕ) × (IsBadFrameAt images at ⊎ IsBadStateAt images.0 at) × (text ≡ bad_record_line at)))))

-- why a store has no line: a call of its disk failed; or memory ran out, and none did, and what stands on
-- the disk is sure (own)
abbrev pub IsStoreNotShown : VtlFault → DiskState → DiskState → Type 0
IsStoreNotShown Device old new = old.failures < new.failures
IsStoreNotShown NoMemory old new = NoneFailed old new × (old.honest → Only old.seen new.may_leave)
IsStoreNotShown Words old new = ⊥
IsStoreNotShown Config old new = ⊥
IsStoreNotShown (Script line) old new = ⊥
IsStoreNotShown (Frame number) old new = ⊥

module _ {D : Type 0} (state : D → DiskState) where
  -- why two disks have no lines: a call of one of them failed; or memory ran out, and none did, and what
  -- stands on them is sure (own)
  abbrev pub IsNotShown : VtlFault → TwoDisks D → TwoDisks D → Type 0
  IsNotShown Device old new = failures_of state old < failures_of state new
  IsNotShown NoMemory old new = NoneOfTwo state old new × (AreHonest state old → OnlyOfTwo state old new)
  IsNotShown Words old new = ⊥
  IsNotShown Config old new = ⊥
  IsNotShown (Script line) old new = ⊥
  IsNotShown (Frame number) old new = ⊥
