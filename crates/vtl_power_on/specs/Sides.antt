-- Where the sides of a library come from: from files, or made in memory (own).
use Rattle.std.specs.Prelude.{◌≡◌, ◌⊎◌, ℕ, Bool, [], true, false, List, None, Result, Ok, Err}
use Rattle.tape_disk.specs.CallLog.{log_state}
use Rattle.tape_disk.specs.Disk.{DiskState, Keeps, Only}
use Rattle.tape_disk.specs.Moments.{LeavesOnly}
use Rattle.tape_disk.specs.MemDisk.{mem_failures, mem_log}
use Rattle.tape_disk.specs.declared.memory.MemDisk.{MemDisk}
use Rattle.file_disk.specs.declared.error.FileError.{FileError}
use Rattle.gate_journal.specs.Answers.{NoneFailed}
use Rattle.cartridge_sides.specs.declared.which.Which.TheVariants.{First}
use Rattle.cartridge.specs.Contents.{contents_from, heading_with, plain_head}
use Rattle.cartridge.specs.State.{ClosedCartridge}
use Rattle.tape_buffer.specs.State.{BufferState, closed_buffer}
use Rattle.aptpl_store.specs.Answers.{IsStoreNotOpened}
use Rattle.aptpl_store.specs.Contents.{GivesStates, heading_for}
use Rattle.aptpl_store.specs.State.{OpenStore}
use Rattle.aptpl_store.specs.declared.error.StoreError.{StoreError}
use Rattle.vtl_config.specs.declared.entries.CartridgeEntry.{CartridgeEntry}
use Rattle.vtl_config.specs.declared.entries.DriveEntry.{DriveEntry}
use Rattle.vtl_faults.specs.FromBelow.{fault_of_store}
use Rattle.vtl_files.specs.Opened.{AreNotOpened}
use Rattle.vtl_faults.specs.declared.faults.VtlFault.{VtlFault}
use Rattle.vtl_faults.specs.declared.faults.VtlFault.TheVariants.{Device, NoMemory}

-- what the sides of a library are, entry by entry, and why one is not given (own)
pub record SidesGiven (D : Type 0) : Type 1 where
  pub gives_cartridge : CartridgeEntry → BufferState D → Type 0
  pub refuses_cartridge : CartridgeEntry → VtlFault → Type 0
  pub gives_store : DriveEntry → OpenStore D → Type 0
  pub refuses_store : DriveEntry → VtlFault → Type 0

module _ {D : Type 0} where
  -- a cartridge that was just made, closed: it has this barcode and these capacities, and no object (own)
  pub record IsNewCartridge (barcode capacities : List ℕ) (cartridge : BufferState D) : Type 0 where
    pub shelved : ClosedCartridge D
    pub closed : cartridge ≡ closed_buffer shelved
    pub known : shelved.known ≡ true
    pub torn : shelved.torn ≡ []
    pub contents : shelved.contents ≡ contents_from First (plain_head (heading_with barcode capacities)) []

  -- a closed cartridge over these two disks, as they were opened: no call of them was made since, and nothing is known
  -- of what they give (own)
  pub record IsUnreadOver (first second : D) (cartridge : BufferState D) : Type 0 where
    pub shelved : ClosedCartridge D
    pub closed : cartridge ≡ closed_buffer shelved
    pub unread : shelved.known ≡ false
    pub same : shelved.disks ≡ record { first = first; second = second }

  -- a store of a drive that works, with no save in flight (own)
  abbrev pub IsFoundStore : OpenStore D → Type 0
  IsFoundStore store = (store.torn ≡ None) × (store.failed ≡ false)

  -- the store of the drive with this number that was just made: nothing was saved (own)
  pub record IsNewStore (number : ℕ) (store : OpenStore D) : Type 0 where
    pub heading : store.heading ≡ heading_for number
    pub states : store.states ≡ []
    pub works : IsFoundStore store

  module _ (state : D → DiskState) where
    -- the store that was found on a disk: it works, and its states are those that the disk's bytes give; no call
    -- failed, the bytes are sure, and at no moment a crash left anything new (own)
    pub record IsStoreOn (disk : D) (store : OpenStore D) : Type 0 where
      pub works : IsFoundStore store
      pub keeps : Keeps (state disk) (state store.disk)
      pub none_failed : NoneFailed (state disk) (state store.disk)
      pub gives : (state disk).honest → GivesStates store.heading store.states (state disk).seen
      pub sure : (state disk).honest → Only (state disk).seen (state store.disk).may_leave
      pub any_moment : (state disk).honest → LeavesOnly (state disk) (state store.disk) (state disk).may_leave

    -- A disk gives no store, for this fault, and `last` is its last state: a call of it failed, it holds no store, or
    -- memory ran out. Without a failed call a read gives the same bytes as before. At no moment since the disk was
    -- opened did a crash leave anything new (own).
    pub record IsNoStoreOn (disk last : D) (fault : VtlFault) : Type 0 where
      pub error : StoreError
      pub printed : fault ≡ fault_of_store error
      pub cause : IsStoreNotOpened error (state disk) (state last)
      pub keeps : Keeps (state disk) (state last)
      pub same : (state disk).honest → NoneFailed (state disk) (state last)
          → (state last).seen ≡ (state disk).seen
      pub any_moment : (state disk).honest → LeavesOnly (state disk) (state last) (state disk).may_leave

    module _ (pairs : List ℕ → Result Bool FileError → Type 0) (opens : List ℕ → Result D FileError → Type 0)
        (opens_second : Bool → List ℕ → Result D FileError → Type 0) (returns_disk : List ℕ → D → Type 0) where
      -- The sides that files hold, by what an opening of a file may answer and which disks may be returned. A
      -- cartridge's are the disks that the openings of its entry's two files gave, as they were opened, the second one
      -- as the first one's pair gate says; a drive's is a store that was found on such a disk. Or a file was not
      -- opened, or the disk gives no store, and it was returned for this file (own).
      abbrev pub file_sides : SidesGiven D
      file_sides = record {
        gives_cartridge = λ entry cartridge.
            (first second : D) × opens entry.file (Ok first)
            × ((paired : Bool) × pairs entry.file (Ok paired) × opens_second paired entry.second_file (Ok second))
            × IsUnreadOver first second cartridge;
        refuses_cartridge = λ entry fault.
            AreNotOpened opens pairs opens_second returns_disk entry.file entry.second_file fault;
        gives_store = λ entry store.
            (disk : D) × opens entry.reservations (Ok disk) × IsStoreOn disk store;
        refuses_store = λ entry fault.
            ((fault ≡ Device) × ((error : FileError) × opens entry.reservations (Err error)))
            ⊎ ((disk : D) × opens entry.reservations (Ok disk)
            × ((last : D) × returns_disk entry.reservations last × IsNoStoreOn disk last fault));
      }

-- new sides, made as their entries say: only memory may run out (own)
abbrev pub new_sides : SidesGiven MemDisk
new_sides = record {
  gives_cartridge = λ entry cartridge. IsNewCartridge entry.barcode entry.capacities cartridge;
  refuses_cartridge = λ entry fault. fault ≡ NoMemory;
  gives_store = λ entry store. IsNewStore entry.number store;
  refuses_store = λ entry fault. fault ≡ NoMemory;
}

-- of a library in memory nothing is known once it was taken back: it is gone (own)
abbrev pub takes_any : {L : Type 0} → L → Type 0
takes_any library = Unit {0}

-- the state of a disk in memory (own)
abbrev pub memory_state : MemDisk → DiskState
memory_state disk = log_state (mem_log disk) (mem_failures disk)
