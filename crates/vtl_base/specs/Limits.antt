-- The limits of the library, in numbers.
use Rattle.std.specs.Prelude.{◌≡◌, ℕ, Bool, nat_le, ◌&&◌}
use Rattle.vtl_base.specs.declared.limits.TheConstants.{MAX_PARTITIONS, MIN_CAPACITY, MAX_CAPACITY, MAX_BLOCK, OBJECT_COST, MAX_OBJECTS, MAX_SIDE, MAX_BODY, COPY_BODY, BUFFER_RECORDS, BUFFER_BYTES, RING_RECORDS, RESERVED_SAVES, DRIVES, SLOTS, FIRST_SLOT, NEXUSES, MAX_BARCODE, SCRIPT_BYTES, SCRIPT_READS, LINE_BYTES}

-- a capacity is 4,096 to 1,099,511,627,776 bytes (own)
abbrev pub is_capacity : ℕ → Bool
is_capacity bytes = nat_le MIN_CAPACITY bytes && nat_le bytes MAX_CAPACITY

-- each limit of the library as a number (own)
pub record LimitsInNumbers : Type 0 where
  pub partitions : MAX_PARTITIONS ≡ 4
  pub least_capacity : MIN_CAPACITY ≡ 4_096
  pub greatest_capacity : MAX_CAPACITY ≡ 1_099_511_627_776
  pub block_bytes : MAX_BLOCK ≡ 1_048_576
  pub object_cost : OBJECT_COST ≡ 16
  pub objects : MAX_OBJECTS ≡ 16_000_000
  pub side_bytes : MAX_SIDE ≡ 1_099_511_627_776
  pub body_bytes : MAX_BODY ≡ 8_388_608
  pub copy_body_bytes : COPY_BODY ≡ 4_194_304
  pub buffer_records : BUFFER_RECORDS ≡ 256
  pub buffer_bytes : BUFFER_BYTES ≡ 4_194_304
  pub ring_records : RING_RECORDS ≡ 256
  pub reserved_saves : RESERVED_SAVES ≡ 256
  pub drives : DRIVES ≡ 16
  pub slots : SLOTS ≡ 256
  pub first_slot : FIRST_SLOT ≡ 1_001
  pub nexuses : NEXUSES ≡ 64
  pub barcode_bytes : MAX_BARCODE ≡ 16
  pub script_bytes : SCRIPT_BYTES ≡ 2_147_483_648
  pub script_reads : SCRIPT_READS ≡ 4_294_967_296
  pub line_bytes : LINE_BYTES ≡ 2_200_000
