-- How much may be accepted without memory and without the device.
use Rattle.std.specs.Prelude.{◌≤◌, ◌-◌, List, length, sum_by}
use Rattle.volume_core.specs.declared.changes.Change.{Change}
use Rattle.volume_core.specs.Medium.{block_bytes, frame_size}
use Rattle.tape_buffer.specs.declared.budgets.Budget.{Budget}

-- these changes are no more records, with no more bytes of blocks, and take no more of the side, each as a frame of its
-- own (own)
pub record KeepsBudget (budget : Budget) (changes : List Change) : Type 0 where
  pub records : length changes ≤ budget.records
  pub bytes : sum_by block_bytes changes ≤ budget.bytes
  pub room : sum_by frame_size changes ≤ budget.room

-- what is left of a budget once these changes were taken (own)
abbrev pub budget_after : Budget → List Change → Budget
budget_after budget changes = record {
  records = budget.records - length changes;
  bytes = budget.bytes - sum_by block_bytes changes;
  room = budget.room - sum_by frame_size changes;
}
