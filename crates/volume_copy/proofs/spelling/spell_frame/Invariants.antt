use Rattle.std.proofs.Common.{◌≤◌, ◌+◌, ◌-◌, length}
use Rattle.std.specs.Prelude.{vec_capacity, vec_len}
use Rattle.vtl_base.specs.declared.limits.TheConstants.{COPY_BODY}
use Rattle.volume_copy.specs.Entries.{entries_from}
use Rattle.volume_copy.specs.Inner.SoFar.{HasSpelled}
use Rattle.volume_copy.proofs.spelling.spell_frame.Given as goal

abbrev pub invariant-loop-ahead : goal.invariant-loop-ahead
invariant-loop-ahead g l = record {
  room : vec_len l.buffer + (COPY_BODY - l.bytes) ≤ vec_capacity l.buffer;
  keeps : vec_capacity l.initial.buffer ≤ vec_capacity l.buffer;
  reads : g.R.ReadsBlocks.reads l.initial.reader l.reader;
  fits : l.bytes ≤ COPY_BODY;
  so_far :
      HasSpelled (g.R.ReadsBlocks.honest l.initial.reader) (g.R.ReadsBlocks.lies l.initial.reader)
      (entries_from l.index l.fn.start.part l.fn.start.at) (entries_from l.index l.cursor.part l.cursor.at)
      l.initial.buffer.items l.buffer.items l.bytes;
}

abbrev pub decreases-loop-ahead : goal.decreases-loop-ahead
decreases-loop-ahead g l = length (entries_from l.index l.cursor.part l.cursor.at)
