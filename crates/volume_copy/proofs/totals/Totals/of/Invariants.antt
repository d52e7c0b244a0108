use Rattle.std.proofs.Common.{◌≡◌, ◌≤◌, ◌+◌, ◌*◌, length}
use Rattle.std.specs.Prelude.{sum_by}
use Rattle.std.specs.List.{All}
use Rattle.vtl_base.specs.declared.limits.TheConstants.{MAX_CAPACITY, MAX_OBJECTS, MAX_PARTITIONS}
use Rattle.vtl_base.specs.declared.limits.TheConstants.{COPY_BODY}
use Rattle.volume_copy.specs.Entries.{entries_from, entries_in, entry_size}
use Rattle.volume_copy.specs.FrameFacts.{more_frames}
use Rattle.volume_copy.specs.SizeFacts.{FitsFrame}
use Rattle.volume_copy.proofs.totals.Totals.of.Given as goal

abbrev pub invariant-loop-ahead : goal.invariant-loop-ahead
invariant-loop-ahead l =
    let rest = entries_from l.index l.cursor.part l.cursor.at in
    record {
      frames :
          l.packed.frames + more_frames entry_size l.packed.last rest
          ≡ more_frames entry_size COPY_BODY (entries_in l.index);
      bytes : l.packed.bytes + sum_by entry_size rest ≡ sum_by entry_size (entries_in l.index);
      last : l.packed.last ≤ COPY_BODY;
      fit : All FitsFrame rest;
      few : length (entries_in l.index) ≤ MAX_OBJECTS * MAX_PARTITIONS;
      bound : sum_by entry_size (entries_in l.index) ≤ MAX_CAPACITY * MAX_PARTITIONS;
    }

abbrev pub decreases-loop-ahead : goal.decreases-loop-ahead
decreases-loop-ahead l = length (entries_from l.index l.cursor.part l.cursor.at)
