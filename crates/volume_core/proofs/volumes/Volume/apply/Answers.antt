use Rattle.std.proofs.Common.{◌≡◌, ◌<◌, ◌∙◌, arith, rules, length, slice_get, None, Some, sym, vec_len}
use Rattle.std.proofs.lemmas.Option.{slice_get_read}
use Rattle.volume_core.specs.Volume.{part_of, refusal_of}
use Rattle.volume_core.proofs.VolumeLemmas.{changed_at, inside_of, set_same}
use Rattle.volume_core.proofs.volumes.Volume.apply.Goals as goal
use Rattle.volume_core.proofs.volumes.Volume.apply.Goals.{in-Ok, in-Err}

-- the volume answers what its partition does
pub returns-clause-answer : goal.returns-clause-answer
returns-clause-answer c =
    let partitions = c.self.inside.partitions in
    let change = c.args.change in
    let partition = c.index_mut-partition.result.now in
    let none : refusal_of partitions.items change ≡ None =
    rw (← c.self.view_is) at (sym c.refusal.ensures ∙ c.in_default.is) in
    let len : vec_len partitions ≡ length partitions.items = search rules in
    let within : c.part.result < vec_len partitions =
    omega (arith, len, c.part.ensures, inside_of partitions.items change none) in
    let read : slice_get partitions.items c.part.result ≡ Some partition =
    slice_get_read _ _ _ _ len within c.index_mut-partition.ensures.value in
    let here = rw c.part.ensures at read in
    rw (← c.self.view_is, c.part.ensures) (elim c.match-apply.branch [
      | in-Ok w ↦
          rw w.result-is
          (none, changed_at partitions.items change partition c.apply.new.self here w.in-Ok.ensures.ok)
      | in-Err w ↦
          rw w.result-is
          (none, set_same partitions.items (part_of change) partition c.apply.new.self here w.in-Err.ensures.err.1)
    ])
