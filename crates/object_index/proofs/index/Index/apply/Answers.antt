use Rattle.std.proofs.Common.{◌≡◌, ◌<◌, ◌∙◌, length, arith, rules, sym, None, Some, vec_len}
use Rattle.std.specs.Prelude.{slice_get}
use Rattle.std.proofs.lemmas.Option.{slice_get_read}
use Rattle.volume_core.specs.Volume.{refusal_of}
use Rattle.change_records.specs.Records as records
use Rattle.change_records.specs.Records.{outlined}
use Rattle.object_index.specs.Places.{outline}
use Rattle.object_index.proofs.ChangedIndex.{after_here, inside_of, limits_set, refusal_here, reserved_here, reserved_set, set_same}
use Rattle.object_index.proofs.index.Index.apply.Goals as goal
use Rattle.object_index.proofs.index.Index.apply.Goals.{in-Ok, in-Err}

pub apply-requires-clause-fits : goal.apply-requires-clause-fits
apply-requires-clause-fits c =
    let parts = c.self.inside.partitions in
    let part = c.index_mut-partition.result.now in
    let item = c.args.item in
    let none : refusal_of (outline parts.items) (outlined item) ≡ None =
    rw (← c.self.view_is) at (sym c.refusal.ensures ∙ c.in_default.is) in
    let len : vec_len parts ≡ length parts.items = search rules in
    let within : c.part.result < vec_len parts = omega (arith, len, c.part.ensures, inside_of parts.items item none) in
    let here = rw c.part.ensures at (slice_get_read parts.items (vec_len parts) c.part.result part len within
    c.index_mut-partition.ensures.value) in
    sym (refusal_here parts.items item c.args.place part part here) ∙ none

pub invariant_of-self : goal.invariant_of-self
invariant_of-self c =
    limits_set c.self.inside.partitions.items c.part.result c.apply.new.self c.self.invariant
    c.apply.ensures.limits

pub returns-clause-answer : goal.returns-clause-answer
returns-clause-answer c =
    let parts = c.self.inside.partitions in
    let part = c.index_mut-partition.result.now in
    let item = c.args.item in
    let none : refusal_of (outline parts.items) (outlined item) ≡ None =
    rw (← c.self.view_is) at (sym c.refusal.ensures ∙ c.in_default.is) in
    let len : vec_len parts ≡ length parts.items = search rules in
    let within : c.part.result < vec_len parts = omega (arith, len, c.part.ensures, inside_of parts.items item none) in
    let here = rw c.part.ensures at (slice_get_read parts.items (vec_len parts) c.part.result part len within
    c.index_mut-partition.ensures.value) in
    rw (← c.self.view_is, c.part.ensures) (elim c.match-apply.branch [
      | in-Ok w ↦
          rw w.result-is
          (none, after_here parts.items item c.args.place part c.apply.new.self here w.in-Ok.ensures.ok)
      | in-Err w ↦
          rw w.result-is
          (none, set_same parts.items (records.record_part item) part c.apply.new.self here w.in-Err.ensures.err.1)
    ])

pub returns-clause-reserved : goal.returns-clause-reserved
returns-clause-reserved c =
    let parts = c.self.inside.partitions in
    let part = c.index_mut-partition.result.now in
    let item = c.args.item in
    let none : refusal_of (outline parts.items) (outlined item) ≡ None =
    rw (← c.self.view_is) at (sym c.refusal.ensures ∙ c.in_default.is) in
    let len : vec_len parts ≡ length parts.items = search rules in
    let within : c.part.result < vec_len parts = omega (arith, len, c.part.ensures, inside_of parts.items item none) in
    let here = rw c.part.ensures at (slice_get_read parts.items (vec_len parts) c.part.result part len within
    c.index_mut-partition.ensures.value) in
    let number = records.record_part item in
    rw (← c.self.view_is, c.part.ensures)
    (omega (
      arith,
      c.apply.ensures.reserved,
      reserved_here parts.items number part c.apply.new.self here,
      reserved_set parts.items number part c.apply.new.self here,
    ))

pub returns-clause-memory : goal.returns-clause-memory
returns-clause-memory c =
    let parts = c.self.inside.partitions in
    let part = c.index_mut-partition.result.now in
    let item = c.args.item in
    let none : refusal_of (outline parts.items) (outlined item) ≡ None =
    rw (← c.self.view_is) at (sym c.refusal.ensures ∙ c.in_default.is) in
    let len : vec_len parts ≡ length parts.items = search rules in
    let within : c.part.result < vec_len parts = omega (arith, len, c.part.ensures, inside_of parts.items item none) in
    let here = rw c.part.ensures at (slice_get_read parts.items (vec_len parts) c.part.result part len within
    c.index_mut-partition.ensures.value) in
    let number = records.record_part item in
    rw (← c.self.view_is) (elim c.match-apply.branch [
      | in-Ok w ↦ rw w.result-is (λ never. absurd (cc))
      | in-Err w ↦ λ lacks. omega (
        arith,
        w.in-Err.ensures.err.0,
        reserved_here parts.items number part c.apply.new.self here,
      )
    ])
