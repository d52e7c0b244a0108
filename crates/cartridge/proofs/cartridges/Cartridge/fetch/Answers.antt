use Rattle.std.proofs.Common.{◌≡◌, ◌++◌, ◌<◌, ℕ, List, length, take, drop, Option, Some, false, refl, ap, subst, sym, ◌∙◌, arith, rules}
use Rattle.std.specs.Prelude.{IfSome, vec_capacity}
use Rattle.std.proofs.lemmas.Result.{err_from_is_err_and}
use Rattle.object_index.specs.Indexes.{indexes_block}
use Rattle.cartridge.specs.Contents.{bodies_of, volume_made}
use Rattle.cartridge.specs.Disks.{ReadsSide, disks_by}
use Rattle.cartridge.specs.Lying.{LiesOnSide}
use Rattle.cartridge.specs.Notes.{noted_contents}
use Rattle.cartridge.proofs.DisksLemmas.{honest_by, reads_by, unwritten_by}
use Rattle.cartridge.proofs.FetchLemmas.{block_short, can_be_read, filled_whole, length-take-le-whole, not_a_mark, not_none, read_is}
use Rattle.cartridge.proofs.OpenLemmas.{open_shape}
use Rattle.cartridge.proofs.StoringLemmas.{on_ok_any}
use Rattle.cartridge.proofs.cartridges.Cartridge.fetch.Goals.{in-Ok, in-Err-Device}
use Rattle.cartridge.proofs.cartridges.Cartridge.fetch.Goals as goal

pub unreachable-requires : goal.unreachable-requires
unreachable-requires g c =
    let i = c.self.inside in
    not_a_mark i.index (volume_made (noted_contents i.noted.notes)) c.args.part c.args.at
    (open_shape i.journal.front.head.heading i.journal.extents
    i.journal.failed i.index i.noted.notes c.self.invariant.0)
    (sym c.place.ensures ∙ c.in-Some-Mark.is ∙ ap Some c.in-Some-Mark.field-0-is)
    (rw (← c.self.view_is) at c.requires)

pub unreachable-requires-in-None : goal.unreachable-requires-in-None
unreachable-requires-in-None g c =
    let i = c.self.inside in
    not_none i.index (volume_made (noted_contents i.noted.notes)) c.args.part c.args.at
    (open_shape i.journal.front.head.heading i.journal.extents
    i.journal.failed i.index i.noted.notes c.self.invariant.0)
    (sym c.place.ensures ∙ c.in-None.is)
    (rw (← c.self.view_is) at c.requires)

pub read_body-read-requires : goal.read_body-read-requires
read_body-read-requires g c =
    let i = c.self.inside in
    let found = indexes_block (LiesOnSide i.noted.notes i.journal.extents) (volume_made (noted_contents i.noted.notes))
    i.index c.args.part c.args.at c.in-Some-Block.place c.in-Some-Block.length c.self.invariant.0.lies
    (sym c.place.ensures ∙ c.in-Some-Block.is ∙ ap Some c.in-Some-Block.field-0-is) in
    let count : length c.deref_mut.result.now ≡ c.in-Some-Block.length =
    omega (
      arith,
      c.deref_mut.ensures.len,
      ap (λ (l : List ℕ). length l) c.deref_mut.ensures.value,
      c.in_ok-set_length.ensures.len,
    ) in
    can_be_read (bodies_of i.noted.notes.frames) i.journal.extents found.0 c.in-Some-Block.place
    (length c.deref_mut.result.now) found.3 (count ∙ found.2)

pub returns-in_err-set_length-clause-answer : goal.returns-in_err-set_length-clause-answer
returns-in_err-set_length-clause-answer g c =
    let i = c.self.inside in
    let found = indexes_block (LiesOnSide i.noted.notes i.journal.extents) (volume_made (noted_contents i.noted.notes))
    i.index c.args.part c.args.at c.in-Some-Block.place c.in-Some-Block.length c.self.invariant.0.lies
    (sym c.place.ensures ∙ c.in-Some-Block.is ∙ ap Some c.in-Some-Block.field-0-is) in
    let short : vec_capacity c.args.into.now < length found.0 =
    omega (arith, c.in_err-set_length.ensures.full, found.2) in
    let fine : c.args.self.now.failed ≡ false = search rules in
    let p = err_from_is_err_and c.from_residual.result c.from_residual.ensures.1 in
    rw (p.1, p.2) (
      fine,
      refl,
      rw (← c.self.view_is) (subst
          (λ (o : Option (List ℕ)). IfSome o (λ block. vec_capacity c.args.into.now < length block)) (sym found.1)
          short),
    )

pub returns-clause-answer : goal.returns-clause-answer
returns-clause-answer g c = rw (← c.self.view_is) (elim c.match-read.branch [
  | in-Ok w ↦ rw w.result-is (
    search rules,
    search rules,
    search rules,
    (let i = c.self.inside in
        let found = indexes_block (LiesOnSide i.noted.notes i.journal.extents) (volume_made (noted_contents
        i.noted.notes))
        i.index c.args.part c.args.at c.in-Some-Block.place c.in-Some-Block.length c.self.invariant.0.lies
        (sym c.place.ensures ∙ c.in-Some-Block.is ∙ ap Some c.in-Some-Block.field-0-is) in
        let count : length c.deref_mut.result.now ≡ c.in-Some-Block.length =
        omega (
          arith,
          c.deref_mut.ensures.len,
          ap (λ (l : List ℕ). length l) c.deref_mut.ensures.value,
          c.in_ok-set_length.ensures.len,
        ) in
        let bytes = c.read_body-read.new.buffer in
        let items = c.set_length.new.bytes.items in
        let long : length bytes ≡ c.in-Some-Block.length = omega (arith, count, c.read_body-read.auto.buffer) in
        let same : length items ≡ c.in-Some-Block.length = omega (
          arith,
          c.in_ok-set_length.ensures.len,
          c.set_length.new.bytes.ok.0,
        ) in
        let whole : take c.set_length.new.bytes.len (bytes ++ drop (length bytes) items) ≡ bytes =
        filled_whole c.set_length.new.bytes.len bytes items (omega (arith, long, c.in_ok-set_length.ensures.len))
        (omega (arith, same, c.in_ok-set_length.ensures.len)) in
        subst
        (λ (o : Option (List ℕ)).
        IfSome o (λ block.
        length (take c.set_length.new.bytes.len (bytes ++ drop (length bytes) items)) ≡ length block)) (sym found.1)
        (ap length whole ∙ long ∙ found.2)),
  )
  | in-Err-Device w ↦ rw w.result-is (search rules)
])

pub returns-clause-bytes : goal.returns-clause-bytes
returns-clause-bytes g c = rw (← c.self.view_is) (λ h. elim c.match-read.branch [
  | in-Ok w ↦
      on_ok_any c.match-read.result (
      let i = c.self.inside in
      let found = indexes_block (LiesOnSide i.noted.notes i.journal.extents) (volume_made (noted_contents
      i.noted.notes))
      i.index c.args.part c.args.at c.in-Some-Block.place c.in-Some-Block.length c.self.invariant.0.lies
      (sym c.place.ensures ∙ c.in-Some-Block.is ∙ ap Some c.in-Some-Block.field-0-is) in
      let count : length c.deref_mut.result.now ≡ c.in-Some-Block.length =
      omega (
        arith,
        c.deref_mut.ensures.len,
        ap (λ (l : List ℕ). length l) c.deref_mut.ensures.value,
        c.in_ok-set_length.ensures.len,
      ) in
      let bytes = c.read_body-read.new.buffer in
      let items = c.set_length.new.bytes.items in
      let long : length bytes ≡ c.in-Some-Block.length = omega (arith, count, c.read_body-read.auto.buffer) in
      let same : length items ≡ c.in-Some-Block.length = omega (
        arith,
        c.in_ok-set_length.ensures.len,
        c.set_length.new.bytes.ok.0,
      ) in
      let whole : take c.set_length.new.bytes.len (bytes ++ drop (length bytes) items) ≡ bytes =
      filled_whole c.set_length.new.bytes.len bytes items (omega (arith, long, c.in_ok-set_length.ensures.len))
      (omega (arith, same, c.in_ok-set_length.ensures.len)) in
      found.1
      ∙ ap Some (sym (whole
      ∙ read_is (bodies_of i.noted.notes.frames) i.journal.bodies i.journal.extents found.0 c.in-Some-Block.place
      bytes found.3
      (c.self.invariant.2 h).bodies_are (long ∙ found.2)
      (w.in-Ok.ensures.bytes (honest_by g.D.Disk.state i.which i.journal.disk i.spare h).0)))
      )
  | in-Err-Device w ↦ rw w.result-is tt
])

pub returns-clause-bound : goal.returns-clause-bound
returns-clause-bound g c = on_ok_any c.match-read.result (
    let i = c.self.inside in
    let short = block_short i.index c.args.part c.args.at c.in-Some-Block.place c.in-Some-Block.length
    c.parts.ensures.limits.each
    (sym c.place.ensures ∙ c.in-Some-Block.is ∙ ap Some c.in-Some-Block.field-0-is) in
    omega (
      arith,
      short,
      c.in_ok-set_length.ensures.len,
      length-take-le-whole c.set_length.new.bytes.len (c.read_body-read.new.buffer ++ drop (length
          c.read_body-read.new.buffer) c.set_length.new.bytes.items),
    ))

pub returns-clause-reads : goal.returns-clause-reads
returns-clause-reads g c = rw (← c.self.view_is) (elim c.match-read.branch [
  | in-Ok w ↦ rw w.result-is (
      let i = c.self.inside in
      let found = indexes_block (LiesOnSide i.noted.notes i.journal.extents) (volume_made (noted_contents
      i.noted.notes))
      i.index c.args.part c.args.at c.in-Some-Block.place c.in-Some-Block.length c.self.invariant.0.lies
      (sym c.place.ensures ∙ c.in-Some-Block.is ∙ ap Some c.in-Some-Block.field-0-is) in
      let count : length c.deref_mut.result.now ≡ c.in-Some-Block.length =
      omega (
        arith,
        c.deref_mut.ensures.len,
        ap (λ (l : List ℕ). length l) c.deref_mut.ensures.value,
        c.in_ok-set_length.ensures.len,
      ) in
      let fine : i.journal.failed ≡ false = search rules in
      let now = c.read_body-read.new.self.disk in
      let read = reads_by g.D.Disk.effect i.which i.journal.disk i.spare now c.in-Some-Block.place
      (length c.deref_mut.result.now) (c.read_body-read.ensures.reads fine) in
      subst
      (λ (o : Option (List ℕ)).
      IfSome o (λ block.
      ReadsSide g.D.Disk.effect i.which (length block) (disks_by i.which i.journal.disk i.spare)
      (disks_by i.which now i.spare))) (sym found.1)
      (subst
      (λ (n : ℕ).
      ReadsSide g.D.Disk.effect i.which n (disks_by i.which i.journal.disk i.spare)
      (disks_by i.which now i.spare)) (count ∙ found.2) read))
  | in-Err-Device w ↦ rw w.result-is tt
])

pub returns-clause-unwritten : goal.returns-clause-unwritten
returns-clause-unwritten g c = rw (← c.self.view_is) (λ h.
    let i = c.self.inside in
    unwritten_by g.D.Disk.state i.which i.journal.disk i.spare c.read_body-read.new.self.disk
    (c.read_body-read.ensures.unwritten (honest_by g.D.Disk.state i.which i.journal.disk i.spare h).0))
