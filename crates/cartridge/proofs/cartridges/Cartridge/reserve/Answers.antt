use Rattle.std.proofs.Common.{refl, inr, arith}
use Rattle.std.proofs.lemmas.List.{length-map}
use Rattle.object_index.specs.Places.{PlacedPart}
use Rattle.cartridge.proofs.GrowingLemmas.{entries_at}
use Rattle.cartridge.proofs.OpenLemmas.{open_grown}
use Rattle.cartridge.proofs.StoringLemmas.{grown_entries, if_err_by, reserved_side, same_open, same_own, same_side, same_stores}
use Rattle.cartridge.proofs.cartridges.Cartridge.reserve.Goals as goal

pub invariant_of-self-in_err-reserve_part : goal.invariant_of-self-in_err-reserve_part
invariant_of-self-in_err-reserve_part g c =
    let i = c.self.inside in
    let index = c.reserve_part.new.index in
    let grown = c.reserve_part.ensures.grown in (
      open_grown i.journal.front.head.heading i.journal.extents
          i.journal.failed i.index i.noted.notes c.self.invariant.0
          i.journal.front.head.heading i.journal.extents i.journal.failed index refl refl refl grown,
      c.self.invariant.1,
      c.self.invariant.2,
    )

pub returns-in_err-reserve_part-clause-grows : goal.returns-in_err-reserve_part-clause-grows
returns-in_err-reserve_part-clause-grows g c = rw (← c.self.view_is) (
    let i = c.self.inside in
    let index = c.reserve_part.new.index in
    let grown = c.reserve_part.ensures.grown in
    record {
      body = c.reserve.ensures.grows;
      frames = omega arith;
      entries = grown_entries i.index index grown;
    })

pub returns-in_err-reserve_part-clause-refused : goal.returns-in_err-reserve_part-clause-refused
returns-in_err-reserve_part-clause-refused g c = rw (← c.self.view_is) (
    let i = c.self.inside in
    let index = c.reserve_part.new.index in
    let grown = c.reserve_part.ensures.grown in
    let lacked = c.in_err-reserve_part.ensures.err in
    if_err_by c.from_residual-in_err-reserve_part.result c.from_residual-in_err-reserve_part.ensures.1 (λ e is. (
      is,
      inr (inr (
        omega (arith, lacked.0, length-map i.index (λ (p : PlacedPart). p.reserved)),
        omega (arith, lacked.1, entries_at i.index c.args.part),
      )),
    )))

pub invariant_of-self-in_default : goal.invariant_of-self-in_default
invariant_of-self-in_default g c =
    let i = c.self.inside in
    let index = c.reserve_part.new.index in
    let grown = c.reserve_part.ensures.grown in
    let side = same_side i.journal c.reserve_extents.new.self c.in_default.ensures.refused.2 in (
      same_open i.journal c.reserve_extents.new.self side i.index index i.noted.notes grown c.self.invariant.0,
      same_own i.journal c.reserve_extents.new.self side i.index index i.noted.notes i.which c.self.invariant.1,
      same_stores i.journal c.reserve_extents.new.self side i.index index i.noted.notes i.which g.D.Disk.state i.spare
          c.self.invariant.2,
    )

pub returns-in_default-clause-grows : goal.returns-in_default-clause-grows
returns-in_default-clause-grows g c = rw (← c.self.view_is) (
    let i = c.self.inside in
    let index = c.reserve_part.new.index in
    let grown = c.reserve_part.ensures.grown in
    let side = same_side i.journal c.reserve_extents.new.self c.in_default.ensures.refused.2 in
    record {
      body = c.reserve.ensures.grows;
      frames = side.reserved;
      entries = grown_entries i.index index grown;
    })

pub invariant_of-self-2 : goal.invariant_of-self-2
invariant_of-self-2 g c =
    let i = c.self.inside in
    let index = c.reserve_part.new.index in
    let grown = c.reserve_part.ensures.grown in
    let done = c.in-Ok.ensures.ok in
    let side = reserved_side i.journal c.reserve_extents.new.self done.3 done.1 in (
      same_open i.journal c.reserve_extents.new.self side i.index index i.noted.notes grown c.self.invariant.0,
      same_own i.journal c.reserve_extents.new.self side i.index index i.noted.notes i.which c.self.invariant.1,
      same_stores i.journal c.reserve_extents.new.self side i.index index i.noted.notes i.which g.D.Disk.state i.spare
          c.self.invariant.2,
    )

pub returns-clause-grows : goal.returns-clause-grows
returns-clause-grows g c = rw (← c.self.view_is) (
    let i = c.self.inside in
    let index = c.reserve_part.new.index in
    let grown = c.reserve_part.ensures.grown in
    let done = c.in-Ok.ensures.ok in
    let side = reserved_side i.journal c.reserve_extents.new.self done.3 done.1 in
    record {
      body = c.reserve.ensures.grows;
      frames = side.reserved;
      entries = grown_entries i.index index grown;
    })

pub returns-clause-ok : goal.returns-clause-ok
returns-clause-ok g c = rw (← c.self.view_is) (
    let i = c.self.inside in
    let index = c.reserve_part.new.index in
    let grown = c.reserve_part.ensures.grown in
    let done = c.in-Ok.ensures.ok in
    let side = reserved_side i.journal c.reserve_extents.new.self done.3 done.1 in (
      c.in_ok-reserve.ensures.ok,
      done.0,
      λ inside. omega (
        arith,
        c.in_ok-reserve_part.ensures.ok (omega (arith, inside, length-map i.index (λ (p : PlacedPart). p.reserved))),
        entries_at index c.args.part,
      ),
    ))
