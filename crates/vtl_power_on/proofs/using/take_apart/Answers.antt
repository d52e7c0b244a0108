use Rattle.std.proofs.Common.{◌≡◌, ◌∙◌, ap, length, arith}
use Rattle.library.specs.Counts.{places_filled, which_are_there}
use Rattle.vtl_power_on.proofs.UsingLemmas.{put_together}
use Rattle.vtl_power_on.proofs.using.take_apart.Goals as goal

pub of_drives-requires : goal.of_drives-requires
of_drives-requires g c = ap length c.as_slice.ensures.value ∙ c.into_parts-bays.ensures.all

pub returns-in_default-clause-back : goal.returns-in_default-clause-back
returns-in_default-clause-back g c =
    let parts = c.into_parts-bays.result in
    c.from_parts.ensures
    ∙ put_together c.args.held parts.1 parts.0.items c.into_parts-bays.ensures.slots c.into_parts-bays.ensures.bays

pub returns-clause-rings : goal.returns-clause-rings
returns-clause-rings g c =
    c.in-Ok.ensures ∙ ap which_are_there (c.as_slice.ensures.value ∙ c.into_parts-bays.ensures.bays)

pub returns-clause-ledgers : goal.returns-clause-ledgers
returns-clause-ledgers g c = (
  c.new-bay_ledger.ensures ∙ c.count_drives.ensures
      ∙ ap places_filled (c.as_slice-2.ensures.value ∙ c.into_parts-bays.ensures.bays),
  omega (arith, c.new-host_ledger.ensures),
)
