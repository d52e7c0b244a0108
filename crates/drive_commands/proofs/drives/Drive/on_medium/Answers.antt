use Rattle.std.proofs.Common.{◌≡◌, ◌∙◌, ap, sym, subst, refl}
use Rattle.drive_commands.specs.declared.bays.Bay.{Bay}
use Rattle.drive_commands.specs.declared.bays.Bay.TheVariants.{Loaded}
use Rattle.drive_commands.specs.State.{DriveState, machine_of, medium_in, mounted}
use Rattle.drive_commands.specs.Work.{MediumWork}
use Rattle.drive_commands.specs.OnMedium.{OnMedium}
use Rattle.drive_commands.specs.Execute.{HonestIn, Takes}
use Rattle.drive_commands.proofs.FaultLemmas.{faultless_keeper}
use Rattle.drive_commands.proofs.TakesLemmas.{carried_takes}
use Rattle.drive_commands.proofs.drives.Drive.on_medium.Goals as goal

pub returns : goal.returns
returns g c =
    let state = g.M.Catalog.state in
    let below = g.M.Medium.below in
    let kept = g.K.Keeper.kept in
    let keeps = g.K.Keeper.below in
    let inside = c.self.inside in
    let medium = c.in-Loaded.medium in
    let old : DriveState g.row.M.Denot g.row.K.Denot = record {
      bay = Loaded medium;
      position = inside.position;
      buffered = inside.buffered;
      deferred = inside.deferred;
      attentions = inside.attentions;
      reservations = inside.reservations;
      keeper = inside.keeper;
      accepted = inside.accepted;
    } in
    let same : old ≡ c.args.self.now =
    ap (λ (bay : Bay g.row.M.Denot). record old { bay = bay }) (sym c.in-Loaded.is) ∙ c.self.view_is in
    let H = HonestIn below (medium_in old.bay) in
    let W = MediumWork H c.args.command inside.buffered c.args.sent.now in
    let new : DriveState g.row.M.Denot g.row.K.Denot =
    record old {
      bay = Loaded c.carry_out.new.medium;
      position = c.carry_out.new.position;
      accepted = c.carry_out.new.accepted;
    } in
    let tallies = c.carry_out.ensures.carries in
    let sound =
    faultless_keeper H c.args.command inside.buffered c.args.sent.now (mounted (state medium) inside.position)
    c.carry_out.result tallies.made (mounted (state c.carry_out.new.medium) c.carry_out.new.position)
    tallies.carries.work in
    subst
    (λ (d : DriveState g.row.M.Denot g.row.K.Denot).
    Takes state below kept keeps
    (OnMedium (MediumWork (HonestIn below (medium_in d.bay)) c.args.command d.buffered c.args.sent.now)
    (machine_of state kept d))
    d c.carry_out.result new)
    same
    (carried_takes state below kept keeps g.met.M.Medium.advances_nowhere g.met.K.Keeper.advances_nowhere W
    (OnMedium W (machine_of state kept old)) old medium c.carry_out.new.medium c.carry_out.new.position
    c.carry_out.new.accepted c.carry_out.result refl sound tallies (λ made work. work))
