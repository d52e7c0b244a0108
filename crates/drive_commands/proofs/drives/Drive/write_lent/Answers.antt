use Rattle.std.proofs.Common.{◌≡◌, ◌∙◌, ap, sym, subst, refl}
use Rattle.scsi_opcodes.specs.declared.commands.Command.TheVariants.{Write}
use Rattle.drive_commands.specs.declared.bays.Bay.{Bay}
use Rattle.drive_commands.specs.declared.bays.Bay.TheVariants.{Loaded}
use Rattle.drive_commands.specs.State.{DriveState, machine_of, medium_in, mounted}
use Rattle.drive_commands.specs.Write.{WriteWork}
use Rattle.drive_commands.specs.OnMedium.{OnMedium}
use Rattle.drive_commands.specs.Execute.{HonestIn}
use Rattle.drive_commands.proofs.FaultLemmas.{faultless_keeper}
use Rattle.drive_commands.proofs.DataLemmas.{TakesLent, carried_lent}
use Rattle.drive_commands.proofs.drives.Drive.write_lent.Goals as goal

pub returns : goal.returns
returns g c =
    let state = g.M.Catalog.state in
    let below = g.M.Medium.below in
    let kept = g.K.Keeper.kept in
    let keeps = g.K.Keeper.below in
    let inside = c.self.inside in
    let medium = c.in-Loaded.medium in
    let old : DriveState g.row.M.Denot g.row.K.Denot = record {
      bay = Loaded medium;
      position = inside.position;
      buffered = inside.buffered;
      deferred = inside.deferred;
      attentions = inside.attentions;
      reservations = inside.reservations;
      keeper = inside.keeper;
      accepted = inside.accepted;
    } in
    let same : old ≡ c.args.self.now =
    ap (λ (bay : Bay g.row.M.Denot). record old { bay = bay }) (sym c.in-Loaded.is) ∙ c.self.view_is in
    let W = WriteWork inside.buffered c.args.sent.now in
    let new : DriveState g.row.M.Denot g.row.K.Denot =
    record old {
      bay = Loaded c.write.new.medium;
      position = c.write.new.position;
      accepted = c.write.new.accepted;
    } in
    let tallies = c.write.ensures.carries.0 in
    let sound =
    faultless_keeper (HonestIn below (medium_in old.bay)) (Write 0) inside.buffered c.args.sent.now
    (mounted (state medium) inside.position) c.write.result tallies.made
    (mounted (state c.write.new.medium) c.write.new.position) tallies.carries.work in
    subst
    (λ (d : DriveState g.row.M.Denot g.row.K.Denot).
    TakesLent state below kept keeps g.met.K.Keeper.advances_nowhere
    (OnMedium (WriteWork d.buffered c.args.sent.now) (machine_of state kept d))
    d c.write.result new c.args.sent.now c.write.new.sent)
    same
    (carried_lent state below kept keeps g.met.K.Keeper.advances_nowhere W
    (OnMedium W (machine_of state kept old)) old medium c.write.new.medium c.write.new.position
    c.write.new.accepted c.write.result c.args.sent.now c.write.new.sent refl sound tallies
    c.write.ensures.carries.1 (λ made work. work))
