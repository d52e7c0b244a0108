use Rattle.std.proofs.Common.{◌≡◌, ◌≢◌, ◌∙◌, [], Err, ap, subst, sym}
use Rattle.vtl_base.specs.Below.{Advances}
use Rattle.volume_core.specs.declared.media.MediumError.TheVariants as Errors
use Rattle.volume_core.specs.Medium.{Wakes, met_fault}
use Rattle.tape_buffer.specs.Invariants.{buffer_of}
use Rattle.tape_buffer.specs.Moves.{HonestOn, LeavesAlone, LeavesEachAlone, buffer_below}
use Rattle.tape_buffer.specs.State.{BufferState, IsSettledIn, closed_buffer, disks_in, state_of}
use Rattle.tape_buffer.proofs.CoreLemmas.{rests}
use Rattle.tape_buffer.proofs.media.BufferedMedium.wake.Goals as goal

pub returns-then-has_failed-clause-advances : goal.returns-then-has_failed-clause-advances
returns-then-has_failed-clause-advances g c = rests g.D.Disk.state g.met.D.Disk.is_disk c.args.self.now

pub returns-in-Open-clause-advances : goal.returns-in-Open-clause-advances
returns-in-Open-clause-advances g c = rests g.D.Disk.state g.met.D.Disk.is_disk c.args.self.now

pub returns-in-Err : goal.returns-in-Err
returns-in-Err g c =
    let state = g.D.Disk.state in
    let error = c.in-Err.error in
    let stays = c.in-Err.ensures.err in
    let was : closed_buffer c.in-Closed.shelved ≡ c.args.self.now =
    ap buffer_of (sym c.in-Closed.is ∙ c.replace.ensures.value) ∙ c.self.view_is in
    let now : closed_buffer c.in-Err.shelved ≡ buffer_of c.hold-in-Err.new.place =
    ap buffer_of (sym c.hold-in-Err.ensures) in
    record {
      answer =
          subst (λ (m : BufferState g.row.D.Denot × BufferState g.row.D.Denot).
          Wakes (HonestOn state (disks_in m.0.held)) (state_of state m.0) (Err error) (state_of state m.1))
          (λ i. (was i, now i)) stays.1;
      advances =
          subst (λ (m : BufferState g.row.D.Denot × BufferState g.row.D.Denot).
          Advances (buffer_below state) m.0 [] (met_fault (Err error)) m.1) (λ i. (was i, now i)) stays.2;
      alone =
          subst (λ (m : BufferState g.row.D.Denot × BufferState g.row.D.Denot). LeavesAlone state m.0 m.1)
          (λ i. (was i, now i)) stays.3;
      each =
          subst (λ (m : BufferState g.row.D.Denot × BufferState g.row.D.Denot). LeavesEachAlone state m.0 m.1)
          (λ i. (was i, now i)) stays.4;
      settled =
          subst (λ (m : BufferState g.row.D.Denot). error ≢ Errors.Device → IsSettledIn state m.held) now stays.0;
    }
