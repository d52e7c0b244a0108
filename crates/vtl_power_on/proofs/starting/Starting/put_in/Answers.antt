use Rattle.std.proofs.Common.{◌≡◌, ℕ, refl, subst, true, is_some}
use Rattle.vtl_power_on.specs.Inner.Waiting.{PutsHome}
use Rattle.vtl_power_on.specs.Unfinished.{StartingState, home_at}
use Rattle.vtl_power_on.proofs.WaitingLemmas.{full_in_slot, puts_slot, slot_address}
use Rattle.vtl_power_on.proofs.starting.Starting.put_in.Goals as goal
use Rattle.vtl_power_on.proofs.starting.Starting.put_in.Goals.{in-Ok, in-Err}

pub returns-clause-ok : goal.returns-clause-ok
returns-clause-ok g c =
    let on = slot_address c.address.result c.address.ensures.range.0 c.address.ensures.range.1 in
    let now : StartingState g.row.D.Denot =
    record { held = c.place.new.self; waiting = c.self.inside.waiting.items } in
    elim c.match-place.branch [
      | in-Ok w ↦ rw w.result-is (subst (λ (a : ℕ). PutsHome a c.args.cartridge c.args.self.now now)
          c.address.ensures.value
          (puts_slot c.self.inside.held c.self.inside.waiting.items c.place.new.self c.address.result c.args.cartridge
          c.args.self.now c.self.view_is on w.in-Ok.ensures.ok.0 w.in-Ok.ensures.ok.1 w.in-Ok.ensures.ok.2))
      | in-Err w ↦ rw w.result-is tt
    ]

pub returns-clause-err : goal.returns-clause-err
returns-clause-err g c =
    let on = slot_address c.address.result c.address.ensures.range.0 c.address.ensures.range.1 in
    elim c.match-place.branch [
      | in-Ok w ↦ rw w.result-is tt
      | in-Err w ↦ rw w.result-is (
        refl,
        subst (λ (a : ℕ). is_some (home_at c.args.self.now a) ≡ true) c.address.ensures.value
            (full_in_slot c.self.inside.held c.self.inside.waiting.items c.address.result w.in-Err.refused.error
            c.args.self.now c.self.view_is on w.in-Err.ensures.err.0),
      )
    ]
