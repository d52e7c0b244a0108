use Rattle.std.proofs.Common.{◌≡◌, ap, subst, None, Some}
use Rattle.element_slots.specs.Slots.{Puts, refusal_of_placing}
use Rattle.bay_moves.specs.Elements.{HeldState}
use Rattle.bay_moves.proofs.BayLemmas.{if_err, on_ok, with_slots}
use Rattle.bay_moves.proofs.held.Held.place.Goals as goal

pub returns-clause-ok : goal.returns-clause-ok
returns-clause-ok g c =
    on_ok c.place.result (λ ok. (
      subst (λ (h : HeldState g.row.D.Denot). refusal_of_placing h.slots c.args.address ≡ None) c.self.view_is ok.0,
      subst (λ (h : HeldState g.row.D.Denot). Puts c.args.address (Some c.args.cartridge) h.slots c.place.new.self)
          c.self.view_is ok.1,
      ap (λ (h : HeldState g.row.D.Denot). h.bays) c.self.view_is,
    )) c.place.ensures.ok

pub returns-clause-err : goal.returns-clause-err
returns-clause-err g c =
    if_err c.place.result (λ refused holds. (
      subst (λ (h : HeldState g.row.D.Denot). refusal_of_placing h.slots c.args.address ≡ Some refused.error)
          c.self.view_is holds.0,
      holds.1,
      with_slots c.self.inside.slots c.place.new.self c.self.inside.bays.items c.args.self.now holds.2 c.self.view_is,
    )) c.place.ensures.refused
