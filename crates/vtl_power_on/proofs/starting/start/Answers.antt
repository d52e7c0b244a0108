use Rattle.std.proofs.Common.{rules, ◌∙◌, List, length, ap, refl, sym, subst, arith}
use Rattle.std.specs.Vec.Iter.{into_iter_items}
use Rattle.vtl_config.specs.declared.entries.DriveEntry.{DriveEntry}
use Rattle.vtl_power_on.specs.Starting.{AreOn, IsStarted}
use Rattle.vtl_power_on.specs.Unfinished.{StartingState}
use Rattle.vtl_power_on.proofs.NotStartedLemmas.{not_on, refused_on}
use Rattle.vtl_power_on.proofs.StartingLemmas.{all_on, double_number, on_more, on_yet}
use Rattle.vtl_files.proofs.TakenLemmas.{all_taken, one_more, parted}
use Rattle.vtl_power_on.proofs.starting.start.Goals as goal

pub loop-entry-init : goal.loop-entry-init
loop-entry-init g c = (
  refl,
  on_yet g.S.Sides.given.gives_cartridge g.D.Disk.state g.S.Sides.given.gives_store c.args.cartridges.items
      c.in_ok-starting.starting c.in_ok-starting.ensures.ok,
  search (rules, c.into_iter-entry-iterator.ensures.into_iter_gives),
)

pub returns-in-Err-clause-err : goal.returns-in-Err-clause-err
returns-in-Err-clause-err g c =
    let at = c.loop-entry in
    let entry = c.in-Some.entry in
    refused_on g.D.Disk.state g.S.Sides.given g.S.TakesBack.gives_up c.args.cartridges.items c.args.drives.items
    c.in-Err.fault at.yielded (into_iter_items c.next.new.self) entry at.starting
    (parted into_iter_items c.args.drives.items at.yielded entry at.entry-iterator c.next.new.self
    (at.invariant.0 ∙ c.into_iter-entry-iterator.ensures.into_iter_gives.0) c.in-Some.ensures.steps.0)
    c.in-Err.ensures.failure at.invariant.1 c.in-Err.ensures.err c.give_up.ensures

pub returns-in-Err-switch_on-clause-err : goal.returns-in-Err-switch_on-clause-err
returns-in-Err-switch_on-clause-err g c =
    let at = c.loop-entry in
    let entry = c.in-Some.entry in
    let drives = c.args.drives.items in
    let are = parted into_iter_items drives at.yielded entry at.entry-iterator c.next.new.self
    (at.invariant.0 ∙ c.into_iter-entry-iterator.ensures.into_iter_gives.0) c.in-Some.ensures.steps.0 in
    not_on g.D.Disk.state g.S.Sides.given g.S.TakesBack.gives_up c.args.cartridges.items drives
    c.in-Err-switch_on.field-0.fault at.yielded (into_iter_items c.next.new.self) entry c.in-Ok.opened.store
    c.in-Err-switch_on.field-0.store at.starting c.switch_on.new.self are at.invariant.1 c.in-Ok.ensures.ok
    c.in-Err-switch_on.ensures.err c.give_up-in-Err-switch_on.ensures
    (λ taken. rw are (double_number g.S.Sides.given.gives_cartridge g.D.Disk.state g.S.Sides.given.gives_store
    c.args.cartridges.items at.yielded (into_iter_items c.next.new.self) entry at.starting at.invariant.1 taken))

pub loop-entry-preserved : goal.loop-entry-preserved
loop-entry-preserved g c =
    let at = c.loop-entry in
    let entry = c.in-Some.entry in (
      one_more into_iter_items _ at.yielded entry at.entry-iterator c.next.new.self at.invariant.0
          c.in-Some.ensures.steps.0,
      on_more g.S.Sides.given.gives_cartridge g.D.Disk.state g.S.Sides.given.gives_store c.args.cartridges.items
          at.yielded entry c.in-Ok.opened.store at.starting c.switch_on.new.self at.invariant.1 c.in-Ok.ensures.ok
          c.in_default.ensures.ok,
      let was = at.invariant.2 in
          let gone = c.in-Some.ensures.steps.1 in
          let short = ap length c.in-Some.ensures.steps.0 in
          omega arith,
    )

pub returns-clause-ok : goal.returns-clause-ok
returns-clause-ok g c =
    let gives = g.S.Sides.given.gives_cartridge in
    let state = g.D.Disk.state in
    let stores = g.S.Sides.given.gives_store in
    let at = c.loop-entry in
    let on = subst (λ (xs : List DriveEntry). AreOn gives state stores c.args.cartridges.items xs at.starting)
    (all_taken (into_iter_items at.entry-iterator) c.args.drives.items at.yielded
    (at.invariant.0 ∙ c.into_iter-entry-iterator.ensures.into_iter_gives.0)
    (sym at.invariant.2 ∙ c.in-None.ensures.steps.0)) at.invariant.1 in
    subst (λ (s : StartingState g.row.D.Denot). IsStarted gives state stores c.args.cartridges.items
    c.args.drives.items s.held) (sym c.starting.view_is)
    (all_on gives state stores c.args.cartridges.items c.args.drives.items at.starting on)
