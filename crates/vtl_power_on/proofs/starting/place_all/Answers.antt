use Rattle.std.proofs.Common.{rules, ◌∙◌, List, length, ap, refl, sym, subst, is_some, arith}
use Rattle.std.specs.Vec.Iter.{into_iter_items}
use Rattle.vtl_config.specs.Entries.{address_of}
use Rattle.vtl_config.specs.declared.entries.CartridgeEntry.{CartridgeEntry}
use Rattle.vtl_power_on.specs.Inner.Waiting.{AreHome}
use Rattle.vtl_power_on.specs.Unfinished.{home_at}
use Rattle.vtl_power_on.proofs.NotStartedLemmas.{not_home, refused_home}
use Rattle.vtl_power_on.proofs.StartingLemmas.{double_home, home_on, home_yet}
use Rattle.vtl_files.proofs.TakenLemmas.{all_taken, one_more, parted}
use Rattle.vtl_power_on.proofs.starting.place_all.Goals as goal

pub loop-entry-init : goal.loop-entry-init
loop-entry-init g c = (
  refl,
  home_yet g.S.Sides.given.gives_cartridge c.args.starting c.requires,
  search (rules, c.into_iter-entry-iterator.ensures.into_iter_gives),
)

pub returns-in-Err-clause-err : goal.returns-in-Err-clause-err
returns-in-Err-clause-err g c =
    let at = c.loop-entry in
    let entry = c.in-Some.entry in
    refused_home g.D.Disk.state g.S.Sides.given g.S.TakesBack.gives_up c.args.cartridges.items c.in-Err.fault
    at.yielded (into_iter_items c.next.new.self) entry at.starting
    (parted into_iter_items c.args.cartridges.items at.yielded entry at.entry-iterator c.next.new.self
    (at.invariant.0 ∙ c.into_iter-entry-iterator.ensures.into_iter_gives.0) c.in-Some.ensures.steps.0)
    c.in-Err.ensures.failure at.invariant.1 c.in-Err.ensures.err c.give_up.ensures

pub returns-in-Err-put-clause-err : goal.returns-in-Err-put-clause-err
returns-in-Err-put-clause-err g c =
    let at = c.loop-entry in
    let entry = c.in-Some.entry in
    let entries = c.args.cartridges.items in
    not_home g.D.Disk.state g.S.Sides.given g.S.TakesBack.gives_up entries c.in-Err-put.fault
    (is_some (home_at at.starting (address_of entry.home))) c.in-Err-put.ensures.err (λ taken.
    rw (parted into_iter_items entries at.yielded entry at.entry-iterator c.next.new.self
    (at.invariant.0 ∙ c.into_iter-entry-iterator.ensures.into_iter_gives.0) c.in-Some.ensures.steps.0)
    (double_home g.S.Sides.given.gives_cartridge at.yielded (into_iter_items c.next.new.self) entry at.starting
    at.invariant.1 taken))

pub loop-entry-preserved : goal.loop-entry-preserved
loop-entry-preserved g c =
    let at = c.loop-entry in
    let entry = c.in-Some.entry in (
      one_more into_iter_items _ at.yielded entry at.entry-iterator c.next.new.self at.invariant.0
          c.in-Some.ensures.steps.0,
      home_on g.S.Sides.given.gives_cartridge at.yielded entry c.in-Ok.cartridge at.starting c.put.new.self
          at.invariant.1 c.in-Ok.ensures.ok c.in_default.ensures.ok,
      let was = at.invariant.2 in
          let gone = c.in-Some.ensures.steps.1 in
          let short = ap length c.in-Some.ensures.steps.0 in
          omega arith,
    )

pub returns-clause-ok : goal.returns-clause-ok
returns-clause-ok g c =
    let at = c.loop-entry in
    subst (λ (xs : List CartridgeEntry). AreHome g.S.Sides.given.gives_cartridge xs at.starting)
    (all_taken (into_iter_items at.entry-iterator) c.args.cartridges.items at.yielded
    (at.invariant.0 ∙ c.into_iter-entry-iterator.ensures.into_iter_gives.0)
    (sym at.invariant.2 ∙ c.in-None.ensures.steps.0)) at.invariant.1
