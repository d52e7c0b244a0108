use Rattle.std.proofs.Common.{rules, ◌∙◌, ◌∷◌, ◌++◌, [], length, ap, refl, sym, arith, Ok, Err}
use Rattle.std.specs.Vec.Iter.{into_iter_items}
use Rattle.vtl_files.proofs.ConfigCheckLemmas.{checks_more, checks_first, checks_none}
use Rattle.vtl_files.proofs.TakenLemmas.{all_taken, one_more}
use Rattle.vtl_files.specs.Creating.{CartridgeFile}
use Rattle.vtl_files.proofs.config_checks.check_cartridges.Goals as goal

pub loop-entry-init : goal.loop-entry-init
loop-entry-init g c = (
  refl,
  checks_none g.D.Disk.state g.D.Disk.effect g.F.ReadFiles.opens_to_read g.F.ReadFiles.closes _,
  search (rules, c.into_iter-entry-iterator.ensures.into_iter_gives),
)

pub returns-in-Err : goal.returns-in-Err
returns-in-Err g c =
    let at = c.loop-entry in
    let entry = c.in-Some.entry in
    checks_first g.D.Disk.state g.D.Disk.effect g.F.ReadFiles.opens_to_read g.F.ReadFiles.closes CartridgeFile
    (at.yielded ++ entry ∷ []) c.args.entries.items (into_iter_items c.next.new.self) _ _ c.in-Err.fault
    (sym (one_more into_iter_items c.args.entries.items at.yielded entry at.entry-iterator c.next.new.self
    (at.invariant.0 ∙ c.into_iter-entry-iterator.ensures.into_iter_gives.0) c.in-Some.ensures.steps.0))
    (checks_more g.D.Disk.state g.D.Disk.effect g.F.ReadFiles.opens_to_read g.F.ReadFiles.closes CartridgeFile
    at.yielded entry _ _ _ at.first (Err c.in-Err.fault) at.invariant.1 c.in-Err.ensures)

pub loop-entry-preserved : goal.loop-entry-preserved
loop-entry-preserved g c =
    let at = c.loop-entry in
    let entry = c.in-Some.entry in (
      one_more into_iter_items _ at.yielded entry at.entry-iterator c.next.new.self at.invariant.0
          c.in-Some.ensures.steps.0,
      rw c.first_of-first.ensures
          (checks_more g.D.Disk.state g.D.Disk.effect g.F.ReadFiles.opens_to_read g.F.ReadFiles.closes CartridgeFile
          at.yielded entry _ _ _ at.first (Ok c.in-Ok.next) at.invariant.1 c.in-Ok.ensures),
      let was = at.invariant.2 in
          let gone = c.in-Some.ensures.steps.1 in
          let short = ap length c.in-Some.ensures.steps.0 in
          omega arith,
    )

pub returns : goal.returns
returns g c =
    let at = c.loop-entry in
    let all = all_taken (into_iter_items at.entry-iterator) c.args.entries.items at.yielded
    (at.invariant.0 ∙ c.into_iter-entry-iterator.ensures.into_iter_gives.0)
    (sym at.invariant.2 ∙ c.in-None.ensures.steps.0) in
    rw (← all) at.invariant.1
