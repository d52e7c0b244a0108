use Rattle.std.proofs.Common.{[]}
use Rattle.vtl_base.specs.Below.{advances_on}
use Rattle.volume_core.specs.Stores.{stores_on}
use Rattle.drive_commands.specs.State.{mounted}
use Rattle.drive_commands.specs.Read.{GivesObject}
use Rattle.drive_commands.specs.Execute.{is_device_fault}
use Rattle.drive_commands.proofs.ReadLemmas.{object_where, stored_first, read_some}
use Rattle.drive_commands.proofs.reads.read.Goals as goal

pub returns-clause-carries : goal.returns-clause-carries
returns-clause-carries g c =
    let state = g.M.Catalog.state in
    let below = g.M.Medium.below in
    let old = c.args.medium.now in
    let mid = c.store_pending.new.medium in
    let new = c.give.new.medium in
    let position = c.args.position.now in
    let suppress = c.args.suppress_length in
    let asked = c.args.length in
    let stored = c.in_ok-store_pending.ensures in
    let given = c.give.ensures.carries in
    let left = mounted (state new) c.give.new.position in
    let work =
    object_where (below.honest old) (below.honest mid) stored.advances.honesty.0 suppress asked
    (mounted (state mid) position) c.give.result [] left given.work in
    record {
      work =
          read_some (below.honest old) suppress asked c.if-length-eq0.false (mounted (state old) position)
          c.give.result [] left
          (stored_first (GivesObject (below.honest old) suppress asked) (state old) (state mid) position c.give.result
          [] left stored.answer work);
      advances =
          advances_on below g.met.M.Medium.moves_on old mid new [] [] (is_device_fault c.give.result)
          stored.advances given.advances;
      stores = stores_on (state old) (state mid) (state new) [] [] stored.stores given.stores;
    }
