use Rattle.std.proofs.Common.{[]}
use Rattle.vtl_base.specs.Below.{advances_on}
use Rattle.volume_core.specs.Stores.{stores_on}
use Rattle.drive_commands.specs.State.{mounted}
use Rattle.drive_commands.specs.Erase.{Erases}
use Rattle.drive_commands.specs.Execute.{is_device_fault}
use Rattle.drive_commands.proofs.ReadLemmas.{stored_first}
use Rattle.drive_commands.proofs.erases.erase.Goals as goal

pub returns-clause-carries : goal.returns-clause-carries
returns-clause-carries g c =
    let state = g.M.Catalog.state in
    let old = c.args.medium.now in
    let mid = c.store_pending.new.medium in
    let new = c.append.new.medium in
    let stored = c.in_ok-store_pending.ensures in
    let tallies = c.append.ensures.carries.0 in
    let given = tallies.carries in
    record {
      made = tallies.made;
      carries = record {
        work =
            stored_first (Erases c.args.buffered) (state old) (state mid) c.args.position.now c.append.result.answer
            tallies.made (mounted (state new) c.append.new.position) stored.answer (given.work, given.stores);
        advances =
            advances_on g.M.Medium.below g.met.M.Medium.moves_on old mid new [] tallies.made
            (is_device_fault c.append.result.answer) stored.advances given.advances;
        stores = stores_on (state old) (state mid) (state new) [] tallies.made stored.stores given.stores;
      };
      counted = tallies.counted;
    }
