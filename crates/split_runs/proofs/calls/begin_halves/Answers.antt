use Rattle.std.proofs.Common.{[]}
use Rattle.split_runs.specs.Steps.{halves_of}
use Rattle.split_runs.proofs.BegunLemmas.{begun_keep}
use Rattle.split_runs.proofs.StepLemmas.{parts_again}
use Rattle.split_runs.proofs.calls.begin_halves.Goals as goal

pub returns-clause-keeps : goal.returns-clause-keeps
returns-clause-keeps g c =
    let back = c.known-2.ensures in
    let hosts = c.part-hosts.result.0 in
    let disks = c.part-hosts.result.1 in
    begun_keep g.D.Disk.state g.met.D.Disk.is_disk c.args.bay c.args.ends (halves_of hosts disks [])
    c.part-hosts.ensures
    (parts_again g.D.Disk.state hosts disks c.known.ensures.keeps
    (record { cartridge = back.cartridge; follows = back.follows; within = back.within }))
