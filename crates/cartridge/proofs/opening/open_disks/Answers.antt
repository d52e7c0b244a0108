use Rattle.std.specs.Prelude.{Some}
use Rattle.std.proofs.Common.{inl}
use Rattle.std.proofs.lemmas.Result.{IfErr-weaker, IfOk-weaker}
use Rattle.tape_disk.specs.TwoDisks.{TwoDisks}
use Rattle.cartridge.proofs.ChoosingLemmas.{begun_failed, begun_on, gives_then, honest_on, looked, looked_then, none_failed, opens_on, refused_then, seen_found, stays_then}
use Rattle.cartridge.proofs.opening.open_disks.Goals as goal

pub returns-in-Ok-Some-clause-gives : goal.returns-in-Ok-Some-clause-gives
returns-in-Ok-Some-clause-gives g c =
    let state = g.D.Disk.state in
    let old : TwoDisks g.row.D.Denot = record { first = c.args.first; second = c.args.second } in
    let mid : TwoDisks g.row.D.Denot = record { first = c.choose.new.first; second = c.choose.new.second } in
    let finds = rw c.in-Ok-Some.field-0-is at c.in-Ok-Some.ensures.answer in
    let keeps = c.choose.ensures.disks in
    IfOk-weaker c.open_side.result _ _
    (λ cartridge gives h.
    gives_then state old mid cartridge.disks
    (none_failed state g.met.D.Disk.is_disk old mid keeps (Some c.in-Ok-Some.counted) finds)
    (honest_on state g.met.D.Disk.is_disk old mid keeps)
    (seen_found state g.met.D.Disk.is_disk old mid keeps (Some c.in-Ok-Some.counted) finds) cartridge.contents h gives)
    c.open_side.ensures.gives

pub returns-in-Ok-Some-clause-refused : goal.returns-in-Ok-Some-clause-refused
returns-in-Ok-Some-clause-refused g c =
    let state = g.D.Disk.state in
    let old : TwoDisks g.row.D.Denot = record { first = c.args.first; second = c.args.second } in
    let mid : TwoDisks g.row.D.Denot = record { first = c.choose.new.first; second = c.choose.new.second } in
    let finds = rw c.in-Ok-Some.field-0-is at c.in-Ok-Some.ensures.answer in
    let keeps = c.choose.ensures.disks in
    IfErr-weaker c.open_side.result _ _
    (λ refused why.
    refused_then state old mid (record { first = refused.first; second = refused.second })
    (none_failed state g.met.D.Disk.is_disk old mid keeps (Some c.in-Ok-Some.counted) finds)
    (honest_on state g.met.D.Disk.is_disk old mid keeps)
    (seen_found state g.met.D.Disk.is_disk old mid keeps (Some c.in-Ok-Some.counted) finds) refused.error why)
    c.open_side.ensures.refused

pub returns-in-Ok-Some-clause-any_moment : goal.returns-in-Ok-Some-clause-any_moment
returns-in-Ok-Some-clause-any_moment g c = λ h.
    let state = g.D.Disk.state in
    let old : TwoDisks g.row.D.Denot = record { first = c.args.first; second = c.args.second } in
    let mid : TwoDisks g.row.D.Denot = record { first = c.choose.new.first; second = c.choose.new.second } in
    looked_then state g.met.D.Disk.is_disk old mid c.choose.ensures.disks c.choose.ensures.first
    c.choose.ensures.second _ h c.open_side.ensures.any_moment

pub returns-in-Ok-None-clause-any_moment : goal.returns-in-Ok-None-clause-any_moment
returns-in-Ok-None-clause-any_moment g c =
    looked g.D.Disk.state g.met.D.Disk.is_disk (record { first = c.args.first; second = c.args.second })
    (record { first = c.choose.new.first; second = c.choose.new.second }) c.choose.ensures.disks
    c.choose.ensures.first c.choose.ensures.second

pub returns-in-Err-clause-any_moment : goal.returns-in-Err-clause-any_moment
returns-in-Err-clause-any_moment g c =
    looked g.D.Disk.state g.met.D.Disk.is_disk (record { first = c.args.first; second = c.args.second })
    (record { first = c.choose.new.first; second = c.choose.new.second }) c.choose.ensures.disks
    c.choose.ensures.first c.choose.ensures.second

pub returns-in-Ok-Some-clause-each : goal.returns-in-Ok-Some-clause-each
returns-in-Ok-Some-clause-each g c =
    let state = g.D.Disk.state in
    let effect = g.D.Disk.effect in
    let old : TwoDisks g.row.D.Denot = record { first = c.args.first; second = c.args.second } in
    let mid : TwoDisks g.row.D.Denot = record { first = c.choose.new.first; second = c.choose.new.second } in
    record {
      stays = stays_then state g.met.D.Disk.is_disk old mid _ c.choose.ensures.disks
          (record { first = c.choose.ensures.first; second = c.choose.ensures.second }) c.open_side.ensures.each;
      reads = opens_on effect old mid _
          (record { first = c.choose.ensures.reads.0; second = c.choose.ensures.reads.1 }) c.open_side.ensures.reads;
      begins = begun_on effect old mid _ c.in-Ok-Some.ensures.begins c.open_side.ensures.reads;
    }

pub returns-in-Ok-None-clause-each : goal.returns-in-Ok-None-clause-each
returns-in-Ok-None-clause-each g c = record {
  stays = record { first = c.choose.ensures.first; second = c.choose.ensures.second };
  reads = record { first = c.choose.ensures.reads.0; second = c.choose.ensures.reads.1 };
  begins = inl c.in-Ok-None.ensures.begins;
}

pub returns-in-Err-clause-each : goal.returns-in-Err-clause-each
returns-in-Err-clause-each g c =
    let old : TwoDisks g.row.D.Denot = record { first = c.args.first; second = c.args.second } in
    let new : TwoDisks g.row.D.Denot = record { first = c.choose.new.first; second = c.choose.new.second } in
    record {
      stays = record { first = c.choose.ensures.first; second = c.choose.ensures.second };
      reads = record { first = c.choose.ensures.reads.0; second = c.choose.ensures.reads.1 };
      begins = begun_failed g.D.Disk.effect _ old new c.in-Err.ensures.begins;
    }
