use Rattle.std.proofs.Common.{arith}
use Rattle.vtl_hosts.proofs.LookLemmas.{leaves_more, looks_more}
use Rattle.vtl_hosts.proofs.looking.are_empty.Goals as goal

pub loop-place-preserved : goal.loop-place-preserved
loop-place-preserved g c =
    let so = c.loop-place.invariant.looks in
    record {
      looks =
          looks_more c.args.hosts.now c.args.requests.now c.args.answers.now c.loop-place.hosts c.loop-place.requests
          c.loop-place.answers c.loop-place.empty c.loop-place.place c.index-hosts-place.result
          c.index-requests-place.result c.index-answers-place.result c.is_empty_at-here.new.host
          c.is_empty_at-here.new.requests c.is_empty_at-here.new.answers c.is_empty_at-here.result
          c.both-empty.result
          (omega (arith, c.loop-place-test.true, c.loop-place.auto.hosts, c.loop-place.auto.place-end))
          c.both-empty.ensures so c.is_empty_at-here.ensures.looks;
      some =
          leaves_more c.loop-place.hosts c.loop-place.answers c.loop-place.place c.is_empty_at-here.new.host
          c.is_empty_at-here.new.answers c.loop-place.empty c.is_empty_at-here.result c.both-empty.result
          (omega (arith, c.loop-place-test.true, c.loop-place.auto.hosts, c.loop-place.auto.place-end, so.long))
          (omega (
            arith,
            c.loop-place-test.true,
            c.loop-place.auto.hosts,
            c.loop-place.auto.place-end,
            so.as_many_answers,
          ))
          c.both-empty.ensures
          c.loop-place.invariant.some c.is_empty_at-here.ensures.some;
    }
