use Rattle.std.proofs.Common.{◌≤◌, length, take, drop, arith}
use Rattle.std.proofs.lemmas.List.{length-drop}
use Rattle.test_media.proofs.MediumLemmas.{broken_is}
use Rattle.test_media.proofs.media.StagedMedium.store.Goals as goal

-- a device that fails leaves all but its mark
pub returns-then-blows : goal.returns-then-blows
returns-then-blows c =
    let inside = c.self.inside in
    let some : 1 ≤ length (drop inside.stored inside.log.items) =
    omega (arith, c.if-self-len.true, length-drop inside.stored inside.log.items, c.len.ensures) in
    rw (← c.self.view_is) (
      some,
      (
        inside.tears,
        broken_is
            (record {
              capacities = inside.capacities.items;
              stored = take inside.stored inside.log.items;
              rest = drop inside.stored inside.log.items;
              is_torn = inside.is_torn;
              awake = inside.awake;
              failed = inside.failed;
              room = inside.room;
              alone_below = inside.alone_below;
              faults = _;
            })
            inside.tears
            _
            (omega (arith, c.if-blows.ensures.times)),
      ),
    )
