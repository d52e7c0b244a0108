use Rattle.std.proofs.Common.{◌∙◌, List, ap, sym, ◌%◌}
use Rattle.split_bay.specs.declared.items.Item.{Item}
use Rattle.split_bay.specs.Spans.{spans_in}
use Rattle.split_bay.proofs.HalvesLemmas.{stored_both}
use Rattle.split_bay.proofs.halves.make_room.Goals as goal

pub returns-then-not-lacks_room : goal.returns-then-not-lacks_room
returns-then-not-lacks_room g c =
    let room = c.renew.ensures in
    (room.0, room.1, sym c.lacks_room.ensures ∙ c.if-not-lacks_room.true)

pub settle_both-turn-requires : goal.settle_both-turn-requires
settle_both-turn-requires g c =
    let parts = c.renew.ensures.1.parts in
    record {
      number_is = sym parts.number;
      spans = ap (λ (l : List Item). spans_in l % 18446744073709551616) (sym parts.level);
    }

pub returns : goal.returns
returns g c =
    let room = c.renew.ensures in
    let settles = c.settle_both-turn.ensures in
    record {
      joined = room.0;
      between = c.renew.new.front;
      between' = c.renew.new.back;
      holds = room.1;
      lacks = sym c.lacks_room.ensures ∙ c.if-not-lacks_room.false;
      turn = c.settle_both-turn.result;
      settles = settles;
      error_is = c.no_room-error.ensures;
      stored =
          stored_both g.D.Disk.state c.renew.new.front c.renew.new.back c.settle_both-turn.result
          c.settle_both-turn.new.front c.settle_both-turn.new.back settles;
    }
