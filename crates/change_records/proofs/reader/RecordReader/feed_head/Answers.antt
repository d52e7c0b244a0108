use Rattle.std.proofs.Common.{◌≡◌, ◌<◌, length, sym, ◌∙◌, arith, refl}
use Rattle.change_records.proofs.ReaderLemmas.{bad_more, filled_bad, filled_short, filled_decoded, filled_whole}
use Rattle.change_records.proofs.reader.RecordReader.feed_head.Goals as goal

pub returns-then-len-eq-RECORD_HEAD-clause-feeds : goal.returns-then-len-eq-RECORD_HEAD-clause-feeds
returns-then-len-eq-RECORD_HEAD-clause-feeds c =
    let none = rw (← c.self.view_is) at c.requires.none in
    rw (← c.self.view_is) (λ before changes after.
    bad_more before c.args.piece.now changes _ _ after none
    (omega (arith, c.if-len-eq-RECORD_HEAD.true, c.len.ensures.len)) none refl refl refl)

pub returns-then-len-lt-RECORD_HEAD-clause-feeds : goal.returns-then-len-lt-RECORD_HEAD-clause-feeds
returns-then-len-lt-RECORD_HEAD-clause-feeds c =
    let none = rw (← c.self.view_is) at c.requires.none in
    rw (← c.self.view_is) (λ before changes after.
    let missing : length c.self.inside.head < 10 =
    omega (arith, c.if-len-eq-RECORD_HEAD.false, c.len.ensures.len, c.len.ensures.bound) in
    filled_short before c.args.piece.now changes _ _ c.fill-count.result after none missing
    c.fill-count.ensures.taken c.fill-count.ensures.bytes
    (omega (arith, c.if-len-lt-RECORD_HEAD.true, c.len-2.ensures.len)) none refl refl)

pub returns-in_default-clause-feeds : goal.returns-in_default-clause-feeds
returns-in_default-clause-feeds c =
    let none = rw (← c.self.view_is) at c.requires.none in
    rw (← c.self.view_is) (λ before changes after.
    let missing : length c.self.inside.head < 10 =
    omega (arith, c.if-len-eq-RECORD_HEAD.false, c.len.ensures.len, c.len.ensures.bound) in
    let whole : length c.fill-count.new.self ≡ 10 =
    omega (arith, c.if-len-lt-RECORD_HEAD.false, c.len-2.ensures.len, c.len-2.ensures.bound) in
    filled_bad before c.args.piece.now changes _ _ c.fill-count.result after none missing
    c.fill-count.ensures.taken c.fill-count.ensures.bytes whole (sym (c.item.ensures.item whole) ∙ c.in_default.is)
    none refl refl)

pub returns-then-self-gt0-clause-feeds : goal.returns-then-self-gt0-clause-feeds
returns-then-self-gt0-clause-feeds c =
    let none = rw (← c.self.view_is) at c.requires.none in
    rw (← c.self.view_is) (λ before changes after.
    let missing : length c.self.inside.head < 10 =
    omega (arith, c.if-len-eq-RECORD_HEAD.false, c.len.ensures.len, c.len.ensures.bound) in
    let whole : length c.fill-count.new.self ≡ 10 =
    omega (arith, c.if-len-lt-RECORD_HEAD.false, c.len-2.ensures.len, c.len-2.ensures.bound) in
    c.feed_block.ensures.feeds before changes
    (filled_decoded before c.args.piece.now changes _ _ c.fill-count.result after none missing
    c.fill-count.ensures.taken c.fill-count.ensures.bytes whole (sym (c.item.ensures.item whole) ∙ c.in-Some.is)
    c.in-Some.ensures.front c.length_of-self-inside.ensures c.if-self-gt0.true refl refl))

pub returns-clause-feeds : goal.returns-clause-feeds
returns-clause-feeds c =
    let none = rw (← c.self.view_is) at c.requires.none in
    rw (← c.self.view_is) (λ before changes after.
    let missing : length c.self.inside.head < 10 =
    omega (arith, c.if-len-eq-RECORD_HEAD.false, c.len.ensures.len, c.len.ensures.bound) in
    let whole : length c.fill-count.new.self ≡ 10 =
    omega (arith, c.if-len-lt-RECORD_HEAD.false, c.len-2.ensures.len, c.len-2.ensures.bound) in
    filled_whole before c.args.piece.now changes _
    (record {
      head = c.fill-count.new.self;
      item = c.in-Some.item;
      left = 0;
      begin = 0;
      at = 0;
    }) c.fill-count.result after none missing
    c.fill-count.ensures.taken c.fill-count.ensures.bytes c.in-Some.item _ whole c.in-Some.ensures.front
    (omega (arith, c.length_of-self-inside.ensures, c.if-self-gt0.false)) c.new-self-inside.ensures
    (omega (arith, c.if-self-gt0.false)) refl refl)
