use Rattle.std.proofs.Common.{◌≡◌, ◌<◌, length, sym, ◌∙◌, arith, refl}
use Rattle.sealed_records.proofs.ReaderLemmas.{bad_more, filled_bad, filled_short, filled_decoded, filled_whole}
use Rattle.sealed_records.proofs.reader.SealedReader.feed_head.Goals as goal

pub returns-then-len-eq-SEALED_HEAD-clause-feeds :
    goal.returns-then-len-eq-SEALED_HEAD-clause-feeds
returns-then-len-eq-SEALED_HEAD-clause-feeds c =
    let none = rw (← c.self.view_is) at c.requires.none in
    rw (← c.self.view_is) (λ before laids after.
    rw c.refusal-error.ensures
    (bad_more before laids _ after c.args.piece.now _ none
    (omega (arith, c.if-len-eq-SEALED_HEAD.true, c.len.ensures.len)) refl))

pub returns-then-len-lt-SEALED_HEAD-clause-feeds :
    goal.returns-then-len-lt-SEALED_HEAD-clause-feeds
returns-then-len-lt-SEALED_HEAD-clause-feeds c =
    let none = rw (← c.self.view_is) at c.requires.none in
    rw (← c.self.view_is) (λ before laids after.
    let missing : length c.self.inside.head < 18 =
    omega (arith, c.if-len-eq-SEALED_HEAD.false, c.len.ensures.len, c.len.ensures.bound) in
    filled_short before laids _ after c.args.piece.now c.fill-taken.result c.fill-taken.new.self none missing
    c.fill-taken.ensures.taken c.fill-taken.ensures.bytes _
    (omega (arith, c.if-len-lt-SEALED_HEAD.true, c.len-2.ensures.len)) refl)

pub returns-in_default-clause-feeds : goal.returns-in_default-clause-feeds
returns-in_default-clause-feeds c =
    let none = rw (← c.self.view_is) at c.requires.none in
    rw (← c.self.view_is) (λ before laids after.
    let missing : length c.self.inside.head < 18 =
    omega (arith, c.if-len-eq-SEALED_HEAD.false, c.len.ensures.len, c.len.ensures.bound) in
    let whole : length c.fill-taken.new.self ≡ 18 =
    omega (arith, c.if-len-lt-SEALED_HEAD.false, c.len-2.ensures.len, c.len-2.ensures.bound) in
    rw c.refusal-error-in_default.ensures
    (filled_bad before laids _ after c.args.piece.now c.fill-taken.result c.fill-taken.new.self none missing
    c.fill-taken.ensures.taken c.fill-taken.ensures.bytes _ whole
    (sym (c.item.ensures.item whole) ∙ c.in_default.is) refl))

pub returns-then-self-gt0-clause-feeds : goal.returns-then-self-gt0-clause-feeds
returns-then-self-gt0-clause-feeds c =
    let none = rw (← c.self.view_is) at c.requires.none in
    rw (← c.self.view_is) (λ before laids after.
    let missing : length c.self.inside.head < 18 =
    omega (arith, c.if-len-eq-SEALED_HEAD.false, c.len.ensures.len, c.len.ensures.bound) in
    let whole : length c.fill-taken.new.self ≡ 18 =
    omega (arith, c.if-len-lt-SEALED_HEAD.false, c.len-2.ensures.len, c.len-2.ensures.bound) in
    filled_decoded before laids _ after c.args.piece.now c.fill-taken.result c.fill-taken.new.self none missing
    c.fill-taken.ensures.taken c.fill-taken.ensures.bytes c.in-Some.item _ whole
    (sym (c.item.ensures.item whole) ∙ c.in-Some.is) c.in-Some.ensures.front _ c.length_of-self-inside.ensures
    c.if-self-gt0.true refl)

pub returns-clause-feeds : goal.returns-clause-feeds
returns-clause-feeds c =
    let none = rw (← c.self.view_is) at c.requires.none in
    rw (← c.self.view_is) (λ before laids after.
    let missing : length c.self.inside.head < 18 =
    omega (arith, c.if-len-eq-SEALED_HEAD.false, c.len.ensures.len, c.len.ensures.bound) in
    let whole : length c.fill-taken.new.self ≡ 18 =
    omega (arith, c.if-len-lt-SEALED_HEAD.false, c.len-2.ensures.len, c.len-2.ensures.bound) in
    rw c.new-self-inside.ensures
    (filled_whole before laids _ after c.args.piece.now c.fill-taken.result c.fill-taken.new.self none missing
    c.fill-taken.ensures.taken c.fill-taken.ensures.bytes c.in-Some.item c.in-Some.item _
    c.length_of-self-inside.result c.sum-sum.result whole c.in-Some.ensures.front
    (omega (arith, c.length_of-self-inside.ensures, c.if-self-gt0.false)) (omega (arith, c.if-self-gt0.false)) refl
    (c.sum-sum.ensures whole)))
