use Rattle.std.proofs.Common.{◌<◌, ◌∙◌, length, arith}
use Rattle.std.proofs.lemmas.List.{length-set}
use Rattle.library.proofs.SeenLemmas.{drives_on, slot_there}
use Rattle.library.proofs.libraries.Library.inventory.Goals as goal

pub loop-place-preserved : goal.loop-place-preserved
loop-place-preserved g c =
    let inv = c.loop-place.invariant in
    let seen = c.loop-place.drives in
    let at = c.loop-place.place in
    let one = c.seen_in_drive.result in
    let within : at < length seen = omega (arith, inv.long, c.loop-place-test.true) in
    record {
      long = length-set seen at one ∙ inv.long;
      so = drives_on seen c.args.self.now at one within c.seen_in_drive.ensures inv.so;
    }

pub returns-clause-drives : goal.returns-clause-drives
returns-clause-drives g c = λ number less.
    c.loop-place.invariant.so number (omega (arith, less, c.loop-place-test.false))

pub returns-clause-slots : goal.returns-clause-slots
returns-clause-slots g c = λ place less. slot_there _ _ (c.seen.ensures place less)
