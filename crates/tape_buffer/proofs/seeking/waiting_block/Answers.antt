use Rattle.std.proofs.Common.{◌≡◌, ◌∙◌, Some, ap, sym}
use Rattle.std.specs.Prelude.{slice_get}
use Rattle.std.proofs.lemmas.Option.{slice_get-get_or}
use Rattle.tape_buffer.proofs.FetchingLemmas.{short_block}
use Rattle.tape_buffer.proofs.SeekingLemmas.{last_inside, puts_block}
use Rattle.tape_buffer.proofs.seeking.waiting_block.Goals as goal

pub bounds-changes-number : goal.bounds-changes-number
bounds-changes-number c =
    last_inside c.requires.0 c.args.changes.now c.args.part c.args.at c.in-Some.number
    (c.in-Some.ensures c.requires.0 c.requires.1) c.requires.2

pub returns-clause-waits : goal.returns-clause-waits
returns-clause-waits c = λ volume all block.
    let changes = c.args.changes.now in
    let number = c.in-Some.number in
    let change = c.index-changes-number.result in
    let last = c.in-Some.ensures volume all in
    let is : slice_get changes number ≡ Some change =
    slice_get-get_or changes number change (last_inside volume changes c.args.part c.args.at number last block)
    ∙ ap Some (sym c.index-changes-number.is) in (
      puts_block volume changes c.args.part c.args.at number last block change is c.in-Put.part c.in-Put.at
          c.in-Put.block c.in-Put.is,
      short_block volume changes number c.in-Put.part c.in-Put.at c.in-Put.block all (is ∙ ap Some c.in-Put.is),
    )
