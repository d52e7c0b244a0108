use Rattle.change_records.specs.Records.{record_part}
use Rattle.object_index.specs.Places.{reserved_of}
use Rattle.cartridge.proofs.EnterLemmas.{takes_one}
use Rattle.cartridge.proofs.shown.enter_item.Goals as goal

pub returns-clause-reserved : goal.returns-clause-reserved
returns-clause-reserved c =
    takes_one c.args.index.now c.requires.0 c.requires.1 c.requires.3 c.apply.new.self c.args.item
    (reserved_of c.apply.new.self (record_part c.args.item)) c.requires.2 c.in-Ok.ensures.answer.1
    c.in-Ok.ensures.reserved
