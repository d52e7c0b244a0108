use Rattle.cartridge.proofs.EnterLemmas.{is_record}
use Rattle.cartridge.proofs.shown.enter_shown.Goals as goal

pub of-requires : goal.of-requires
of-requires c =
    is_record c.args.index.now c.requires.0 c.args.change.now c.requires.1.shows c.requires.1.none c.parts.result
    c.parts.ensures.parts c.parts.ensures.few

pub enter_item-requires : goal.enter_item-requires
enter_item-requires c = (c.requires.0, c.args.change.now, c.of.ensures, c.requires.1)
