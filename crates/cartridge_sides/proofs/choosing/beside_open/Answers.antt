use Rattle.cartridge_sides.proofs.ChooseLemmas.{greater_counts, pair_second_headless}
use Rattle.cartridge_sides.proofs.choosing.beside_open.Goals as goal

pub returns-in-Open : goal.returns-in-Open
returns-in-Open c =
    greater_counts c.args.first.now c.args.second.now c.requires.pair c.requires.second.1 c.args.one c.in-Open.two
    c.greater.result c.requires.first c.in-Open.ensures c.greater.ensures

pub returns-in-Headless : goal.returns-in-Headless
returns-in-Headless c =
    pair_second_headless c.args.first.now c.args.second.now c.requires.pair c.in-Headless.ensures
