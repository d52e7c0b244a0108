use Rattle.std.proofs.Common.{rules}
use Rattle.test_media.proofs.MediumLemmas.{settles_by, stores_by}
use Rattle.test_media.proofs.media.calls.StagedMediumMedium.settle.Goals as goal

pub returns-clause-answer : goal.returns-clause-answer
returns-clause-answer c =
    settles_by c.args.self.now c.store.new.self c.store.result c.requires.awake (search rules) c.store.ensures

pub returns-clause-stores : goal.returns-clause-stores
returns-clause-stores c = stores_by c.args.self.now c.store.new.self c.store.result c.requires.awake c.store.ensures
