use Rattle.std.proofs.Common.{◌∙◌, ap, map}
use Rattle.gate_journal.specs.Side.{heading_of}
use Rattle.object_index.specs.Places.{empty_placed}
use Rattle.cartridge.proofs.OpeningLemmas.{capacities_fit, read_none}
use Rattle.cartridge.proofs.recovering.RecoveredDecodes.begin.Goals as goal

pub new-requires : goal.new-requires
new-requires c =
    rw c.deref.ensures.value (capacities_fit (heading_of c.args.header.now) c.requires.valid c.requires.kind)

pub returns : goal.returns
returns c =
    read_none (heading_of c.args.header.now) c.in_ok-index.index c.new-noted.result.notes c.requires.kind
    c.requires.valid (c.in_ok-index.ensures ∙ ap (map empty_placed) c.deref.ensures.value) c.new-noted.ensures
