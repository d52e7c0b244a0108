use Rattle.std.proofs.Common.{◌∙◌, ap, sym}
use Rattle.volume_core.specs.Volume.{demand_of}
use Rattle.volume_core.proofs.changes.Change.demand.Goals as goal

pub returns-in-Put : goal.returns-in-Put
returns-in-Put c =
    c.block.ensures c.in-Put.part c.in-Put.at c.in-Put.block (sym c.len.ensures.len) ∙ ap demand_of (sym c.in-Put.is)

pub returns-in-Marks : goal.returns-in-Marks
returns-in-Marks c = c.marks.ensures c.in-Marks.part c.in-Marks.at ∙ ap demand_of (sym c.in-Marks.is)

pub returns-in-Erase : goal.returns-in-Erase
returns-in-Erase c = c.nothing.ensures c.in-Erase.part c.in-Erase.at ∙ ap demand_of (sym c.in-Erase.is)
