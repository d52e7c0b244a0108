use Rattle.std.proofs.Common.{◌∙◌, ap, replicate, sym}
use Rattle.std.proofs.lemmas.List.{length-replicate}
use Rattle.change_records.specs.declared.records.Record.{Record}
use Rattle.change_records.specs.Records.{outlined}
use Rattle.volume_core.specs.Volume.{demand_of}
use Rattle.change_records.proofs.records.Record.demand.Goals as goal

pub returns-in-Put : goal.returns-in-Put
returns-in-Put c =
    c.block.ensures c.in-Put.part c.in-Put.at (replicate c.in-Put.length 0) (length-replicate c.in-Put.length 0)
    ∙ ap (λ (item : Record). demand_of (outlined item)) (sym c.in-Put.is)

pub returns-in-Marks : goal.returns-in-Marks
returns-in-Marks c =
    c.marks.ensures c.in-Marks.part c.in-Marks.at
    ∙ ap (λ (item : Record). demand_of (outlined item)) (sym c.in-Marks.is)

pub returns-in-Erase : goal.returns-in-Erase
returns-in-Erase c =
    c.nothing.ensures c.in-Erase.part c.in-Erase.at
    ∙ ap (λ (item : Record). demand_of (outlined item)) (sym c.in-Erase.is)
