use Rattle.std.proofs.Common.{refl, ap, ◌∙◌}
use Rattle.vtl_script.specs.declared.items.Item.TheVariants.{Phase}
use Rattle.vtl_script.proofs.PhaseLemmas.{items_read, takes_lines}
use Rattle.vtl_script.proofs.ReadingLemmas.{past_anyway}
use Rattle.vtl_script.proofs.items.read_items.Goals as goal

pub returns-clause-ok : goal.returns-clause-ok
returns-clause-ok g c =
    items_read _ _ _ c.args.line_reader.now c.read_phase.new.line_reader c.in_ok-lines.field-0 _
    c.in_ok-lines.ensures.ok refl
    (ap Phase (c.from_vec.ensures ∙ c.in_ok-sort_by_host.ensures.order)) refl

pub returns-in_err-sort_by_host-clause-past : goal.returns-in_err-sort_by_host-clause-past
returns-in_err-sort_by_host-clause-past g c =
    past_anyway _ _ c.args.line_reader.now.bytes _
    (takes_lines _ _ _ c.args.line_reader.now _ _ _ c.in_ok-lines.ensures.ok.reads)
