use Rattle.std.proofs.Common.{subst, sym, ◌∙◌}
use Rattle.gate_journal.specs.declared.header.SideKind.{SideKind}
use Rattle.gate_journal.specs.Decoding.{IsNotDecoded}
use Rattle.gate_journal.specs.Reads.{SyncsFirst, begins_then, opens_reads}
use Rattle.gate_journal.proofs.DecodingLemmas.{unfinished, unopened}
use Rattle.gate_journal.proofs.journal.Journal.open_decoded.Goals as goal

pub returns-in-Ok-decode_frames-clause-begins : goal.returns-in-Ok-decode_frames-clause-begins
returns-in-Ok-decode_frames-clause-begins g c =
    begins_then g.D.Disk.effect _ _ _ c.in-Ok.ensures.begins
    (opens_reads g.D.Disk.effect _ _ c.decode_frames.ensures.reads)

pub returns-in-Err-decode_frames-clause-begins : goal.returns-in-Err-decode_frames-clause-begins
returns-in-Err-decode_frames-clause-begins g c =
    subst (λ (d : g.row.D.Denot). SyncsFirst g.D.Disk.effect c.args.disk d) (sym c.close-disk.ensures)
    (begins_then g.D.Disk.effect _ _ _ c.in-Ok.ensures.begins
    (opens_reads g.D.Disk.effect _ _ c.decode_frames.ensures.reads))

pub returns-in-Err-decode_frames-clause-refused : goal.returns-in-Err-decode_frames-clause-refused
returns-in-Err-decode_frames-clause-refused g c =
    let opened = c.in-Ok.ensures.ok in
    subst
    (λ (d : g.row.D.Denot). IsNotDecoded g.T.Decodes.has_read g.T.Decodes.refuses g.T.Decodes.KIND
    c.in-Err-decode_frames.error (g.D.Disk.state c.args.disk) (g.D.Disk.state d))
    (sym c.close-disk.ensures)
    (unfinished g.T.Decodes.has_read g.T.Decodes.refuses g.T.Decodes.KIND c.in-Err-decode_frames.error
    c.in-Ok.journal.front c.in-Ok.journal.bodies (g.D.Disk.state c.args.disk)
    (g.D.Disk.state c.in-Ok.journal.disk) (g.D.Disk.state c.decode_frames.new.journal.disk) opened.2
    c.in-Ok.ensures.disk.stays_honest (opened.0 ∙ c.KIND.ensures) opened.3 c.decode_frames.ensures.unwritten
    c.in-Err-decode_frames.ensures.refused)

pub returns-in-Err-clause-refused : goal.returns-in-Err-clause-refused
returns-in-Err-clause-refused g c =
    subst
    (λ (k : SideKind). IsNotDecoded g.T.Decodes.has_read g.T.Decodes.refuses k c.of_opening-error.result
    (g.D.Disk.state c.args.disk) (g.D.Disk.state c.in-Err.refused.disk))
    c.KIND.ensures
    (unopened g.T.Decodes.has_read g.T.Decodes.refuses c.KIND.result c.in-Err.refused.error c.of_opening-error.result
    (g.D.Disk.state c.args.disk) (g.D.Disk.state c.in-Err.refused.disk) c.of_opening-error.ensures
    c.in-Err.ensures.refused)
