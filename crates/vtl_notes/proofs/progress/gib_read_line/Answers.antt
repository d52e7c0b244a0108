use Rattle.std.proofs.Common.{◌∙◌, ◌++◌, List, ℕ, ap}
use Rattle.std.proofs.lemmas.Fmt.{contents_after_writes}
use Rattle.arrayvec.specs.ArrayString.{ArrayString}
use Rattle.vtl_notes.specs.Progress.{gib_read_line}
use Rattle.vtl_notes.proofs.progress.gib_read_line.Goals as goal

pub returns : goal.returns
returns c =
    contents_after_writes _ (λ (text : ArrayString). text.bytes) (λ old bytes new is. is) c.new-text.result _
    c.writeln.new.self c.in_ok-writeln.ensures.writes
    ∙ ap (λ (xs : List ℕ). xs ++ gib_read_line c.args.full c.args.all) c.new-text.ensures
