use Rattle.std.proofs.Common.{◌≡◌, ◌∙◌, ◌++◌, List, ℕ, ap}
use Rattle.std.proofs.lemmas.Fmt.{contents_after_writes}
use Rattle.arrayvec.specs.ArrayString.{ArrayString}
use Rattle.vtl_faults.specs.Faults.{whole_line}
use Rattle.vtl_faults.proofs.lines.whole_line.Goals as goal

pub returns : goal.returns
returns c =
    contents_after_writes (λ (old : ArrayString) (bytes : List ℕ) (new : ArrayString). new.bytes ≡ old.bytes ++ bytes)
    (λ (text : ArrayString). text.bytes) (λ old bytes new is. is) c.new-text.result (whole_line c.args.line.fault)
    c.writeln.new.self c.in_ok-writeln.ensures.writes
    ∙ ap (λ (xs : List ℕ). xs ++ whole_line c.args.line.fault) c.new-text.ensures
