use Rattle.std.proofs.Common.{◌≡◌, ◌++◌, drop, ap, subst, ◌∙◌}
use Rattle.std.proofs.lemmas.List.{take-append-drop}
use Rattle.file_disk.specs.Inner.Doubts.{BeginsSo}
use Rattle.file_disk.proofs.begins.beginning_of.Goals as goal

pub returns-in-Ok-clause-begins : goal.returns-in-Ok-clause-begins
returns-in-Ok-clause-begins g c = λ honest.
    let seen = (g.F.RawFile.state c.args.looked.now.file).seen in
    let split : c.read_at.new.buffer ++ drop 10 seen ≡ seen =
    ap (λ t. t ++ drop 10 seen) (c.in-Ok.ensures.bytes honest) ∙ take-append-drop 10 seen in
    subst (λ t. BeginsSo c.begins_with.result t) split (c.begins_with.ensures (drop 10 seen))
