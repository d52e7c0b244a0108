use Rattle.std.proofs.Common.{List, ℕ, Some, subst}
use Rattle.std.proofs.lemmas.List.{take_rest}
use Rattle.gate_journal.specs.Heads.{ParsesHead}
use Rattle.gate_journal.proofs.SpelledLemmas.{front_parsed}
use Rattle.gate_journal.proofs.fronts.parse_cartridge.Goals as goal

pub returns-in-Some : goal.returns-in-Some
returns-in-Some c =
    let bytes = c.args.bytes.now in
    front_parsed bytes c.requires.begins c.in-Some.head
    (subst (λ (l : List ℕ). ParsesHead l (Some c.in-Some.head)) (take_rest bytes 10) c.in-Some.ensures)
