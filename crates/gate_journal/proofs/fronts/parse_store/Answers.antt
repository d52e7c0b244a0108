use Rattle.std.proofs.Common.{List, ℕ, subst}
use Rattle.gate_journal.specs.declared.header.SideKind.TheVariants.{Store}
use Rattle.gate_journal.specs.Side.{IsName}
use Rattle.gate_journal.proofs.SpelledLemmas.{store_shown}
use Rattle.gate_journal.proofs.fronts.parse_store.Goals as goal

pub returns : goal.returns
returns c =
    let are = c.are_of_store.ensures.0 c.if-not-are_of_store.false in
    store_shown c.args.bytes.now c.requires.begins c.requires.some are.0 are.1
    (subst (λ (name : List ℕ). IsName Store name) c.name_in.ensures are.2)
