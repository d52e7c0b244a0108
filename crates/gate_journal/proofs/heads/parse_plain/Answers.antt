use Rattle.std.proofs.Common.{sym, ◌∙◌, arith}
use Rattle.std.proofs.lemmas.Bool.{false≢true}
use Rattle.gate_journal.proofs.HeadLemmas.{found_plain, not_plain}
use Rattle.gate_journal.proofs.heads.parse_plain.Goals as goal
use Rattle.gate_journal.proofs.heads.parse_plain.Goals.{then-bytes-size-via-then-bytes-size, then-bytes-size-via-else-bytes-size+then-not-are_fields}

pub returns-then-bytes-size : goal.returns-then-bytes-size
returns-then-bytes-size c = elim c.then-bytes-size.branch [
  | then-bytes-size-via-then-bytes-size w ↦ not_plain c.args.bytes.now c.requires.plain
      (λ enough ok. absurd (omega (arith, enough, w.if-bytes-size.true)))
  | then-bytes-size-via-else-bytes-size+then-not-are_fields w ↦ not_plain c.args.bytes.now c.requires.plain
      (λ enough ok. false≢true (sym w.if-not-are_fields.true ∙ w.are_fields.ensures.1 ok))
]

pub returns : goal.returns
returns c = found_plain c.args.bytes.now (λ i. omega (arith, c.type_inv.bytes i)) c.requires.plain c.if-bytes-size.false
    (c.are_fields.ensures.0 c.if-not-are_fields.false)
