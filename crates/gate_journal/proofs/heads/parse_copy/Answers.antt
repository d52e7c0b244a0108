use Rattle.std.proofs.Common.{◌+◌, ◌*◌, ◌-◌, ℕ, List, get_or, sym, ◌∙◌, ap, true, arith}
use Rattle.std.proofs.lemmas.Bool.{false≢true}
use Rattle.std.proofs.lemmas.List.{take_rest}
use Rattle.gate_journal.specs.Inner.Heads.{copied_in}
use Rattle.gate_journal.proofs.HeadLemmas.{found_copy, not_copy}
use Rattle.gate_journal.proofs.heads.parse_copy.Goals as goal
use Rattle.gate_journal.proofs.heads.parse_copy.Goals.{then-bytes-size-via-then-bytes-size, then-bytes-size-via-else-bytes-size+then-not-are_fields}

pub returns-then-bytes-size : goal.returns-then-bytes-size
returns-then-bytes-size c = elim c.then-bytes-size.branch [
  | then-bytes-size-via-then-bytes-size w ↦ not_copy c.args.bytes.now c.requires.copy
      (λ enough ok. absurd (omega (arith, enough, w.if-bytes-size.true)))
  | then-bytes-size-via-else-bytes-size+then-not-are_fields w ↦ not_copy c.args.bytes.now c.requires.copy
      (λ enough ok. false≢true (sym w.if-not-are_fields.true ∙ w.are_fields.ensures.1 ok))
]

pub returns : goal.returns
returns c =
    let bytes = c.args.bytes.now in
    found_copy bytes (λ i. omega (arith, c.type_inv.bytes i)) c.copied_at.result c.requires.copy c.if-bytes-size.false
    (c.are_fields.ensures.0 c.if-not-are_fields.false)
    (c.copied_at.ensures.is
    ∙ ap (λ (l : List ℕ). copied_in true l) (take_rest bytes (17 + 8 * (get_or bytes 0 0 - 128))))
    c.copied_at.ensures.fits
