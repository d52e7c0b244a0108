use Rattle.std.proofs.Common.{◌≤◌, ◌++◌, List, ℕ, length, take, replicate, sym, ap, ◌∙◌, arith}
use Rattle.vtl_wire.proofs.EntryLemmas.{padded_all}
use Rattle.vtl_wire.proofs.answer_writers.barcode_bytes.Goals as goal

pub returns-in-Some : goal.returns-in-Some
returns-in-Some c =
    let bytes = c.as_bytes.result.now in
    let same = c.as_bytes.ensures.bytes in
    let few : length bytes ≤ 16 = omega (arith, c.as_bytes.ensures.valid.short, ap length same) in
    rw c.in-Some.is
    (c.with_spaces.ensures ∙ sym (padded_all bytes few) ∙ ap (λ (l : List ℕ). take 16 (l ++ replicate 16 32)) same)
