use Rattle.std.proofs.Common.{◌≡◌, ◌∙◌, ap, sym, arith, ℕ, List, ◌++◌, length, take, drop}
use Rattle.std.specs.Int.{to_be_bytes, w32}
use Rattle.std.proofs.lemmas.List.{take_at, drop_at}
use Rattle.volume_core.specs.declared.changes.Change.{Change}
use Rattle.change_records.specs.Records.{spell_change}
use Rattle.sealed_records.specs.Sealed.{block_of, head_spelled, head_sum, laid_with, spell_laid}
use Rattle.sealed_records.proofs.HeadLemmas.{head_then_block, ten_spelled}
use Rattle.sealed_records.proofs.spelling.sealed_parts.Goals as goal

parts : (seed place sum : ℕ) (change : Change) (plain head block : List ℕ) → length plain ≡ 10
    → plain ++ block ≡ spell_change change
    → head ≡ (plain ++ to_be_bytes w32 sum) ++ to_be_bytes w32 (head_sum seed place (plain ++ to_be_bytes w32 sum))
    → head ++ block ≡ spell_laid seed place (laid_with change sum)
parts seed place sum change plain head block long whole is =
    let two : plain ++ block ≡ head_spelled change ++ block_of change = whole ∙ head_then_block change in
    let plain_is : plain ≡ head_spelled change =
    sym (take_at plain block 10 long) ∙ ap (take 10) two
    ∙ take_at (head_spelled change) (block_of change) 10 (ten_spelled change) in
    let block_is : block ≡ block_of change =
    sym (drop_at plain block 10 long) ∙ ap (drop 10) two
    ∙ drop_at (head_spelled change) (block_of change) 10 (ten_spelled change) in
    ap (λ (h : List ℕ). h ++ block) is
    ∙ (λ z. ((plain_is z ++ to_be_bytes w32 sum)
    ++ to_be_bytes w32 (head_sum seed place (plain_is z ++ to_be_bytes w32 sum))) ++ block_is z)

pub returns : goal.returns
returns c =
    parts c.args.seed c.args.place c.args.sum c.args.change.now c.spelled_parts.result.0 c.sealed_head.result
    c.spelled_parts.result.1.now (omega arith) c.spelled_parts.ensures c.sealed_head.ensures
