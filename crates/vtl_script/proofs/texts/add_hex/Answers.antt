use Rattle.std.proofs.Common.{[], ◌∷◌}
use Rattle.std.proofs.lemmas.Result.{on_ok_weaker, on_err_weaker}
use Rattle.hex.specs.Hex.{encode_lower}
use Rattle.vtl_script.proofs.ReadingLemmas.{on_err}
use Rattle.vtl_script.proofs.TextLemmas.{adds_none, adds_on, part_behind, part_longer, word_none, word_some}
use Rattle.vtl_script.proofs.texts.add_hex.Goals as goal

pub returns-then-is_empty-clause-ok : goal.returns-then-is_empty-clause-ok
returns-then-is_empty-clause-ok g c =
    rw (word_none c.args.bytes.now c.is_empty.result c.is_empty.ensures c.if-is_empty.true) (adds_none _ _)

pub returns-in_err-add-clause-err : goal.returns-in_err-add-clause-err
returns-in_err-add-clause-err g c =
    rw (word_some c.args.bytes.now c.is_empty.result c.is_empty.ensures c.if-is_empty.false) (on_err _ _
    (part_longer _ _ c.args.text.now (32 ∷ []) (encode_lower c.args.bytes.now) c.in_err-add.ensures.err))

pub returns-clause-ok : goal.returns-clause-ok
returns-clause-ok g c =
    rw (word_some c.args.bytes.now c.is_empty.result c.is_empty.ensures c.if-is_empty.false) (on_ok_weaker
    c.add_digits.result (λ adds. adds_on _ _ _ c.args.text.now c.add.new.self c.add_digits.new.text (32 ∷ [])
    (encode_lower c.args.bytes.now) c.in_ok-add.ensures.ok adds) c.add_digits.ensures.ok)

pub returns-clause-err : goal.returns-clause-err
returns-clause-err g c =
    rw (word_some c.args.bytes.now c.is_empty.result c.is_empty.ensures c.if-is_empty.false) (on_err_weaker
    c.add_digits.result (λ part. part_behind _ _ _ c.args.text.now c.add.new.self (32 ∷ [])
    (encode_lower c.args.bytes.now) c.in_ok-add.ensures.ok part) c.add_digits.ensures.err)
