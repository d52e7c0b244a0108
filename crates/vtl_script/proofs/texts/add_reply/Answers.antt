use Rattle.std.proofs.Common.{[], ◌∷◌, ◌++◌}
use Rattle.std.proofs.lemmas.Result.{on_ok_weaker, on_err_weaker}
use Rattle.vtl_script.specs.Text.{hex_word, status_text, sense_text}
use Rattle.vtl_script.proofs.ReadingLemmas.{on_err}
use Rattle.vtl_script.proofs.TextLemmas.{adds_on, part_behind, part_longer}
use Rattle.vtl_script.proofs.texts.add_reply.Goals as goal

pub returns-in_err-add-clause-err : goal.returns-in_err-add-clause-err
returns-in_err-add-clause-err g c =
    let text = c.args.text.now in
    let status = status_text c.args.reply.now.status in
    let sense = sense_text c.args.reply.now.sense in
    let word = hex_word c.args.reply.now.bytes in
    on_err _ _ (part_longer _ _ text (status ++ sense ++ word) (10 ∷ []) (part_longer _ _ text (status ++ sense) word
    (part_longer _ _ text status sense (rw c.name_of.ensures.name at c.in_err-add.ensures.err))))

pub returns-in_err-add_sense-clause-err : goal.returns-in_err-add_sense-clause-err
returns-in_err-add_sense-clause-err g c =
    let text = c.args.text.now in
    let status = status_text c.args.reply.now.status in
    let sense = sense_text c.args.reply.now.sense in
    let word = hex_word c.args.reply.now.bytes in
    on_err _ _ (part_longer _ _ text (status ++ sense ++ word) (10 ∷ []) (part_longer _ _ text (status ++ sense) word
    (part_behind _ _ _ text c.add.new.self status sense (rw c.name_of.ensures.name at c.in_ok-add.ensures.ok)
    c.in_err-add_sense.ensures.err)))

pub returns-in_err-add_hex-clause-err : goal.returns-in_err-add_hex-clause-err
returns-in_err-add_hex-clause-err g c =
    let text = c.args.text.now in
    let status = status_text c.args.reply.now.status in
    let sense = sense_text c.args.reply.now.sense in
    let word = hex_word c.args.reply.now.bytes in
    let two = adds_on _ _ _ text c.add.new.self c.add_sense.new.text status sense
    (rw c.name_of.ensures.name at c.in_ok-add.ensures.ok) c.in_ok-add_sense.ensures.ok in
    on_err _ _ (part_longer _ _ text (status ++ sense ++ word) (10 ∷ [])
    (part_behind _ _ _ text c.add_sense.new.text (status ++ sense) word two
    (rw c.as_slice.ensures at c.in_err-add_hex.ensures.err)))

pub returns-clause-ok : goal.returns-clause-ok
returns-clause-ok g c =
    let text = c.args.text.now in
    let status = status_text c.args.reply.now.status in
    let sense = sense_text c.args.reply.now.sense in
    let word = hex_word c.args.reply.now.bytes in
    let two = adds_on _ _ _ text c.add.new.self c.add_sense.new.text status sense
    (rw c.name_of.ensures.name at c.in_ok-add.ensures.ok) c.in_ok-add_sense.ensures.ok in
    let three = adds_on _ _ _ text c.add_sense.new.text c.add_hex.new.text (status ++ sense) word two
    (rw c.as_slice.ensures at c.in_ok-add_hex.ensures.ok) in
    on_ok_weaker c.add-2.result (λ last. adds_on _ _ _ text c.add_hex.new.text c.add-2.new.self
    (status ++ sense ++ word) (10 ∷ []) three last) c.add-2.ensures.ok

pub returns-clause-err : goal.returns-clause-err
returns-clause-err g c =
    let text = c.args.text.now in
    let status = status_text c.args.reply.now.status in
    let sense = sense_text c.args.reply.now.sense in
    let word = hex_word c.args.reply.now.bytes in
    let two = adds_on _ _ _ text c.add.new.self c.add_sense.new.text status sense
    (rw c.name_of.ensures.name at c.in_ok-add.ensures.ok) c.in_ok-add_sense.ensures.ok in
    let three = adds_on _ _ _ text c.add_sense.new.text c.add_hex.new.text (status ++ sense) word two
    (rw c.as_slice.ensures at c.in_ok-add_hex.ensures.ok) in
    on_err_weaker c.add-2.result (λ last. part_behind _ _ _ text c.add_hex.new.text (status ++ sense ++ word) (10 ∷ [])
    three last) c.add-2.ensures.err
