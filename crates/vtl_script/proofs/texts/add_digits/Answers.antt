use Rattle.std.proofs.Common.{◌≡◌, ◌++◌, sym, take-append-drop}
use Rattle.vtl_script.proofs.ReadingLemmas.{on_err}
use Rattle.vtl_script.proofs.TextLemmas.{added_none, added_more, added_part}
use Rattle.vtl_script.proofs.texts.add_digits.Goals as goal

pub loop-rest-init : goal.loop-rest-init
loop-rest-init g c = added_none _ _ _

pub returns-in_err-add_digits-clause-err : goal.returns-in_err-add_digits-clause-err
returns-in_err-add_digits-clause-err g c =
    let rest = c.loop-rest.rest.now in
    let cut : rest ≡ c.split_at.result.0.now ++ c.split_at.result.1.now =
    rw (c.split_at.ensures.front, c.split_at.ensures.back) (sym (take-append-drop c.min.result rest)) in
    on_err _ _ (added_part _ _ _ c.args.text.now c.args.bytes.now c.loop-rest.text rest c.split_at.result.0.now
    c.split_at.result.1.now c.loop-rest.invariant cut c.in_err-add_digits.ensures.err)

pub loop-rest-preserved : goal.loop-rest-preserved
loop-rest-preserved g c =
    let rest = c.loop-rest.rest.now in
    let cut : rest ≡ c.split_at.result.0.now ++ c.split_at.result.1.now =
    rw (c.split_at.ensures.front, c.split_at.ensures.back) (sym (take-append-drop c.min.result rest)) in
    added_more _ _ _ c.args.text.now c.args.bytes.now c.loop-rest.text c.add_digits.new.self rest
    c.split_at.result.0.now c.split_at.result.1.now c.loop-rest.invariant cut c.in_ok-add_digits.ensures.ok
