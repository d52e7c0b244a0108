use Rattle.std.proofs.Common.{◌≡◌, ◌-◌, ℕ, List, [], ◌∷◌, ◌++◌, length, take, drop, ap, ◌∙◌, subst, arith, length-drop}
use Rattle.std.proofs.lemmas.List.{take_all}
use Rattle.std.proofs.lemmas.Result.{err_from_is_err_and}
use Rattle.volume_core.specs.declared.changes.Change.{Change}
use Rattle.change_records.specs.Records.{IsAtFront, change_in}
use Rattle.change_records.proofs.Decoding.{has_first, one_decoded}
use Rattle.change_records.proofs.spelling.decode_changes.Goals as goal

pub returns-in_err-change-clause-err : goal.returns-in_err-change-clause-err
returns-in_err-change-clause-err c =
    let bytes = c.args.bytes.now in
    let at = c.loop-at.at in
    let item = c.in-Some.item in
    let rest : take (length bytes - at) (drop at bytes) ≡ drop at bytes =
    take_all (length bytes - at) (drop at bytes) (omega (arith, length-drop at bytes)) in
    let there = subst (λ (l : List ℕ). IsAtFront item l) rest c.in-Some.ensures.found in
    let p = err_from_is_err_and c.from_residual.result c.from_residual.ensures.1 in
    rw (p.1, p.2) (has_first bytes c.loop-at.changes.items at item c.loop-at.invariant there)

pub returns-in_err-reserve-clause-err : goal.returns-in_err-reserve-clause-err
returns-in_err-reserve-clause-err c =
    let bytes = c.args.bytes.now in
    let at = c.loop-at.at in
    let item = c.in-Some.item in
    let rest : take (length bytes - at) (drop at bytes) ≡ drop at bytes =
    take_all (length bytes - at) (drop at bytes) (omega (arith, length-drop at bytes)) in
    let there = subst (λ (l : List ℕ). IsAtFront item l) rest c.in-Some.ensures.found in
    let p = err_from_is_err_and c.from_residual-in_err-reserve.result c.from_residual-in_err-reserve.ensures.1 in
    rw (p.1, p.2) (has_first bytes c.loop-at.changes.items at item c.loop-at.invariant there)

pub loop-at-preserved : goal.loop-at-preserved
loop-at-preserved c =
    let bytes = c.args.bytes.now in
    let at = c.loop-at.at in
    let item = c.in-Some.item in
    let rest : take (length bytes - at) (drop at bytes) ≡ drop at bytes =
    take_all (length bytes - at) (drop at bytes) (omega (arith, length-drop at bytes)) in
    let there = subst (λ (l : List ℕ). IsAtFront item l) rest c.in-Some.ensures.found in
    let is = c.in_ok-change.ensures ∙ ap (change_in item) rest in
    let items = c.push_reserved.ensures.items
    ∙ ap (λ (l : List Change). l ++ c.in_ok-change.change ∷ []) c.in_ok-reserve.ensures.items in
    rw (items, c.size-at.ensures)
    (one_decoded bytes c.loop-at.changes.items at c.loop-at.invariant item c.in_ok-change.change there is)
