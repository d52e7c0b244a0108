use Rattle.std.proofs.Common.{◌≡◌, sym, ◌∙◌, ap, subst}
use Rattle.std.specs.Prelude.{not}
use Rattle.std.proofs.lemmas.Bool.{false≢true}
use Rattle.pr_core.specs.Sound.{IsSound}
use Rattle.aptpl_store.specs.Spelling.{spell_state}
use Rattle.aptpl_store.proofs.DecodingLemmas.{equal_bytes, decoded_sound, decoded_spelled, where_none}
use Rattle.aptpl_store.proofs.decoding.decode.Goals as goal

pub returns-in_err-reservations-clause-none : goal.returns-in_err-reservations-clause-none
returns-in_err-reservations-clause-none c =
    where_none c.from_residual.result _ (λ state spells.
    false≢true (c.in_err-reservations.ensures.sound.1
    (subst IsSound (sym c.state_decoded.ensures) (decoded_sound state c.args.body.now spells))))

pub returns-then-ne-clause-none : goal.returns-then-ne-clause-none
returns-then-ne-clause-none c = λ state spells.
    let same : c.body.result.now ≡ c.args.body.now =
    c.body.ensures ∙ c.fill_body.ensures.body
    ∙ ap spell_state (c.state.ensures.state ∙ c.in_ok-reservations.ensures.value ∙ c.state_decoded.ensures)
    ∙ decoded_spelled state c.args.body.now spells in
    false≢true (sym (ap not (equal_bytes c.body.result.now c.args.body.now same)) ∙ sym c.ne.ensures ∙ c.if-ne.true)
