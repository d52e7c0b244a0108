use Rattle.std.proofs.Common.{◌+◌, ◌-◌, None, sym, ◌∙◌, ap, arith}
use Rattle.std.proofs.lemmas.List.{ext_get_or, length-set}
use Rattle.aptpl_store.specs.Inner.Decoded.{keys_decoded, nexuses_from}
use Rattle.aptpl_store.proofs.DecodingLemmas.{keys_are_64, keys_below, keys_step}
use Rattle.aptpl_store.proofs.decoding.keys_decoded.Goals as goal

pub loop-number-preserved : goal.loop-number-preserved
loop-number-preserved c =
    let inv = c.loop-number.invariant in
    let all = keys_decoded (nexuses_from 1) c.args.bytes.now in
    let n = c.loop-number.number in
    let step = keys_step all n c.loop-number.rest.now (omega arith) (omega arith) (keys_are_64 c.args.bytes.now)
    inv.rest in
    record {
      long = length-set c.loop-number.keys (n - 1) c.key_decoded-key.result.0 ∙ inv.long;
      below =
          keys_below c.loop-number.keys all n c.key_decoded-key.result.0 (omega arith) (omega arith) inv.long
          (step.0 ∙ sym c.key_decoded-key.ensures.key) inv.below;
      rest = ap (keys_decoded (nexuses_from (n + 1))) c.key_decoded-key.ensures.behind ∙ step.1;
    }

pub returns : goal.returns
returns c =
    let inv = c.loop-number.invariant in
    let all = keys_decoded (nexuses_from 1) c.args.bytes.now in
    ext_get_or None c.loop-number.keys all (inv.long ∙ sym (keys_are_64 c.args.bytes.now))
    (λ place within. inv.below place (omega (arith, within, inv.long)))
