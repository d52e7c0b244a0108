use Rattle.std.proofs.Common.{refl, ◌≡◌, ◌∙◌, ap, sym, ℕ, ◌+◌, ◌<◌, List, [], ◌∷◌, length, take, slice_index_or, bit_xor}
use Rattle.std.proofs.lemmas.List.{take_all, take_more}
use Rattle.crc32c.specs.Crc.{fed, steps}
use Rattle.crc32c.proofs.FedLemmas.{fed-append}
use Rattle.crc32c.proofs.sum.fed_rest.Goals as goal

-- one byte more
fed_more : (r new : ℕ) (xs : List ℕ) (i : ℕ) → i < length xs
    → new ≡ steps 8 (bit_xor (fed r (take i xs)) (slice_index_or xs i 0)) → new ≡ fed r (take (i + 1) xs)
unfolding fed
fed_more r new xs i lt e =
    e ∙ sym (fed-append r (take i xs) (slice_index_or xs i 0 ∷ [])) ∙ ap (fed r) (sym (take_more xs i 0 lt))

pub loop-byte-init : goal.loop-byte-init
unfolding fed
loop-byte-init c = refl

pub loop-byte-preserved : goal.loop-byte-preserved
loop-byte-preserved c =
    let xs = c.args.bytes.now in
    let i = c.loop-byte.byte-index in
    fed_more c.args.register c.fed_one-register.result xs i c.loop-byte-test.true
    (c.fed_one-register.ensures
    ∙ ap (λ (r : ℕ). steps 8 (bit_xor r (slice_index_or xs i 0))) c.loop-byte.invariant)

pub returns : goal.returns
returns c =
    c.loop-byte.invariant
    ∙ ap (fed c.args.register) (take_all c.loop-byte.byte-index c.args.bytes.now c.loop-byte-test.false)
