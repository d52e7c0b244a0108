use Rattle.std.proofs.Common.{◌≡◌, ◌<◌, ◌≤◌, ◌+◌, ◌++◌, ◌∙◌, ap, arith, length, take}
use Rattle.std.proofs.lemmas.List.{length-append, length-take-le}
use Rattle.std.specs.List.{flat_map}
use Rattle.pr_core.specs.Reads.{key_bytes}
use Rattle.pr_core.proofs.ReadLemmas.{keys_short}
use Rattle.pr_core.proofs.reads.push_keys.Goals as goal

-- the row has room for the keys so far and one more
pub push_key-requires : goal.push_key-requires
push_key-requires c =
    let keys = c.args.keys.now in
    let so_far = take c.loop-key.key-index keys in
    let short = keys_short so_far in
    let within : c.loop-key.key-index < length keys = omega (arith, c.loop-key-test.true) in
    let few = length-take-le c.loop-key.key-index keys (omega (arith, within)) in
    let row : length c.loop-key.row.items ≡ length c.args.row.now.items + length (flat_map key_bytes so_far) =
    ap length c.loop-key.invariant ∙ length-append c.args.row.now.items (flat_map key_bytes so_far) in
    omega (arith, short, within, few, row, c.requires)
