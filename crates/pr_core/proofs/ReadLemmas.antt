-- The length of the data of READ KEYS.
use Rattle.std.proofs.Common.{◌≡◌, ◌≤◌, ◌+◌, ◌*◌, ◌++◌, ℕ, List, [], ◌∷◌, Option, None, Some, length, arith}
use Rattle.std.proofs.lemmas.List.{length-append}
use Rattle.std.specs.List.{flat_map}
use Rattle.std.specs.Int.{to_be_bytes, w64}
use Rattle.pr_core.specs.Reads.{key_bytes}

-- a key takes at most eight bytes
pub keys_short : (keys : List (Option ℕ)) → length (flat_map key_bytes keys) ≤ 8 * length keys
keys_short [] = omega arith
keys_short (None ∷ keys) = let rest = keys_short keys in omega (arith, rest)
keys_short (Some key ∷ keys) =
    let rest = keys_short keys in
    let here : length (key_bytes (Some key) ++ flat_map key_bytes keys) ≡ 8 + length (flat_map key_bytes keys) =
    length-append (to_be_bytes w64 key) (flat_map key_bytes keys) in
    omega (arith, here, rest)
