use Rattle.std.proofs.Common.{◌≡◌, ◌-◌, ◌<◌, ℕ, None, length, drop, get_or}
use Rattle.aptpl_store.specs.Inner.Decoded.{keys_decoded, nexuses_from}
use Rattle.aptpl_store.proofs.decoding.keys_decoded.Given as goal

abbrev pub invariant-loop-number : goal.invariant-loop-number
invariant-loop-number l = record {
  long : length l.keys ≡ 64;
  below : (k : ℕ) → k < l.number - 1 → get_or l.keys k None ≡ get_or (keys_decoded (nexuses_from 1) l.bytes) k None;
  rest : keys_decoded (nexuses_from l.number) l.rest ≡ drop (l.number - 1) (keys_decoded (nexuses_from 1) l.bytes);
}
