use Rattle.std.proofs.Common.{◌≡◌, ◌∙◌, ◌++◌, ◌∷◌, ◌+◌, ℕ, suc, List, [], ap, arith}
use Rattle.std.specs.List.{range_with_len}
use Rattle.test_gates.proofs.HostLemmas.{one_more}
use Rattle.test_gates.proofs.opening.hosts.Goals as goal

pub loop-number-preserved : goal.loop-number-preserved
loop-number-preserved c =
    let at = c.loop-number.number in
    let inv = c.loop-number.invariant in
    let host : c.in_ok-host.host ≡ 1 + at = omega (arith, c.in_ok-host.ensures) in
    let more : suc at ≡ at + 1 = omega arith in
    let next : range_with_len 1 at ++ c.in_ok-host.host ∷ [] ≡ range_with_len 1 (at + 1) =
    ap (λ (n : ℕ). range_with_len 1 at ++ n ∷ []) host ∙ one_more 1 at ∙ ap (range_with_len 1) more in
    record {
      hosts = c.in_ok-push.ensures.items ∙ ap (λ (hosts : List ℕ). hosts ++ c.in_ok-host.host ∷ []) inv.hosts ∙ next;
      counted = c.in_ok-push.ensures.len ∙ ap (λ (n : ℕ). n + 1) inv.counted;
    }

pub returns : goal.returns
returns c =
    let at = c.loop-number.number in
    let inv = c.loop-number.invariant in
    let end : at ≡ c.args.count = omega (arith, c.loop-number-test.false, c.loop-number.auto.number-end) in
    (inv.hosts ∙ ap (range_with_len 1) end, inv.counted ∙ end)
