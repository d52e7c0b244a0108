use Rattle.std.proofs.Common.{◌≡◌, sym, rules}
use Rattle.std.proofs.lemmas.List.Sorted.{IsNonDecreasingBy-from_sort_by_key, answers_always}
use Rattle.std.proofs.lemmas.Result.{on_ok_weaker}
use Rattle.vtl_script.proofs.TurnLemmas.{by_host-rising, by_host-sorted}
use Rattle.vtl_script.proofs.hosts.sort_by_host.Goals as goal

pub returns-then-are_sorted_by_host-clause-order : goal.returns-then-are_sorted_by_host-clause-order
returns-then-are_sorted_by_host-clause-order c = sym
    (by_host-rising c.args.lines.now.items
    (rw c.as_slice.ensures.value at (c.are_sorted_by_host.ensures.0 c.if-are_sorted_by_host.true)) c.requires)

pub returns-clause-order : goal.returns-clause-order
returns-clause-order c =
    on_ok_weaker c.sort_by_key.result (λ sorted.
    by_host-sorted c.args.lines.now.items c.sort_by_key.new.self.items c.sort_by_key.ensures.permutation
    (IsNonDecreasingBy-from_sort_by_key (λ line. line.host) _ sorted (λ a r q k. search rules))
    (c.sort_by_key.ensures.stable (λ line. line.host)
    (answers_always _ (λ a r. r ≡ a.0.now.host) _ (λ f a r q k. search rules)))
    c.requires) c.sort_by_key.ensures.sorted
