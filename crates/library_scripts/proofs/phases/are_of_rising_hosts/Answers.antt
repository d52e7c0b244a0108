use Rattle.std.proofs.Common.{arith}
use Rattle.std.proofs.lemmas.List.Sorted.{IsNonDecreasingBy-from_all_adjacent}
use Rattle.library_scripts.proofs.phases.are_of_rising_hosts.Goals as goal

pub returns-in-len2-up : goal.returns-in-len2-up
returns-in-len2-up c =
    λ is.
    IsNonDecreasingBy-from_all_adjacent (λ line. line.host) c.args.lines.now
    (λ k d h. c.loop-i.invariant k d (omega (arith, h, c.loop-i-test.false)))
