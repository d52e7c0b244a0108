use Rattle.std.proofs.Common.{◌≡◌, ◌∙◌, ap, sym, ℕ, List, ◌++◌}
use Rattle.crc32c.specs.Crc.{StandsBehind, ONES, fed}
use Rattle.crc32c.proofs.FedLemmas.{fed-append}
use Rattle.crc32c.proofs.sum.Sum.update.Goals as goal

-- a piece after the bytes before it
behind : (old new : ℕ) (piece before : List ℕ) → new ≡ fed old piece → StandsBehind old before
    → StandsBehind new (before ++ piece)
behind old new piece before e b =
    e ∙ ap (λ (r : ℕ). fed r piece) b ∙ sym (fed-append ONES before piece)

pub returns : goal.returns
returns c before b = behind _ _ _ before c.fed-self-inside.ensures (c.self.view_is ∙ b)
