use Rattle.std.proofs.Common.{ℕ, List, length, ap, arith}
use Rattle.gate_journal.proofs.FollowedLemmas.{followed_length}
use Rattle.gate_journal.proofs.frame.Frame.size_with.Goals as goal

pub overflow_add-result : goal.overflow_add-result
overflow_add-result g c =
    omega (
      arith,
      ap (λ (l : List ℕ). length l) c.body.ensures,
      c.size.ensures,
      c.requires.1,
      followed_length c.args.self.now.body (g.P.BodyParts.parts c.args.parts.now),
    )

pub overflow_cast-result : goal.overflow_cast-result
overflow_cast-result g c =
    omega (
      arith,
      ap (λ (l : List ℕ). length l) c.body.ensures,
      c.size.ensures,
      c.requires.1,
      followed_length c.args.self.now.body (g.P.BodyParts.parts c.args.parts.now),
    )

pub returns : goal.returns
returns g c =
    omega (
      arith,
      ap (λ (l : List ℕ). length l) c.body.ensures,
      c.size.ensures,
      followed_length c.args.self.now.body (g.P.BodyParts.parts c.args.parts.now),
    )
