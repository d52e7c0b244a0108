use Rattle.std.proofs.Common.{◌≡◌, ℕ, List, [], length, map, ap, arith}
use Rattle.volume_core.specs.declared.changes.Change.{Change}
use Rattle.change_records.specs.Records.{spell_all}
use Rattle.cartridge.proofs.RecordLemmas.{followed_all}
use Rattle.cartridge.proofs.bodies.SpelledBodyParts.size.Goals as goal

pub returns : goal.returns
returns c =
    omega (
      arith,
      c.self.invariant.0,
      ap (λ (l : List Change). length (spell_all l)) c.self.view_is,
      ap (λ (l : List ℕ). length l) (followed_all [] c.args.self.now),
    )
