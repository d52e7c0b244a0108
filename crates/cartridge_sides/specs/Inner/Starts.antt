-- A cartridge's side has one beginning.
use Rattle.std.proofs.Common.{◌≡◌, List, ℕ, ◌++◌}
use Rattle.gate_journal.specs.Heads.{Head, BeginsWithHead, spell_side_head}
use Rattle.gate_journal.specs.Inner.Deciding.{Decidable, decided_as}
use Rattle.gate_journal.specs.Inner.HeadsRead as heads
use Rattle.cartridge_sides.specs.Pairs.{IsOfCartridge}
use Rattle.cartridge_sides.specs.Inner.{HasHead}

-- bytes begin with at most one head
pub same_head : (h k : Head) (r s : List ℕ) → IsOfCartridge h → IsOfCartridge k →
    spell_side_head h ++ r ≡ spell_side_head k ++ s → (h ≡ k) × (r ≡ s)
same_head h k r s okh okk e = heads.same_head h k r s okh.kind okk.kind okh.spelled okk.spelled e

pub to_plain : (bytes : List ℕ) → HasHead bytes → BeginsWithHead bytes
to_plain bytes (h, rest, ok, is) = (h, rest, ok.kind, ok.spelled, is)

pub from_plain : (bytes : List ℕ) → BeginsWithHead bytes → HasHead bytes
from_plain bytes (h, rest, kind, ok, is) = (h, rest, record { kind = kind; spelled = ok }, is)

-- it is decidable whether bytes begin with a head
pub has_head : (bytes : List ℕ) → Decidable (HasHead bytes)
has_head bytes = decided_as (from_plain bytes) (to_plain bytes) (heads.decided_head bytes)
