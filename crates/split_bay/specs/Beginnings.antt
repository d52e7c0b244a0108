-- What both halves of a bay know when a span begins.
use Rattle.std.specs.Prelude.{ℕ, Option, None, refl}
use Rattle.std.specs.Coded.{Coded, code_by, coded×, coded_ℕ, coded_option}
use Rattle.volume_core.specs.Medium.{MediumState}
use Rattle.tape_buffer.specs.SeenCodes.{medium_code}

-- A span begins where both halves were held and part again: the medium that is then in the drive, if one is, and how
-- much may be sent, as it is taken without memory: so many records, bytes of blocks, and room of the side, each record
-- as a frame of its own (own).
pub record Beginning : Type 0 where
  pub seen : Option MediumState
  pub left : ℕ
  pub bytes : ℕ
  pub room : ℕ

-- nothing is in the drive, and nothing may be sent (own)
abbrev pub nothing_begins : Beginning
nothing_begins = record { seen = None; left = 0; bytes = 0; room = 0 }

-- the beginning of a span as plain data (own)
abbrev pub beginning_code : Coded Beginning
beginning_code =
    code_by (Option MediumState × (ℕ × (ℕ × ℕ)))
    (coded× (coded_option medium_code) (coded× coded_ℕ (coded× coded_ℕ coded_ℕ)))
    (λ b. (b.seen, (b.left, (b.bytes, b.room))))
    (λ p. record { seen = p.0; left = p.1.0; bytes = p.1.1.0; room = p.1.1.1 }) (λ _. refl)
