-- Lemmas of printed text.
use Rattle.std.specs.Prelude.{◌≡◌, ℕ, ◌<◌, ◌^◌, ◌-◌, [], true, false}
use Rattle.std.specs.Fmt.{digits, padded_integral, format_spec}
use Rattle.std.proofs.lemmas.Fmt.{hex_byte}
use Rattle.answer_meanings.specs.SenseTexts.{hex}

-- what `{:02X}` writes of a byte
pub hex_printed :
    (n : ℕ) → n < 256
    → padded_integral (format_spec 32 0 4 2 (2 ^ 64 - 1)) false [] (digits 16 true n) ≡ hex n
hex_printed n small = hex_byte true n small
