-- Sets of unit attention conditions as bits of a byte (own).
use Rattle.std.specs.Prelude.{◌≡◌, refl, ℕ, ◌<◌, ◌==◌, eqb, true, map, sum, if◌then◌else◌}
use Rattle.std.proofs.lemmas.Bool.{agree_below_at, eqb-true}
use Rattle.std.specs.Int.{bit_at}
use Rattle.scsi_attention.specs.declared.attention_sets.Attention.{Attention}
use Rattle.scsi_attention.specs.declared.attention_sets.Attention.TheVariants.{PowerOn, MediumChanged, ReservationsPreempted, RegistrationsPreempted, ReservationsReleased, ModeChanged}
use Rattle.scsi_attention.specs.AttentionSets.{AttentionSet, contains, in_order}

-- the bit of a condition (own)
abbrev pub bit_of : Attention → ℕ
bit_of PowerOn = 0x01
bit_of MediumChanged = 0x02
bit_of ReservationsPreempted = 0x04
bit_of RegistrationsPreempted = 0x08
bit_of ReservationsReleased = 0x10
bit_of ModeChanged = 0x20

-- the conditions whose bits are set in a byte (own)
abbrev pub set_of_bits : ℕ → AttentionSet
set_of_bits bits = record {
  power_on = bit_at bits 0 == 1;
  medium_changed = bit_at bits 1 == 1;
  reservations_preempted = bit_at bits 2 == 1;
  registrations_preempted = bit_at bits 3 == 1;
  reservations_released = bit_at bits 4 == 1;
  mode_changed = bit_at bits 5 == 1;
}

-- the byte with the bits of a set (own)
abbrev pub bits_of : AttentionSet → ℕ
bits_of set = sum (map (λ attention. if contains attention set then bit_of attention else 0) in_order)

-- the set of a byte of six bits gives the byte
pub bits_of-set_of_bits : (bits : ℕ) → bits < 64 → bits_of (set_of_bits bits) ≡ bits
bits_of-set_of_bits bits fits =
    eqb-true (bits_of (set_of_bits bits)) bits
    (agree_below_at (λ k. eqb (bits_of (set_of_bits k)) k) (λ _. true) 64 bits refl fits)
