-- What a stop may leave where a gate is written over itself.
use Rattle.std.proofs.Common.{◌≡◌, ◌≢◌, inl, ℕ, List, [], ◌∷◌, ◌++◌, drop, ◌∙◌, ap, arith}
use Rattle.std.specs.Prelude.{None}
use Rattle.tape_disk.specs.Disk.{Smeared, overwritten}
use Rattle.tape_disk.specs.CallLog.{smears}
use Rattle.gate_journal.specs.Heads.{Head, spell_side_head}
use Rattle.gate_journal.specs.Side.{OPEN, CLOSED}
use Rattle.cartridge_sides.specs.declared.which.Which.{Which}
use Rattle.cartridge_sides.specs.declared.which.Which.TheVariants.{First}
use Rattle.cartridge_sides.specs.Pairs.{IsOpenSide, SideCounts, IsNoPair}
use Rattle.cartridge_sides.specs.Passes.{HasWritten, IsCopy, IsShutPair, SidesStandFor, TakesOver, first_image, spell_copy}
use Rattle.cartridge_sides.specs.Inner.Counting.{not_alone}
use Rattle.cartridge_sides.specs.Inner.Images.{one_side}
use Rattle.cartridge_sides.proofs.PassLemmas.{opened_counts}

shut : CLOSED ≢ OPEN
shut e = absurd (omega (arith, e))

module _ (k : Head) (s first second : List ℕ) (side : IsOpenSide OPEN k s first) where
  abbrev image : List ℕ
  image = overwritten 9 (CLOSED ∷ []) first

  now : IsOpenSide CLOSED k s image
  now = record {
    head_is = side.head_is;
    image_is = ap (λ (l : List ℕ). overwritten 9 (CLOSED ∷ []) l) side.image_is;
  }

  pub older_counts : k.copied ≡ None → (one : List ℕ) × Smeared 9 1 first one × SideCounts First k s one second
  older_counts none = (image, smears 9 (CLOSED ∷ []) first, (CLOSED, now, inl (shut, none)))

  pub nothing_counts : (k.copied ≡ None → ⊥) → (one : List ℕ) × Smeared 9 1 first one × IsNoPair one second
  nothing_counts never = (
    image,
    smears 9 (CLOSED ∷ []) first,
    not_alone image second CLOSED shut (OPEN, spell_side_head k ++ s, now.image_is)
        (λ h r a none. never (let e : k ≡ h = (one_side CLOSED CLOSED k h s r image now a).1.0 in
        ap (λ (g : Head). g.copied) e ∙ none)),
  )

pub copy_comes_back : (which : Which) (h : Head) (bodies copies : List (List ℕ)) (counts spare : List ℕ) →
    SidesStandFor which h bodies counts spare → (IsShutPair (first_image which counts spare) → ⊥) → IsCopy h copies →
    HasWritten (spell_copy h copies) spare →
    (image : List ℕ) × Smeared 0 1 spare image × TakesOver which h copies counts image
copy_comes_back which h bodies copies counts spare stands paired copy written = (
  OPEN ∷ drop 1 spare,
  smears 0 (OPEN ∷ []) spare,
  opened_counts which h bodies copies counts spare stands paired copy written,
)
