-- One more record is packed.
use Rattle.std.proofs.Common.{◌≡◌, ◌≤◌, ◌<◌, ◌+◌, ◌⊎◌, inl, inr, ℕ, suc, List, ◌∷◌, Bool, true, false, refl, arith}
use Rattle.std.specs.Prelude.{if◌then◌else◌, nat_le, sum_by}
use Rattle.std.proofs.lemmas.Bool.Decides.{leb_tells}
use Rattle.std.proofs.lemmas.List.Sums.{sum_by-cons}
use Rattle.volume_copy.specs.declared.totals.Packed.{Packed}
use Rattle.vtl_base.specs.declared.limits.TheConstants.{COPY_BODY}
use Rattle.volume_copy.specs.FrameFacts.{more_frames}

module _ {A : Type 0} (size : A → ℕ) (packed : Packed) (item : A) (items : List A) where
  -- the totals, whether the record fits or not
  abbrev chosen : Bool → Packed
  chosen b =
      if b then (record { frames = packed.frames; bytes = packed.bytes + size item; last = packed.last + size item })
      else (record { frames = packed.frames + 1; bytes = packed.bytes + size item; last = size item })

  -- how many frames begin from here on
  abbrev more : Bool → ℕ
  more b = if b then more_frames size (packed.last + size item) items else suc (more_frames size (size item) items)

  -- the packed items and the rest are together the same as before
  abbrev Goes : Bool → Type 0
  Goes b =
      ((chosen b).frames + more_frames size (chosen b).last items ≡ packed.frames + more b)
      × ((chosen b).bytes + sum_by size items ≡ packed.bytes + sum_by size (item ∷ items))
      × ((chosen b).last ≤ COPY_BODY)

  pub packed_on : size item ≤ COPY_BODY → Goes (nat_le (packed.last + size item) COPY_BODY)
  packed_on fits = by (nat_le (packed.last + size item) COPY_BODY) (leb_tells (packed.last + size item) COPY_BODY)
    where
      bytes_are : packed.bytes + size item + sum_by size items ≡ packed.bytes + sum_by size (item ∷ items)
      bytes_are = omega (arith, sum_by-cons size item items)

      by : (b : Bool) → ((b ≡ true) × (packed.last + size item ≤ COPY_BODY))
          ⊎ ((b ≡ false) × (COPY_BODY < packed.last + size item)) → Goes b
      by true (inl here) = (refl, bytes_are, here.1)
      by false (inl here) = absurd (cc)
      by true (inr passes) = absurd (cc)
      by false (inr passes) = (omega arith, bytes_are, fits)
