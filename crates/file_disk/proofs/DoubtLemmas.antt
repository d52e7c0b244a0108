-- What of a file is in doubt, after a call.
use Rattle.std.proofs.Common.{◌≡◌, ◌≢◌, ◌⊎◌, inl, inr, ⊎_elim, ℕ, ◌<◌, ◌≤◌, min, List, length, sym, subst, ◌∙◌, arith, true, false}
use Rattle.gate_journal.specs.Gates.{last_gate}
use Rattle.gate_journal.specs.Side.{Front, StandsFor, spell}
use Rattle.vtl_base.specs.declared.layout.TheConstants.{BEGUN_BYTES}
use Rattle.file_disk.specs.Opening.{IsBehindEnd, IsLeftWell, IsUnfinished}
use Rattle.file_disk.specs.RawFile.{AddsNone, AddsRange, ReachesAll, ReachesRange, ReachesStill}
use Rattle.gate_journal.specs.declared.header.SideKind.TheVariants as kinds
use Rattle.file_disk.specs.Inner.Doubts.{BeginsSo, Covers, InSpan, IsInDoubt, IsLookedAt, LieIn}
use Rattle.file_disk.specs.declared.begins.Begins.{Begins}
use Rattle.file_disk.specs.declared.begins.Begins.TheVariants.{Cartridge, Unfinished}
use Rattle.file_disk.specs.declared.doubt.Doubt.{Doubt}
use Rattle.file_disk.specs.declared.doubt.Doubt.TheVariants.{Nothing, Opened, SyncFailed}
use Rattle.file_disk.specs.declared.written.Span.{Span}
use Rattle.file_disk.specs.declared.written.Written.{Written}
use Rattle.file_disk.proofs.BeginLemmas.{begins_so}

module _ (seen seen' : List ℕ) (passed passed' unsynced unsynced' : ℕ → Type 0) (still : ReachesStill passed passed')
  where
    -- bytes were written
    pub wrote_in_doubt : (doubt : Doubt) (written written' : Written) (from to : ℕ) → IsLookedAt doubt
        → IsInDoubt doubt written seen passed unsynced → AddsRange from to unsynced unsynced'
        → ((place : ℕ) → Covers written place ⊎ ((from ≤ place) × (place < to)) → Covers written' place)
        → IsInDoubt doubt written' seen' passed' unsynced'
    wrote_in_doubt Nothing written written' from to looked is adds covers = (
      λ place gone. is.0 place (still place gone),
      λ place new. covers place (⊎_elim (λ old. inl (is.1 place old)) inr (adds place new)),
    )
    wrote_in_doubt Opened written written' from to looked is adds covers = absurd looked
    wrote_in_doubt SyncFailed written written' from to looked is adds covers = (
      λ place gone. covers place (inl (is.0 place (still place gone))),
      λ place new. covers place (⊎_elim (λ old. inl (is.1 place old)) inr (adds place new)),
    )

    module _ (none : AddsNone unsynced unsynced') where
      -- bytes were cut away
      pub cut_in_doubt : (doubt : Doubt) (written : Written) → IsLookedAt doubt
          → IsInDoubt doubt written seen passed unsynced → IsInDoubt doubt written seen' passed' unsynced'
      cut_in_doubt Nothing written looked is =
          (λ place gone. is.0 place (still place gone), λ place new. is.1 place (none place new))
      cut_in_doubt Opened written looked is = absurd looked
      cut_in_doubt SyncFailed written looked is =
          (λ place gone. is.0 place (still place gone), λ place new. is.1 place (none place new))

      -- a file that was left well was only read
      pub well_still : seen' ≡ seen → IsLeftWell seen passed unsynced → IsLeftWell seen' passed' unsynced'
      well_still same is = record {
        side = λ front bodies stands place doubted.
            is.side front bodies (subst (λ (l : List ℕ). StandsFor front bodies l) same stands) place
            (⊎_elim (λ gone. inl (still place gone)) (λ new. inr (none place new)) doubted);
        none = λ never finished place gone. is.none
            (λ front bodies stands. never front bodies
            (subst (λ (l : List ℕ). StandsFor front bodies l) (sym same) stands))
            (λ unfinished. finished (subst (λ (l : List ℕ). IsUnfinished l) (sym same) unfinished))
            place (still place gone);
      }

      -- bytes were read
      pub read_in_doubt : (doubt : Doubt) (written : Written) → seen' ≡ seen
          → IsInDoubt doubt written seen passed unsynced → IsInDoubt doubt written seen' passed' unsynced'
      read_in_doubt Nothing written same is =
          (λ place gone. is.0 place (still place gone), λ place new. is.1 place (none place new))
      read_in_doubt Opened written same is = well_still same is
      read_in_doubt SyncFailed written same is =
          (λ place gone. is.0 place (still place gone), λ place new. is.1 place (none place new))

-- what is in doubt of a side is among its first bytes, its last gate and what stands behind it
module _ (seen : List ℕ) (passed unsynced : ℕ → Type 0) (is : IsLeftWell seen passed unsynced)
    (within : (place : ℕ) → passed place ⊎ unsynced place → place < length seen) (front : Front)
    (bodies : List (List ℕ)) (stands : StandsFor front bodies seen) (last end count : ℕ)
    (last_is : last ≡ last_gate front bodies) (end_is : end ≡ length (spell front bodies))
    (count_is : count ≡ length seen) (written : Written)
    (covers : (place : ℕ) → (place ≡ last) ⊎ (IsBehindEnd end place × (place < count)) → Covers written place)
    (begins : Begins) (so : BeginsSo begins seen)
    (start : (place : ℕ) → begins ≡ Cartridge → place < BEGUN_BYTES → Covers written place)
    (known : begins ≢ Unfinished) where
  covered : (place : ℕ) → passed place ⊎ unsynced place → Covers written place
  covered place doubted = ⊎_elim
      (λ (first : (front.head.heading.kind ≡ kinds.Cartridge) × (place < BEGUN_BYTES)).
      start place (begins_so begins seen front bodies stands first.0 so known) first.1)
      (⊎_elim
      (λ (here : place ≡ last_gate front bodies).
      let same : place ≡ last = omega (arith, here, last_is) in covers place (inl same))
      (λ (behind : IsBehindEnd (length (spell front bodies)) place).
      covers place (inr (
        (omega (arith, behind.0, end_is), omega (arith, behind.1, end_is)),
        omega (arith, within place doubted, count_is),
      ))))
      (is.side front bodies stands place doubted)

  pub gates_in_doubt : IsInDoubt SyncFailed written seen passed unsynced
  gates_in_doubt = (λ place gone. covered place (inl gone), λ place new. covered place (inr new))

-- a range that was written again is passed over no longer
module _ (written : Written) (known : written.is_apart ≡ false) (count : ℕ) (passed mid late new : ℕ → Type 0)
    (first : ReachesStill passed mid) (second : ReachesStill mid late) (third : ReachesStill late new)
    (lie : LieIn written passed) (within : (place : ℕ) → passed place → place < count)
    (one : ReachesRange written.one.from (min written.one.end count) mid)
    (other : ReachesRange written.other.from (min written.other.end count) late)
    (start : ReachesRange written.start.from (min written.start.end count) new) where
  pub all_again : ReachesAll new
  all_again place gone =
      let gone_late = third place gone in
      let gone_mid = second place gone_late in
      let inside = within place (first place gone_mid) in
      ⊎_elim (λ (apart : written.is_apart ≡ true). let never : true ≡ false = sym apart ∙ known in cc)
      (⊎_elim
      (λ (lies : InSpan written.one place). omega (arith, inside, lies.0, lies.1, one place gone_mid lies.0))
      (⊎_elim
      (λ (lies : InSpan written.other place). omega (arith, inside, lies.0, lies.1, other place gone_late lies.0))
      (λ (lies : InSpan written.start place). omega (arith, inside, lies.0, lies.1, start place gone lies.0))))
      (lie place (first place gone_mid))

-- bytes of the ranges were written again
module _ (written : Written) (count : ℕ) (old mid late new : ℕ → Type 0) (lie : LieIn written old)
    (one : AddsRange written.one.from (min written.one.end count) old mid) where
  pub one_again : LieIn written mid
  one_again place lies = ⊎_elim (lie place)
      (λ (found : (written.one.from ≤ place) × (place < min written.one.end count)).
      inr (inl (found.0, omega (arith, found.1)))) (one place lies)

  module _ (other : AddsRange written.other.from (min written.other.end count) mid late) where
    pub both_again : LieIn written late
    both_again place lies = ⊎_elim (one_again place)
        (λ (found : (written.other.from ≤ place) × (place < min written.other.end count)).
        inr (inr (inl (found.0, omega (arith, found.1))))) (other place lies)

    pub all_three_again : AddsRange written.start.from (min written.start.end count) late new → LieIn written new
    all_three_again start place lies = ⊎_elim (both_again place)
        (λ (found : (written.start.from ≤ place) × (place < min written.start.end count)).
        inr (inr (inr (found.0, omega (arith, found.1))))) (start place lies)

module _ (written : Written) (from to : ℕ) where
  -- a range grows
  pub one_covers : (one : Span)
      → ((place : ℕ) → InSpan written.one place ⊎ ((from ≤ place) × (place < to)) → InSpan one place)
      → (place : ℕ) → Covers written place ⊎ ((from ≤ place) × (place < to))
      → Covers (record written { one = one }) place
  one_covers one covers place = ⊎_elim
      (⊎_elim inl (⊎_elim (λ lies. inr (inl (covers place (inl lies)))) (λ lies. inr (inr lies))))
      (λ new. inr (inl (covers place (inr new))))

  pub other_covers : (other : Span)
      → ((place : ℕ) → InSpan written.other place ⊎ ((from ≤ place) × (place < to)) → InSpan other place)
      → (place : ℕ) → Covers written place ⊎ ((from ≤ place) × (place < to))
      → Covers (record written { other = other }) place
  other_covers other covers place = ⊎_elim
      (⊎_elim inl (⊎_elim (λ lies. inr (inl lies))
      (⊎_elim (λ lies. inr (inr (inl (covers place (inl lies))))) (λ lies. inr (inr (inr lies))))))
      (λ new. inr (inr (inl (covers place (inr new)))))

-- all of so many bytes is among the first of them
pub first_in_doubt :
    (seen : List ℕ) (passed passed' unsynced unsynced' : ℕ → Type 0)
    → ((place : ℕ) → passed place ⊎ unsynced place → place < length seen) → ReachesStill passed passed'
    → AddsNone unsynced unsynced' → (count : ℕ) → count ≡ length seen → (written : Written)
    → ((place : ℕ) → place < count → InSpan written.start place) → LieIn written passed' × LieIn written unsynced'
first_in_doubt seen passed passed' unsynced unsynced' within still none count sized written first = (
  λ place gone. let inside = within place (inl (still place gone)) in
      inr (inr (inr (first place (omega (arith, inside, sized))))),
  λ place new. let inside = within place (inr (none place new)) in
      inr (inr (inr (first place (omega (arith, inside, sized))))),
)
