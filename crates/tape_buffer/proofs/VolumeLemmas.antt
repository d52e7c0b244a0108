-- What changes that apply make of a volume: each changes the objects of its partition, and nothing else.
use Rattle.std.proofs.Common.{◌≡◌, ◌≢◌, ℕ, zero, suc, ◌≤◌, ◌<◌, List, [], ◌∷◌, ◌++◌, length, take, set, Option, None, Some, refl, sym, ◌∙◌, ap, arith, ⊎_elim}
use Rattle.std.specs.Prelude.{slice_get, slice_set, nat_lt, if◌then◌else◌, not, Bool, true, false}
use Rattle.std.proofs.lemmas.Bool.{and_parts, cases_eq, leb-true, ltb-false}
use Rattle.std.proofs.lemmas.List.{get_or-set_same, length-set}
use Rattle.std.proofs.lemmas.Option.{slice_get-get_or, slice_get_within}
use Rattle.vtl_base.specs.declared.limits.TheConstants.{MAX_OBJECTS}
use Rattle.volume_core.specs.declared.changes.Change.{Change}
use Rattle.volume_core.specs.declared.changes.Refusal.TheVariants.{PastEnd, NoRoom, TooLong}
use Rattle.volume_core.specs.declared.objects.Object.{Object}
use Rattle.volume_core.specs.Volume.{AllApply, Part, added_by, after, capacity_in, capacity_of, changed, count_of, has_room, is_well_formed, staying_of, objects_after, objects_in, objects_of, part_after, part_of, refusal_in, refusal_of, used_of}

-- what is set at a place that is there stands there
pub get_set_same : {X : Type 0} (xs : List X) (i : ℕ) (x y : X) → slice_get xs i ≡ Some x
    → slice_get (set xs i y) i ≡ Some y
get_set_same xs i x y at =
    let inside = slice_get_within xs i x at in
    slice_get-get_or (set xs i y) i y (omega (arith, inside, length-set xs i y))
    ∙ ap Some (get_or-set_same xs i y y inside)

-- what stands elsewhere stays
pub get_set_other : {X : Type 0} (xs : List X) (i j : ℕ) (y : X) → j ≢ i → slice_get (set xs i y) j ≡ slice_get xs j
get_set_other [] i j y apart = refl
get_set_other (x ∷ xs) zero zero y apart = absurd (apart refl)
get_set_other (x ∷ xs) zero (suc j) y apart = refl
get_set_other (x ∷ xs) (suc i) zero y apart = refl
get_set_other (x ∷ xs) (suc i) (suc j) y apart = get_set_other xs i j y (λ e. apart (ap suc e))

unless : (past room fine : Bool)
    → (if past then Some PastEnd else (if not room then Some NoRoom else (if not fine then Some TooLong else None)))
    ≡ None
    → (past ≡ false) × (room ≡ true) × (fine ≡ true)
unless true room fine e = absurd (cc)
unless false false fine e = absurd (cc)
unless false true false e = absurd (cc)
unless false true true e = (refl, refl, refl)

-- a partition that takes a change
record IsTaken (part : Part) (change : Change) : Type 0 where
  pub staying : staying_of change ≤ length part.objects
  pub few : length (objects_after part.objects change) ≤ MAX_OBJECTS
  pub fits : used_of (objects_after part.objects change) ≤ part.capacity
  pub well : is_well_formed change ≡ true

taken : (found : Option Part) (change : Change) → refusal_in found change ≡ None
    → (part : Part) × (found ≡ Some part) × IsTaken part change
taken None change none = absurd (cc)
taken (Some part) change none =
    let told =
    unless (nat_lt (length part.objects) (staying_of change)) (has_room part (objects_after part.objects change))
    (is_well_formed change) none in
    let room = and_parts _ _ told.1 in (
      part,
      refl,
      record {
        staying = ltb-false (length part.objects) (staying_of change) told.0;
        few = leb-true _ _ room.0;
        fits = leb-true _ _ room.1;
        well = told.2;
      },
    )

-- a change that is not refused concerns a partition that is there, and is well-formed
pub inside_of : (volume : List Part) (change : Change) → refusal_of volume change ≡ None
    → part_of change < length volume
inside_of volume change none =
    let found = taken (slice_get volume (part_of change)) change none in
    slice_get_within volume (part_of change) found.0 found.1

pub well_formed : (volume : List Part) (change : Change) → refusal_of volume change ≡ None
    → is_well_formed change ≡ true
well_formed volume change none = (taken (slice_get volume (part_of change)) change none).2.well

-- a volume, and the same after a change that applies to it
pub record IsChanged (old new : List Part) (change : Change) : Type 0 where
  pub objects :
      objects_of new (part_of change) ≡ take (staying_of change) (objects_of old (part_of change)) ++ added_by change
  pub others : (part : ℕ) → part ≢ part_of change → objects_of new part ≡ objects_of old part
  pub capacities : (part : ℕ) → capacity_of new part ≡ capacity_of old part
  pub parts : length new ≡ length old
  pub staying : staying_of change ≤ count_of old (part_of change)
  pub few : count_of new (part_of change) ≤ MAX_OBJECTS
  pub fits : used_of (objects_of new (part_of change)) ≤ capacity_of old (part_of change)

-- a volume with this partition, and the same with what a change makes of it
changed_found : (volume : List Part) (change : Change) (part : Part) → slice_get volume (part_of change) ≡ Some part
    → IsTaken part change → IsChanged volume (slice_set volume (part_of change) (part_after part change)) change
changed_found volume change part at is =
    let new = part_after part change in
    let there : slice_get (set volume (part_of change) new) (part_of change) ≡ Some new =
    get_set_same volume (part_of change) part new at in
    let other = λ (number : ℕ) (apart : number ≢ part_of change).
    get_set_other volume (part_of change) number new apart in
    let now : objects_of (slice_set volume (part_of change) new) (part_of change) ≡ objects_after part.objects change =
    ap objects_in there in
    let was : objects_of volume (part_of change) ≡ part.objects = ap objects_in at in
    let room : capacity_of volume (part_of change) ≡ part.capacity = ap capacity_in at in
    record {
      objects = now ∙ ap (λ (l : List Object). take (staying_of change) l ++ added_by change) (sym was);
      others = λ number apart. ap objects_in (other number apart);
      capacities = λ number. ⊎_elim
          (λ e. ap (λ (n : ℕ). capacity_of (slice_set volume (part_of change) new) n) e ∙ ap capacity_in there
          ∙ sym room ∙ ap (λ (n : ℕ). capacity_of volume n) (sym e))
          (λ apart. ap capacity_in (other number apart))
          (cases_eq number (part_of change));
      parts = length-set volume (part_of change) new;
      staying = omega (arith, is.staying, ap (λ (l : List Object). length l) was);
      few = omega (arith, is.few, ap (λ (l : List Object). length l) now);
      fits = omega (arith, is.fits, ap used_of now, room);
    }

-- what a change that applies makes of a volume
pub changes_so : (volume : List Part) (change : Change) → refusal_of volume change ≡ None
    → IsChanged volume (changed volume change) change
changes_so volume change none =
    let found = taken (slice_get volume (part_of change)) change none in
    rw found.1 (changed_found volume change found.0 found.1 found.2)

-- the capacity of a partition stays through changes that apply, and its objects fit it still
pub record IsSameKind (old new : List Part) : Type 0 where
  pub parts : length new ≡ length old
  pub capacities : (part : ℕ) → capacity_of new part ≡ capacity_of old part
  pub fits : (part : ℕ) → used_of (objects_of old part) ≤ capacity_of old part
      → used_of (objects_of new part) ≤ capacity_of new part
  pub few : (part : ℕ) → count_of old part ≤ MAX_OBJECTS → count_of new part ≤ MAX_OBJECTS

pub stays_so : (volume : List Part) (changes : List Change) → AllApply volume changes
    → IsSameKind volume (after volume changes)
stays_so volume [] all =
    record { parts = refl; capacities = λ part. refl; fits = λ part fits. fits; few = λ part few. few }
stays_so volume (change ∷ changes) all =
    let is = changes_so volume change all.0 in
    let rest = stays_so (changed volume change) changes all.1 in
    record {
      parts = rest.parts ∙ is.parts;
      capacities = λ part. rest.capacities part ∙ is.capacities part;
      fits = λ part fits. rest.fits part (⊎_elim
          (λ e. rw e (omega (arith, is.fits, is.capacities (part_of change))))
          (λ apart. omega (arith, fits, ap used_of (is.others part apart), is.capacities part))
          (cases_eq part (part_of change)));
      few = λ part few. rest.few part (⊎_elim
          (λ e. rw e is.few)
          (λ apart. omega (arith, few, ap (λ (l : List Object). length l) (is.others part apart)))
          (cases_eq part (part_of change)));
    }
