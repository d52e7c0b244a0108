-- Changes that apply to a volume have a spelling, of a known length.
use Rattle.std.proofs.Common.{◌≡◌, ℕ, ◌<◌, ◌≤◌, ◌+◌, ◌^◌, List, [], ◌∷◌, ◌++◌, length, take, Option, None, Some, refl, sym, ◌∙◌, ap, arith, append_assoc, length-append}
use Rattle.std.specs.Prelude.{map, slice_get, slice_index_or, replicate, nat_lt, ◌&&◌, if◌then◌else◌, not, Bool, true, false}
use Rattle.std.specs.List.{All}
use Rattle.std.proofs.lemmas.List.Elements.{All-cons, All-nil}
use Rattle.std.proofs.lemmas.Option.{slice_get_within}
use Rattle.std.proofs.lemmas.List.{length-set, length-replicate, length-take-le}
use Rattle.volume_core.specs.declared.changes.Change.{Change}
use Rattle.volume_core.specs.declared.changes.Change.TheVariants.{Put, Marks, Erase}
use Rattle.std.proofs.Math.Numerals.{add-one}
use Rattle.std.proofs.Math.Seq.{take-suc}
use Rattle.std.proofs.lemmas.Grind.{flat_map-append}
use Rattle.std.proofs.lemmas.List.{append-nil}
use Rattle.std.proofs.lemmas.List.Concat.{flat_map-cons}
use Rattle.std.proofs.lemmas.List.Folds.{length-flat_map-take}
use Rattle.std.proofs.lemmas.Bool.{leb-true, ltb-false}
use Rattle.volume_core.specs.declared.objects.Object.TheVariants.{Block, Mark}
use Rattle.volume_core.specs.declared.changes.Refusal.TheVariants.{PastEnd, NoRoom, TooLong}
use Rattle.volume_core.specs.Volume.{Part, AllApply, changed, changed_in, has_room, part_after, part_of, refusal_in, refusal_of}
use Rattle.volume_core.specs.Medium.{frame_size}
use Rattle.gate_journal.specs.Followed.{followed}
use Rattle.gate_journal.specs.Spelled.{SpelledBody}
use Rattle.change_records.specs.Records.{IsRecord, spell_change, spell_all, spell_head}

-- a frame of one change has 5 bytes more than its record
pub frame_of_one : (change : Change) → frame_size change ≡ length (spell_change change) + 5
frame_of_one (Put part at block) = omega (arith, length-append (spell_head 1 part at (length block)) block)
frame_of_one (Marks part at count) = refl
frame_of_one (Erase part at) = refl

pub some_bytes : (change : Change) → 1 ≤ length (spell_change change)
some_bytes (Put part at block) = omega (arith, length-append (spell_head 1 part at (length block)) block)
some_bytes (Marks part at count) = omega arith
some_bytes (Erase part at) = omega arith

unless : (past room fine : Bool)
    → (if past then Some PastEnd else (if not room then Some NoRoom else (if not fine then Some TooLong else None)))
    ≡ None
    → (past ≡ false) × (room ≡ true) × (fine ≡ true)
unless true room fine e = absurd (cc)
unless false false fine e = absurd (cc)
unless false true false e = absurd (cc)
unless false true true e = (refl, refl, refl)

both_are : (a b : Bool) → (a && b) ≡ true → (a ≡ true) × (b ≡ true)
both_are true true e = (refl, refl)
both_are true false e = absurd (cc)
both_are false b e = absurd (cc)

-- what is not refused by a partition has a spelling
applying_in : (found : Option Part) (change : Change) → refusal_in found change ≡ None → part_of change < 2 ^ 8
    → IsRecord change
applying_in None change none part = absurd (cc)
applying_in (Some p) (Put part at block) none part_fits =
    let told = unless _ _ _ none in
    let at_fits : at ≤ length p.objects = ltb-false (length p.objects) at told.0 in
    let room = both_are _ _ told.1 in
    let few : length (take at p.objects ++ Block block ∷ []) ≤ 16000000 = leb-true _ _ room.0 in
    let fine = both_are _ _ told.2 in (
      (
        part_fits,
        omega (
          arith,
          at_fits,
          few,
          length-append (take at p.objects) (Block block ∷ []),
          length-take-le at
              p.objects at_fits,
        ),
      ),
      leb-true _ _ fine.0,
      leb-true _ _ fine.1,
    )
applying_in (Some p) (Marks part at count) none part_fits =
    let told = unless _ _ _ none in
    let at_fits : at ≤ length p.objects = ltb-false (length p.objects) at told.0 in
    let room = both_are _ _ told.1 in
    let few : length (take at p.objects ++ replicate count Mark) ≤ 16000000 = leb-true _ _ room.0 in (
      (
        part_fits,
        omega (
          arith,
          at_fits,
          few,
          length-append (take at p.objects) (replicate count Mark),
          length-take-le at p.objects at_fits,
          length-replicate count Mark,
        ),
      ),
      leb-true _ _ told.2,
      omega (
        arith,
        at_fits,
        few,
        length-append (take at p.objects) (replicate count Mark),
        length-take-le at
            p.objects at_fits,
        length-replicate count Mark,
      ),
    )
applying_in (Some p) (Erase part at) none part_fits =
    let told = unless (nat_lt (length p.objects) at) (has_room p (take at p.objects ++ [])) true none in
    let at_fits : at ≤ length p.objects = ltb-false (length p.objects) at told.0 in
    let room = both_are _ _ told.1 in
    let few : length (take at p.objects ++ []) ≤ 16000000 = leb-true _ _ room.0 in
    (part_fits, omega (arith, at_fits, few, length-append (take at p.objects) [], length-take-le at p.objects at_fits))

pub there : (found : Option Part) (change : Change) → refusal_in found change ≡ None → (p : Part) × (found ≡ Some p)
there None change none = absurd (cc)
there (Some p) change none = (p, refl)

-- a change that is not refused concerns a partition that is there
pub inside_of : (volume : List Part) (change : Change) → refusal_of volume change ≡ None
    → part_of change < length volume
inside_of volume change none =
    let found = there (slice_get volume (part_of change)) change none in
    slice_get_within volume (part_of change) found.0 found.1

pub applying : (volume : List Part) (change : Change) → length volume ≤ 4 → refusal_of volume change ≡ None
    → IsRecord change
applying volume change few none =
    let found = there (slice_get volume (part_of change)) change none in
    applying_in (slice_get volume (part_of change)) change none
    (omega (arith, few, slice_get_within volume (part_of change) found.0 found.1))

pub same_length : (found : Option Part) (volume : List Part) (change : Change)
    → length (changed_in found volume change) ≡ length volume
same_length None volume change = refl
same_length (Some p) volume change = length-set volume (part_of change) (part_after p change)

-- changes that all apply have a spelling
pub all_applying : (volume : List Part) (changes : List Change) → length volume ≤ 4 → AllApply volume changes
    → All IsRecord changes
all_applying volume [] few all = All-nil IsRecord
all_applying volume (change ∷ changes) few all =
    All-cons IsRecord change changes (applying volume change few all.0)
    (all_applying (changed volume change) changes
    (omega (arith, few, same_length (slice_get volume (part_of change)) volume change)) all.1)

-- the record of a change has its place in the body
pub part_fits : (changes : List Change) (i : ℕ) (change : Change) → i < length changes
    → change ≡ slice_index_or changes i change
    → length (spell_all (take i changes)) + length (spell_change change) ≤ length (spell_all changes)
part_fits changes i change inside is =
    omega (
      arith,
      length-flat_map-take spell_change changes i change inside,
      ap (λ (c : Change). length (spell_change
          c)) is,
    )

pub spelled_next : (changes : List Change) (i : ℕ) (change : Change) → i < length changes
    → change ≡ slice_index_or changes i change
    → spell_all (take (i + 1) changes) ≡ spell_all (take i changes) ++ spell_change change
spelled_next changes i change inside is =
    ap spell_all (ap (λ (n : ℕ). take n changes) (add-one i) ∙ take-suc changes i change inside)
    ∙ flat_map-append spell_change (take i changes) (slice_index_or changes i change ∷ [])
    ∙ ap (λ (l : List ℕ). spell_all (take i changes) ++ l)
    (append-nil (spell_change (slice_index_or changes i change)) ∙ ap spell_change (sym is))

-- changes as the parts of a body
pub followed_all : (bytes : List ℕ) (changes : List Change)
    → followed bytes (map spell_change changes) ≡ bytes ++ spell_all changes
followed_all bytes [] = sym (append-nil bytes)
followed_all bytes (change ∷ changes) =
    followed_all (bytes ++ spell_change change) changes
    ∙ append_assoc bytes (spell_change change) (spell_all changes)
    ∙ ap (λ (l : List ℕ). bytes ++ l) (sym (flat_map-cons spell_change change changes))

-- and behind a frame whose body was removed
pub parts_spell : (taken : SpelledBody) (room : ℕ) (given changes : List Change)
    → taken ≡ record { body = []; room = room } → given ≡ changes
    → followed taken.body (map spell_change given) ≡ spell_all changes
parts_spell taken room given changes taken_is given_is =
    ap (λ (f : SpelledBody). followed f.body (map spell_change given)) taken_is
    ∙ ap (λ (l : List Change). followed [] (map spell_change l)) given_is ∙ followed_all [] changes
