-- A save is due exactly where registrations, reservation or APTPL differ.
use Rattle.std.proofs.Common.{◌≡◌, ◌||◌, ◌↔◌, not, ℕ, Bool, true, false, List, Option, None, Some, refl, sym, ◌∙◌, ap, subst}
use Rattle.std.proofs.lemmas.Bool.{and_from, and_parts, eq-eqb, eqb-true, false≢true, not-false, true≢false}
use Rattle.scsi_lists.specs.declared.actions.PrType.{PrType}
use Rattle.scsi_lists.specs.declared.actions.PrType.TheVariants.{WriteExclusive, ExclusiveAccess, WriteExclusiveRegistrantsOnly, ExclusiveAccessRegistrantsOnly, WriteExclusiveAllRegistrants, ExclusiveAccessAllRegistrants}
use Rattle.scsi_lists.specs.Actions.{type_number, type_of}
use Rattle.pr_core.specs.declared.states.Reservation.{Reservation}
use Rattle.pr_core.specs.declared.states.PrState.{PrState}
use Rattle.pr_core.specs.Sets.{is_some_in, row_at}
use Rattle.pr_core.specs.States.{key_of}
use Rattle.pr_core.specs.Sound.{IsSound}
use Rattle.pr_core.specs.Reserve.{is_same_type}
use Rattle.pr_core.specs.Saves.{AreSavedAlike, differ_at, is_other_aptpl, is_same_number, is_same_reservation, needs_save}
use Rattle.pr_core.proofs.SetLemmas.{nobody_in, none_in, same_rows}

none_of_two : (one other : Bool) → (one || other) ≡ false → (one ≡ false) × (other ≡ false)
none_of_two true other none = absurd (true≢false none)
none_of_two false other none = (refl, none)

neither : (one other : Bool) → one ≡ false → other ≡ false → (one || other) ≡ false
neither true other first second = absurd (true≢false first)
neither false other first second = second

same_number : (one other : Option ℕ) → is_same_number one other ≡ true → one ≡ other
same_number None None same = refl
same_number None (Some other) same = absurd (false≢true same)
same_number (Some one) None same = absurd (false≢true same)
same_number (Some one) (Some other) same = ap (λ (number : ℕ). Some number) (eqb-true one other same)

own_number : (one : Option ℕ) → is_same_number one one ≡ true
own_number None = refl
own_number (Some one) = eq-eqb one one refl

-- each type is found by its number
found : (kind : PrType) → type_of (type_number kind) ≡ Some kind
found WriteExclusive = refl
found ExclusiveAccess = refl
found WriteExclusiveRegistrantsOnly = refl
found ExclusiveAccessRegistrantsOnly = refl
found WriteExclusiveAllRegistrants = refl
found ExclusiveAccessAllRegistrants = refl

same_type : (one other : PrType) → is_same_type one other ≡ true → one ≡ other
same_type one other same =
    let both : Some one ≡ Some other =
    sym (found one) ∙ (ap type_of (eqb-true (type_number one) (type_number other) same) ∙ found other) in
    cc

-- a reservation by its fields
abbrev made : PrType → Option ℕ → Option Reservation
made kind holder = Some (record { kind = kind; holder = holder })

same_reservation : (one other : Option Reservation) → is_same_reservation one other ≡ true → one ≡ other
same_reservation None None same = refl
same_reservation None (Some other) same = absurd (false≢true same)
same_reservation (Some one) None same = absurd (false≢true same)
same_reservation (Some one) (Some other) same =
    let parts = and_parts (is_same_type one.kind other.kind) (is_same_number one.holder other.holder) same in
    ap (λ (kind : PrType). made kind one.holder) (same_type one.kind other.kind parts.0)
    ∙ ap (λ (holder : Option ℕ). made other.kind holder) (same_number one.holder other.holder parts.1)

own_reservation : (one : Option Reservation) → is_same_reservation one one ≡ true
own_reservation None = refl
own_reservation (Some one) =
    and_from (is_same_type one.kind one.kind) (is_same_number one.holder one.holder)
    (eq-eqb (type_number one.kind) (type_number one.kind) refl) (own_number one.holder)

same_aptpl : (old now : Bool) → is_other_aptpl old now ≡ false → old ≡ now
same_aptpl true true same = refl
same_aptpl true false same = absurd (true≢false same)
same_aptpl false true same = absurd (true≢false same)
same_aptpl false false same = refl

own_aptpl : (one : Bool) → is_other_aptpl one one ≡ false
own_aptpl true = refl
own_aptpl false = refl

alike : (old new : PrState) → IsSound old → IsSound new → needs_save old new ≡ false → AreSavedAlike old new
alike old new old_sound new_sound none =
    let reservations_same = is_same_reservation old.reservation new.reservation in
    let parts =
    none_of_two (is_some_in (differ_at old new)) (not reservations_same || is_other_aptpl old.aptpl new.aptpl) none in
    let rest = none_of_two (not reservations_same) (is_other_aptpl old.aptpl new.aptpl) parts.1 in
    record {
      keys =
          same_rows None old.keys new.keys (key_of old) (record { all = old_sound.all; each = λ nexus is. refl })
          (record {
            all = new_sound.all;
            each = λ nexus is.
                sym (same_number (key_of old nexus) (key_of new nexus)
                (not-false (is_same_number (key_of old nexus) (key_of new nexus))
                (nobody_in (differ_at old new) parts.0 nexus is)));
          });
      reservation = same_reservation old.reservation new.reservation (not-false reservations_same rest.0);
      aptpl = same_aptpl old.aptpl new.aptpl rest.1;
    }

not_due : (old new : PrState) → AreSavedAlike old new → needs_save old new ≡ false
not_due old new same =
    let keys =
    none_in (differ_at old new) (λ nexus is.
    let key = ap (λ (row : List (Option ℕ)). row_at None row nexus) same.keys in
    ap not (subst (λ (now : Option ℕ). is_same_number (key_of old nexus) now ≡ true) key
    (own_number (key_of old nexus)))) in
    let reservation =
    ap not (subst (λ (now : Option Reservation). is_same_reservation old.reservation now ≡ true) same.reservation
    (own_reservation old.reservation)) in
    let aptpl = subst (λ (now : Bool). is_other_aptpl old.aptpl now ≡ false) same.aptpl (own_aptpl old.aptpl) in
    neither (is_some_in (differ_at old new)) _ keys
    (neither (not (is_same_reservation old.reservation new.reservation)) (is_other_aptpl old.aptpl new.aptpl)
    reservation aptpl)

pub due_by_change :
    (old new : PrState) → IsSound old → IsSound new → (needs_save old new ≡ false) ↔ AreSavedAlike old new
due_by_change old new old_sound new_sound = (alike old new old_sound new_sound, not_due old new)
