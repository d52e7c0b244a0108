-- A move from one drive to another, in a library that has both.
use Rattle.std.proofs.Common.{◌≡◌, ◌≢◌, ◌⊎◌, inl, inr, ℕ, ◌-◌, false, List, [], length, set, Option, None, Some, Ok, Err, refl, sym, ap, ◌∙◌, subst}
use Rattle.tape_disk.specs.Disk.{DiskState}
use Rattle.scsi_sense.specs.declared.replies.Reply.{Reply}
use Rattle.scsi_sense.specs.Replies.{good_with}
use Rattle.drive_commands.specs.declared.bays.Bay.TheVariants.{Unloaded}
use Rattle.drive_commands.specs.Media.{GoesOut, TakesIn}
use Rattle.tape_buffer.specs.Moves.{buffer_below}
use Rattle.tape_buffer.specs.State.{BufferState, state_of}
use Rattle.element_slots.specs.Slots.{is_slot}
use Rattle.bay_moves.specs.declared.lent.End.{End}
use Rattle.bay_moves.specs.Elements.{BayState, Becomes, HeldState, bay_at}
use Rattle.bay_moves.specs.Inner.Carried.{IsMoved, drive_end, refusal_between}
use Rattle.bay_moves.specs.Inner.Going.{IsAwakeIn}
use Rattle.bay_moves.specs.Lent.{AreNamed}
use Rattle.bay_moves.specs.Moves.{BayIs, GoesOutAt, refusal_of_move}
use Rattle.bay_moves.proofs.CarriedLemmas.{carried, refused, some_awake}
use Rattle.bay_moves.proofs.EndLemmas.{apart, drive_is, found_becomes, found_same, off_slots, refuses_as, still_long}
use Rattle.bay_moves.proofs.PlaceLemmas.{same_or_not}

module _ {D : Type 0} (state : D → DiskState) (slots : List (Option (BufferState D)))
    (bays : List (Option (BayState D))) (from to : ℕ) (source destination : BayState D)
    (named : AreNamed from to (Some source) (Some destination) bays) where
  abbrev with_row : List (Option (BayState D)) → HeldState D
  with_row row = record { slots = slots; bays = row }

  -- the drives with one set at the source, and then another at the destination
  abbrev out_row : BayState D → List (Option (BayState D))
  out_row left = set bays (from - 1) (Some left)

  abbrev row_with : BayState D → BayState D → List (Option (BayState D))
  row_with left later = set (out_row left) (to - 1) (Some later)

  differs : from ≢ to
  differs = apart from to (Some source) destination bays named

  out_becomes : (left : BayState D) → Becomes from (Some left) bays (out_row left)
  out_becomes left = found_becomes bays from source left named.all named.at_source

  at_to : (left : BayState D) → bay_at (out_row left) to ≡ Some destination
  at_to left = (out_becomes left).elsewhere to (λ same. differs (sym same)) ∙ named.at_destination differs

  out_long : (left : BayState D) → length (out_row left) ≡ 16
  out_long left = still_long bays (from - 1) (Some left) named.all

  in_becomes : (left later : BayState D) → Becomes to (Some later) (out_row left) (row_with left later)
  in_becomes left later = found_becomes (out_row left) to destination later (out_long left) (at_to left)

  -- a destination that is unchanged
  in_same : (left : BayState D) → row_with left destination ≡ out_row left
  in_same left = found_same (out_row left) to destination (out_long left) (at_to left)

  off_from : is_slot from ≡ false
  off_from = off_slots bays from source named.all named.at_source

  off_to : is_slot to ≡ false
  off_to = off_slots bays to destination named.all (named.at_destination differs)

  drives_refuse : (e f : End) (refusal : Option Reply) → e ≡ drive_end source → f ≡ drive_end destination
      → refusal ≡ refusal_between e f → refusal_of_move (with_row bays) from to ≡ refusal
  drives_refuse e f refusal e_is f_is is =
      refuses_as (with_row bays) from to e f refusal
      (e_is ∙ drive_is slots bays from source named.all named.at_source)
      (f_is ∙ drive_is slots bays to destination named.all (named.at_destination differs)) is

  pub drives_refused : (e f : End) (reply : Reply) → e ≡ drive_end source → f ≡ drive_end destination
      → Some reply ≡ refusal_between e f
      → IsMoved state from to reply (with_row bays) (with_row (row_with source destination))
  drives_refused e f reply e_is f_is is =
      refused state (with_row bays) (with_row (row_with source destination)) from to reply
      (drives_refuse e f (Some reply) e_is f_is is)
      (ap (λ (row : List (Option (BayState D))). with_row row)
      (in_same source ∙ found_same bays from source named.all named.at_source))

  pub drives_stay : (e f : End) (left : BayState D) (reply : Reply) → e ≡ drive_end source
      → f ≡ drive_end destination → None ≡ refusal_between e f
      → GoesOut (state_of state) (buffer_below state) source (Err reply) left → IsAwakeIn state source.bay
      → IsMoved state from to reply (with_row bays) (with_row (row_with left destination))
  drives_stay e f left reply e_is f_is is goes awake =
      subst (λ (row : List (Option (BayState D))). IsMoved state from to reply (with_row bays) (with_row row))
      (sym (in_same left))
      (carried state (with_row bays) (with_row (out_row left)) from to reply (drives_refuse e f None e_is f_is is)
      (some_awake state slots bays from to source named.at_source awake)
      (inl (
        off_from,
        (source, left, named.at_source, goes, record { bays = out_becomes left; slots = refl }),
      )))

  drives_out : (left : BayState D) (out : BufferState D)
      → GoesOut (state_of state) (buffer_below state) source (Ok out) left
      → GoesOutAt state (with_row bays) from (Ok out) (with_row (out_row left))
  drives_out left out goes =
      inr (off_from, (source, left, named.at_source, goes, record { bays = out_becomes left; slots = refl }))

  pub drives_carry : (e f : End) (left later : BayState D) (out : BufferState D) (reply : Reply)
      → e ≡ drive_end source → f ≡ drive_end destination → None ≡ refusal_between e f
      → GoesOut (state_of state) (buffer_below state) source (Ok out) left → IsAwakeIn state source.bay
      → TakesIn (state_of state) (buffer_below state) destination out (Ok tt) later → reply ≡ good_with []
      → IsMoved state from to reply (with_row bays) (with_row (row_with left later))
  drives_carry e f left later out reply e_is f_is is goes awake opens good =
      carried state (with_row bays) (with_row (row_with left later)) from to reply
      (drives_refuse e f None e_is f_is is) (some_awake state slots bays from to source named.at_source awake)
      (inr (
        out,
        with_row (out_row left),
        drives_out left out goes,
        inl (
          inr (
            off_to,
            (destination, later, at_to left, opens, record { bays = in_becomes left later; slots = refl }),
          ),
          good,
        ),
      ))

  -- the source after its cartridge was put back
  back_becomes : (left later again : BayState D)
      → Becomes from (Some again) (row_with left later) (row_with again later)
  back_becomes left later again = record {
    here = (in_becomes again later).elsewhere from differs ∙ (out_becomes again).here;
    elsewhere = λ other off. by other off (same_or_not other to);
  }
    where
      by : (other : ℕ) → other ≢ from → (other ≡ to) ⊎ (other ≢ to)
          → bay_at (row_with again later) other ≡ bay_at (row_with left later) other
      by other off (inl same) =
          ap (λ (n : ℕ). bay_at (row_with again later) n) same ∙ (in_becomes again later).here
          ∙ sym (in_becomes left later).here ∙ ap (λ (n : ℕ). bay_at (row_with left later) n) (sym same)
      by other off (inr on) =
          (in_becomes again later).elsewhere other on ∙ (out_becomes again).elsewhere other off
          ∙ sym ((in_becomes left later).elsewhere other on ∙ (out_becomes left).elsewhere other off)

  pub drives_back : (e f : End) (left later again : BayState D) (out back : BufferState D) (reply : Reply)
      → e ≡ drive_end source → f ≡ drive_end destination → None ≡ refusal_between e f
      → GoesOut (state_of state) (buffer_below state) source (Ok out) left → IsAwakeIn state source.bay
      → TakesIn (state_of state) (buffer_below state) destination out (Err (back, reply)) later
      → again ≡ record left { bay = Unloaded back }
      → IsMoved state from to reply (with_row bays) (with_row (row_with again later))
  drives_back e f left later again out back reply e_is f_is is goes awake refuses put =
      carried state (with_row bays) (with_row (row_with again later)) from to reply
      (drives_refuse e f None e_is f_is is) (some_awake state slots bays from to source named.at_source awake)
      (inr (
        out,
        with_row (out_row left),
        drives_out left out goes,
        inr (
          back,
          with_row (row_with left later),
          (
            off_to,
            (destination, later, at_to left, refuses, record { bays = in_becomes left later; slots = refl }),
          ),
          inr (
            off_from,
            (
              left,
              (in_becomes left later).elsewhere from differs ∙ (out_becomes left).here,
              subst (λ (b : BayState D). BayIs from b (with_row (row_with left later))
                  (with_row (row_with again later))) put
                  (record { bays = back_becomes left later again; slots = refl }),
            ),
          ),
        ),
      ))
