-- What a move does to the cartridges of a library.
use Rattle.std.proofs.Common.{◌≡◌, ◌≢◌, ◌⊎◌, inl, inr, ℕ, ◌&&◌, ◌||◌, [], Option, None, Some, is_some, Ok, Err, refl, sym, ap, ◌∙◌, subst}
use Rattle.scsi_sense.specs.declared.replies.Reply.{Reply}
use Rattle.scsi_sense.specs.Replies.{check_with, conflict, good_with}
use Rattle.scsi_sense.specs.Senses.{destination_full, invalid_element_address, source_empty}
use Rattle.tape_disk.specs.Disk.{DiskState, IsDisk}
use Rattle.drive_commands.specs.declared.bays.Bay.{Bay}
use Rattle.drive_commands.specs.declared.bays.Bay.TheVariants.{Empty, Unloaded, Loaded}
use Rattle.drive_commands.specs.Media.{GoesOutOf}
use Rattle.drive_commands.specs.State.{medium_in}
use Rattle.tape_buffer.specs.Moves.{buffer_below, medium_moves_nowhere}
use Rattle.tape_buffer.specs.State.{BufferState, state_of}
use Rattle.bay_moves.specs.Elements.{BayState, HeldState, bay_at, cartridge_at, is_element, is_reserved_at}
use Rattle.bay_moves.specs.Inner.Going.{IsAwakeAt, IsAwakeBay, IsAwakeIn}
use Rattle.bay_moves.specs.Moves.{AnswersMove, Carries, GoesBackTo, GoesInAt, GoesOutAt, IsSameAt, IsSameCartridge, StaysAt, StaysCartridge, KeepsBays, KeepsCartridges, MovesMedium, refusal_of_move}
use Rattle.bay_moves.proofs.PlaceLemmas.{all_passed, bay_elsewhere, bay_here, bay_stays, check_is_not_good, conflict_is_not_good, in_bay, in_slot, none_of, one_failed, same_or_not, slot_elsewhere, slot_here, slot_stays, some_of, the_same, wake_is_not_good}
use Rattle.bay_moves.proofs.SameLemmas.{Keeps, breaks_from, comes_back, opens_as, parks_from, same_stays, then_same, then_stays}

module _ {D : Type 0} (state : D → DiskState) where
  module _ (is_disk : (disk : D) → (state disk).honest → IsDisk (state disk)) where
    keeps_self : (medium : BufferState D) → Keeps state medium medium
    keeps_self medium = record {
      moves = medium_moves_nowhere state is_disk medium;
      honest = λ honest. honest;
      read = λ read. read;
      count = refl;
      gives = λ honest works sure. (works, sure, refl);
    }

    same_self : (found : Option (BufferState D)) → IsSameAt state found found
    same_self None = tt
    same_self (Some medium) = record {
      moves = medium_moves_nowhere state is_disk medium;
      gives = λ honest works sure. refl;
    }

    stays_self : (found : Option (BufferState D)) → StaysAt state found found
    stays_self None = tt
    stays_self (Some medium) = same_stays state medium medium (same_self (Some medium))

    stays_when : (old new : Option (BufferState D)) → new ≡ old → StaysAt state old new
    stays_when old new is =
        subst (λ (found : Option (BufferState D)). StaysAt state old found) (sym is) (stays_self old)

    same_there : (old new : Option (BufferState D)) (given later : BufferState D) → old ≡ Some given
        → new ≡ Some later → IsSameCartridge state given later → IsSameAt state old new
    same_there old new given later old_is new_is same =
        subst (λ (found : Option (BufferState D)). IsSameAt state found new) (sym old_is)
        (subst (λ (found : Option (BufferState D)). IsSameAt state (Some given) found) (sym new_is) same)

    stays_there : (old new : Option (BufferState D)) (given later : BufferState D) → old ≡ Some given
        → new ≡ Some later → StaysCartridge state given later → StaysAt state old new
    stays_there old new given later old_is new_is stays =
        subst (λ (found : Option (BufferState D)). StaysAt state found new) (sym old_is)
        (subst (λ (found : Option (BufferState D)). StaysAt state (Some given) found) (sym new_is) stays)

    -- a cartridge that comes out of a drive
    goes_out : (b : Bay (BufferState D)) (bay left : BayState D) (given out : BufferState D)
        → medium_in b ≡ Some given → IsAwakeIn state b
        → GoesOutOf (state_of state) (buffer_below state) b bay (Ok out) left
        → Keeps state given out × (medium_in left.bay ≡ None)
    goes_out Empty bay left given out is awake goes = absurd goes
    goes_out (Unloaded medium) bay left given out is awake goes = (
      subst (λ (m : BufferState D). Keeps state given m) (sym (the_same medium given is) ∙ sym goes.0)
          (keeps_self given),
      ap (λ (b : BayState D). medium_in b.bay) goes.1,
    )
    goes_out (Loaded medium) bay left given out is awake goes = (
      subst (λ (m : BufferState D). Keeps state m out) (the_same medium given is)
          (parks_from state medium out awake goes.0),
      ap (λ (b : BayState D). medium_in b.bay) goes.1,
    )

    -- a cartridge that stays in a drive, since its device failed
    stays_in : (b : Bay (BufferState D)) (bay left : BayState D) (given : BufferState D) (reply : Reply)
        → medium_in b ≡ Some given → IsAwakeIn state b
        → GoesOutOf (state_of state) (buffer_below state) b bay (Err reply) left
        → (reply ≢ good_with []) × ((broken : BufferState D) × (medium_in left.bay ≡ Some broken)
        × IsSameCartridge state given broken)
    stays_in Empty bay left given reply is awake goes = absurd (cc)
    stays_in (Unloaded medium) bay left given reply is awake goes = absurd goes
    stays_in (Loaded medium) bay left given reply is awake goes = (
      (λ good. check_is_not_good _ _ (sym goes.2 ∙ good)),
      (
        goes.0,
        ap (λ (b : BayState D). medium_in b.bay) goes.3,
        subst (λ (m : BufferState D). IsSameCartridge state m goes.0) (the_same medium given is)
            (breaks_from state medium goes.0 awake goes.1),
      ),
    )

    -- a cartridge was taken out of its place
    record TakesOutOf (old : HeldState D) (from : ℕ) (given out : BufferState D) (mid : HeldState D) : Type 0 where
      keeps : Keeps state given out
      none : cartridge_at mid from ≡ None
      others : (other : ℕ) → other ≢ from → cartridge_at mid other ≡ cartridge_at old other

    takes_out : (old mid : HeldState D) (from : ℕ) (given out : BufferState D) → cartridge_at old from ≡ Some given
        → IsAwakeAt state old from → GoesOutAt state old from (Ok out) mid → TakesOutOf old from given out mid
    takes_out old mid from given out is awake (inl goes) = record {
      keeps =
          subst (λ (m : BufferState D). Keeps state given m)
          (the_same given out (sym is ∙ in_slot from old goes.0 ∙ goes.1)) (keeps_self given);
      none = slot_here from None old mid goes.0 goes.2;
      others = slot_elsewhere from None old mid goes.2;
    }
    takes_out old mid from given out is awake (inr goes) =
        let bay = goes.1.0 in
        let found : medium_in bay.bay ≡ Some given = sym (in_bay from bay old goes.0 goes.1.2) ∙ is in
        let awake_in = subst (λ (b : Option (BayState D)). IsAwakeBay state b) goes.1.2 awake in
        let so = goes_out bay.bay bay goes.1.1 given out found awake_in goes.1.3 in
        record {
          keeps = so.0;
          none = bay_here from goes.1.1 old mid goes.0 goes.1.4 ∙ so.1;
          others = bay_elsewhere from goes.1.1 old mid goes.1.4;
        }

    -- a cartridge was put into its place
    record PutsInto (mid : HeldState D) (to : ℕ) (out : BufferState D) (new : HeldState D) : Type 0 where
      later : BufferState D
      there : cartridge_at new to ≡ Some later
      same : IsSameCartridge state out later
      others : (other : ℕ) → other ≢ to → cartridge_at new other ≡ cartridge_at mid other

    puts_into : (mid new : HeldState D) (to : ℕ) (out : BufferState D) → GoesInAt state mid to out (Ok tt) new
        → PutsInto mid to out new
    puts_into mid new to out (inl goes) = record {
      later = out;
      there = slot_here to (Some out) mid new goes.0 goes.1;
      same = same_self (Some out);
      others = slot_elsewhere to (Some out) mid new goes.1;
    }
    puts_into mid new to out (inr goes) =
        let takes = goes.1.3 in
        record {
          later = takes.0;
          there =
              bay_here to goes.1.1 mid new goes.0 goes.1.4
              ∙ ap (λ (b : BayState D). medium_in b.bay) takes.2;
          same = opens_as state out takes.0 takes.1;
          others = bay_elsewhere to goes.1.1 mid new goes.1.4;
        }

    -- a cartridge was returned by a drive, which is unchanged
    record ComesBack (mid : HeldState D) (to : ℕ) (out back : BufferState D) (reply : Reply) (left : HeldState D) :
        Type 0 where
      same : StaysCartridge state out back
      reply_is : reply ≢ good_with []
      all : (address : ℕ) → cartridge_at left address ≡ cartridge_at mid address

    comes : (mid left : HeldState D) (to : ℕ) (out back : BufferState D) (reply : Reply)
        → GoesInAt state mid to out (Err (back, reply)) left → ComesBack mid to out back reply left
    comes mid left to out back reply goes =
        let bay = goes.1.0 in
        let takes = goes.1.3 in
        record {
          same = comes_back state out back takes.0 takes.1;
          reply_is = λ good. wake_is_not_good takes.0 (sym takes.2 ∙ good);
          all = λ address. by address (same_or_not address to);
        }
      where
        by : (address : ℕ) → (address ≡ to) ⊎ (address ≢ to) → cartridge_at left address ≡ cartridge_at mid address
        by address (inl here) =
            ap (λ (a : ℕ). cartridge_at left a) here
            ∙ bay_here to goes.1.1 mid left goes.0 goes.1.4
            ∙ ap (λ (b : BayState D). medium_in b.bay) goes.1.3.3
            ∙ sym (in_bay to goes.1.0 mid goes.0 goes.1.2)
            ∙ ap (λ (a : ℕ). cartridge_at mid a) (sym here)
        by address (inr apart) = bay_elsewhere to goes.1.1 mid left goes.1.4 address apart

    -- a cartridge was put back
    puts_back : (left new : HeldState D) (from : ℕ) (back : BufferState D) → GoesBackTo left from back new
        → (cartridge_at new from ≡ Some back)
        × ((other : ℕ) → other ≢ from → cartridge_at new other ≡ cartridge_at left other)
    puts_back left new from back (inl goes) =
        (slot_here from (Some back) left new goes.0 goes.1, slot_elsewhere from (Some back) left new goes.1)
    puts_back left new from back (inr goes) =
        (bay_here from _ left new goes.0 goes.1.2, bay_elsewhere from _ left new goes.1.2)

    carries_keep : (old new : HeldState D) (from to : ℕ) (reply : Reply) (given : BufferState D)
        → cartridge_at old from ≡ Some given → cartridge_at old to ≡ None → IsAwakeAt state old from
        → Carries state old from to reply new → KeepsCartridges state old from to reply new
    carries_keep old new from to reply given is none awake (inl (slot, (bay, left, at, goes, now))) =
        let found : medium_in bay.bay ≡ Some given = sym (in_bay from bay old slot at) ∙ is in
        let awake_in = subst (λ (b : Option (BayState D)). IsAwakeBay state b) at awake in
        let so = stays_in bay.bay bay left given reply found awake_in goes in
        inr (
          so.0,
          record {
            there =
                stays_there (cartridge_at old from) (cartridge_at new from) given so.1.0 is
                (bay_here from left old new slot now ∙ so.1.1) (same_stays state given so.1.0 so.1.2);
            others = bay_elsewhere from left old new now;
          },
        )
    carries_keep old new from to reply given is none awake (inr (out, mid, goes, inl (into, good))) =
        let taken = takes_out old mid from given out is awake goes in
        let put = puts_into mid new to out into in
        let differs : from ≢ to = λ same.
        let clash : Some given ≡ None = sym is ∙ ap (λ (a : ℕ). cartridge_at old a) same ∙ none in absurd (cc) in
        inl (
          good,
          record {
            apart = differs;
            had = ap is_some is;
            room = none;
            gone = put.others from differs ∙ taken.none;
            there =
                same_there (cartridge_at old from) (cartridge_at new to) given put.later is put.there
                (then_same state given out put.later taken.keeps put.same);
            others = λ other off on. put.others other on ∙ taken.others other off;
          },
        )
    carries_keep old new from to reply given is none awake (inr (out, mid, goes, inr (back, left, into, puts))) =
        let taken = takes_out old mid from given out is awake goes in
        let came = comes mid left to out back reply into in
        let put = puts_back left new from back puts in
        inr (
          came.reply_is,
          record {
            there =
                stays_there (cartridge_at old from) (cartridge_at new from) given back is put.0
                (then_stays state given out back taken.keeps came.same);
            others = λ other off. put.1 other off ∙ came.all other ∙ taken.others other off;
          },
        )

    pub moves_keep : (old new : HeldState D) (from to : ℕ) (reply : Reply)
        → (refusal_of_move old from to ≡ None → IsAwakeAt state old from) → MovesMedium state old from to reply new
        → KeepsCartridges state old from to reply new
    moves_keep old new from to reply awake moves = by (refusal_of_move old from to) refl moves
      where
        by : (refusal : Option Reply) → refusal_of_move old from to ≡ refusal
            → AnswersMove state refusal old from to reply new → KeepsCartridges state old from to reply new
        by (Some r) is answers = inr (
          (λ good.
              one_failed (is_element old from && is_element old to)
              (is_reserved_at (bay_at old.bays from) || is_reserved_at (bay_at old.bays to))
              (is_some (cartridge_at old from)) (is_some (cartridge_at old to)) (check_with invalid_element_address [])
              conflict (check_with source_empty []) (check_with destination_full []) (good_with []) r
              (check_is_not_good invalid_element_address []) conflict_is_not_good (check_is_not_good source_empty [])
              (check_is_not_good destination_full []) is (sym answers.0 ∙ good)),
          record {
            there =
                stays_when (cartridge_at old from) (cartridge_at new from)
                (ap (λ (h : HeldState D). cartridge_at h from) answers.1);
            others = λ other off. ap (λ (h : HeldState D). cartridge_at h other) answers.1;
          },
        )
        by None is answers =
            let passed = all_passed (is_element old from && is_element old to)
            (is_reserved_at (bay_at old.bays from) || is_reserved_at (bay_at old.bays to))
            (is_some (cartridge_at old from)) (is_some (cartridge_at old to)) (check_with invalid_element_address [])
            conflict (check_with source_empty []) (check_with destination_full []) is in
            let source = some_of (cartridge_at old from) passed.0 in
            carries_keep old new from to reply source.0 source.1 (none_of (cartridge_at old to) passed.1) (awake is)
            answers

  out_stays : (old mid : HeldState D) (from : ℕ) (out : BufferState D) → GoesOutAt state old from (Ok out) mid
      → KeepsBays old mid
  out_stays old mid from out (inl goes) = slot_stays from None old mid goes.2
  out_stays old mid from out (inr goes) = bay_stays from goes.1.0 goes.1.1 old mid goes.1.2 goes.1.4

  in_stays : (mid new : HeldState D) (to : ℕ) (out : BufferState D) → GoesInAt state mid to out (Ok tt) new
      → KeepsBays mid new
  in_stays mid new to out (inl goes) = slot_stays to (Some out) mid new goes.1
  in_stays mid new to out (inr goes) = bay_stays to goes.1.0 goes.1.1 mid new goes.1.2 goes.1.4

  back_stays : (left new : HeldState D) (from : ℕ) (back : BufferState D) → GoesBackTo left from back new
      → KeepsBays left new
  back_stays left new from back (inl goes) = slot_stays from (Some back) left new goes.1
  back_stays left new from back (inr goes) = bay_stays from goes.1.0 _ left new goes.1.1 goes.1.2

  carries_stay : (old new : HeldState D) (from to : ℕ) (reply : Reply) → Carries state old from to reply new
      → KeepsBays old new
  carries_stay old new from to reply (inl goes) number =
      bay_stays from goes.1.0 goes.1.1 old new goes.1.2 goes.1.4 number
  carries_stay old new from to reply (inr (out, mid, goes, inl (into, good))) number =
      in_stays mid new to out into number ∙ out_stays old mid from out goes number
  carries_stay old new from to reply (inr (out, mid, goes, inr (back, left, into, puts))) number =
      back_stays left new from back puts number
      ∙ bay_stays to into.1.0 into.1.1 mid left into.1.2 into.1.4 number
      ∙ out_stays old mid from out goes number

  pub moves_stay : (old new : HeldState D) (from to : ℕ) (reply : Reply) → MovesMedium state old from to reply new
      → KeepsBays old new
  moves_stay old new from to reply moves = by (refusal_of_move old from to) moves
    where
      by : (refusal : Option Reply) → AnswersMove state refusal old from to reply new → KeepsBays old new
      by (Some r) answers number = ap (λ (h : HeldState D). is_some (bay_at h.bays number)) answers.1
      by None answers number = carries_stay old new from to reply answers number
