-- What each move on lent slots and drives does in a library that has them.
use Rattle.std.proofs.Common.{◌≡◌, ◌≢◌, inl, inr, ℕ, ◌-◌, ◌==◌, Bool, true, false, List, [], set, Option, None, Some, Ok, Err, refl, sym, ap, ◌∙◌, cond, subst}
use Rattle.tape_disk.specs.Disk.{DiskState}
use Rattle.scsi_sense.specs.declared.replies.Reply.{Reply}
use Rattle.scsi_sense.specs.Replies.{good_with}
use Rattle.drive_commands.specs.Media.{GoesOut, TakesIn}
use Rattle.tape_buffer.specs.Moves.{buffer_below}
use Rattle.tape_buffer.specs.State.{BufferState, state_of}
use Rattle.element_slots.specs.Slots.{Puts, held_at, is_slot}
use Rattle.bay_moves.specs.declared.lent.End.{End}
use Rattle.bay_moves.specs.Elements.{BayState, HeldState, bay_at}
use Rattle.bay_moves.specs.Inner.Carried.{IsMoved, drive_end, end_beside, refusal_between, slot_end}
use Rattle.bay_moves.specs.Inner.Going.{IsAwakeAt, IsAwakeBay, IsAwakeIn}
use Rattle.bay_moves.specs.Lent.{AreNamed}
use Rattle.bay_moves.specs.Moves.{AnswersMove, BayIs, Carries, refusal_of_move}
use Rattle.bay_moves.proofs.EndLemmas.{apart, drive_is, end_at, found_becomes, found_same, none_at, none_refuses, off_slots, refuses_as, slot_is}
use Rattle.std.proofs.lemmas.Bool.{eqb-true, eq-eqb}

module _ {D : Type 0} (state : D → DiskState) where
  pub refused : (old new : HeldState D) (from to : ℕ) (reply : Reply) → refusal_of_move old from to ≡ Some reply
      → new ≡ old → IsMoved state from to reply old new
  refused old new from to reply is same = record {
    answer = subst (λ (r : Option Reply). AnswersMove state r old from to reply new) (sym is) (refl, same);
    awake = λ none. let clash : Some reply ≡ None = sym is ∙ none in absurd (cc);
  }

  pub carried : (old new : HeldState D) (from to : ℕ) (reply : Reply) → refusal_of_move old from to ≡ None
      → IsAwakeAt state old from → Carries state old from to reply new → IsMoved state from to reply old new
  carried old new from to reply is awake carries = record {
    answer = subst (λ (r : Option Reply). AnswersMove state r old from to reply new) (sym is) carries;
    awake = λ none. awake;
  }

  module _ (slots : List (Option (BufferState D))) (bays : List (Option (BayState D))) (from to : ℕ) where
    abbrev old : HeldState D
    old = record { slots = slots; bays = bays }

    abbrev with_row : List (Option (BayState D)) → HeldState D
    with_row row = record { slots = slots; bays = row }

    -- the loaded medium at the source is awake
    none_awake : bay_at bays from ≡ None → IsAwakeAt state old from
    none_awake none = subst (λ (b : Option (BayState D)). IsAwakeBay state b) (sym none) tt

    pub some_awake : (bay : BayState D) → bay_at bays from ≡ Some bay → IsAwakeIn state bay.bay → IsAwakeAt state
        old from
    some_awake bay at awake = subst (λ (b : Option (BayState D)). IsAwakeBay state b) (sym at) awake

    -- between two slots
    module _ (named : AreNamed from to None None bays) where
      slots_refuse : (e f : End) (refusal : Option Reply) → e ≡ slot_end slots from → f ≡ slot_end slots to
          → refusal ≡ refusal_between e f → refusal_of_move old from to ≡ refusal
      slots_refuse e f refusal e_is f_is is =
          refuses_as old from to e f refusal (e_is ∙ slot_is slots bays from named.at_source)
          (f_is ∙ slot_is slots bays to (none_at from to bays named)) is

      pub slots_carry : (e f : End) (mid later : List (Option (BufferState D))) (out : BufferState D) (reply : Reply)
          → e ≡ slot_end slots from → f ≡ slot_end slots to → None ≡ refusal_between e f
          → held_at slots from ≡ Some out → Puts from None slots mid → Puts to (Some out) mid later
          → reply ≡ good_with [] → IsMoved state from to reply old (record { slots = later; bays = bays })
      slots_carry e f mid later out reply e_is f_is is held takes puts good =
          let passed = none_refuses e f is in
          let on : is_slot from ≡ true = sym (ap (λ (x : End). x.known) e_is) ∙ passed.0 in
          let off : is_slot to ≡ true = sym (ap (λ (x : End). x.known) f_is) ∙ passed.1 in
          carried old (record { slots = later; bays = bays }) from to reply (slots_refuse e f None e_is f_is is)
          (none_awake named.at_source)
          (inr (
            out,
            record { slots = mid; bays = bays },
            inl (on, held, record { slots = takes; bays = refl }),
            inl (inl (off, record { slots = puts; bays = refl }), good),
          ))

    -- out of a drive into a slot
    module _ (bay : BayState D) (named : AreNamed from to (Some bay) None bays) where
      beside_is : end_beside slots bay from to ≡ end_at old to
      beside_is = by (from == to) refl
        where
          by : (b : Bool) → (from == to) ≡ b → end_beside slots bay from to ≡ end_at old to
          by true is =
              let same : from ≡ to = eqb-true from to is in
              ap (λ (b : Bool). cond b (drive_end bay) (slot_end slots to)) is
              ∙ drive_is slots bays to bay named.all
              (subst (λ (n : ℕ). bay_at bays n ≡ Some bay) same named.at_source)
          by false is =
              let differs : from ≢ to = λ same. let no : true ≡ false = sym (eq-eqb from to same) ∙ is in absurd (cc) in
              ap (λ (b : Bool). cond b (drive_end bay) (slot_end slots to)) is
              ∙ slot_is slots bays to (named.at_destination differs)

      out_refuses : (e f : End) (refusal : Option Reply) → e ≡ drive_end bay → f ≡ end_beside slots bay from to
          → refusal ≡ refusal_between e f → refusal_of_move old from to ≡ refusal
      out_refuses e f refusal e_is f_is is =
          refuses_as old from to e f refusal (e_is ∙ drive_is slots bays from bay named.all named.at_source)
          (f_is ∙ beside_is) is

      pub out_refused : (e f : End) (reply : Reply) → e ≡ drive_end bay → f ≡ end_beside slots bay from to
          → Some reply ≡ refusal_between e f
          → IsMoved state from to reply old (record { slots = slots; bays = set bays (from - 1) (Some bay) })
      out_refused e f reply e_is f_is is =
          refused old _ from to reply (out_refuses e f (Some reply) e_is f_is is)
          (ap (λ (row : List (Option (BayState D))). with_row row)
          (found_same bays from bay named.all named.at_source))

      -- the drive after its cartridge came out, or did not
      out_bay : (left : BayState D) → BayIs from left old (record {
        slots = slots;
        bays = set bays (from - 1) (Some
            left);
      })
      out_bay left = record { bays = found_becomes bays from bay left named.all named.at_source; slots = refl }

      pub out_stays : (e f : End) (left : BayState D) (reply : Reply) → e ≡ drive_end bay
          → f ≡ end_beside slots bay from to → None ≡ refusal_between e f
          → GoesOut (state_of state) (buffer_below state) bay (Err reply) left → IsAwakeIn state bay.bay
          → IsMoved state from to reply old (record { slots = slots; bays = set bays (from - 1) (Some left) })
      out_stays e f left reply e_is f_is is goes awake =
          carried old _ from to reply (out_refuses e f None e_is f_is is) (some_awake bay named.at_source awake)
          (inl (
            off_slots bays from bay named.all named.at_source,
            (bay, left, named.at_source, goes, out_bay left),
          ))

      out_slot : (e f : End) → e ≡ drive_end bay → f ≡ end_beside slots bay from to → None ≡ refusal_between e f
          → is_slot to ≡ true
      out_slot e f e_is f_is is = by (from == to) refl (none_refuses e f is)
        where
          by : (b : Bool) → (from == to) ≡ b
              → (e.known ≡ true) × (f.known ≡ true) × (e.full ≡ true) × (f.full ≡ false) → is_slot to ≡ true
          by true same passed =
              let both : f ≡ e =
              f_is ∙ ap (λ (b : Bool). cond b (drive_end bay) (slot_end slots to)) same ∙ sym e_is in
              let clash : true ≡ false = sym passed.2 ∙ sym (ap (λ (x : End). x.full) both) ∙ passed.3 in absurd (cc)
          by false differs passed =
              let there : f ≡ slot_end slots to =
              f_is ∙ ap (λ (b : Bool). cond b (drive_end bay) (slot_end slots to)) differs in
              sym (ap (λ (x : End). x.known) there) ∙ passed.1

      pub out_carries : (e f : End) (left : BayState D) (later : List (Option (BufferState D))) (out : BufferState D)
          (reply : Reply) → e ≡ drive_end bay → f ≡ end_beside slots bay from to → None ≡ refusal_between e f
          → GoesOut (state_of state) (buffer_below state) bay (Ok out) left → IsAwakeIn state bay.bay
          → Puts to (Some out) slots later → reply ≡ good_with []
          → IsMoved state from to reply old (record { slots = later; bays = set bays (from - 1) (Some left) })
      out_carries e f left later out reply e_is f_is is goes awake puts good =
          carried old _ from to reply (out_refuses e f None e_is f_is is) (some_awake bay named.at_source awake)
          (inr (
            out,
            record { slots = slots; bays = set bays (from - 1) (Some left) },
            inr (
              off_slots bays from bay named.all named.at_source,
              (bay, left, named.at_source, goes, out_bay left),
            ),
            inl (inl (out_slot e f e_is f_is is, record { slots = puts; bays = refl }), good),
          ))

    -- into a drive
    module _ (bay : BayState D) (named : AreNamed from to None (Some bay) bays) where
      differs : from ≢ to
      differs = apart from to None bay bays named

      into_refuses : (e f : End) (refusal : Option Reply) → e ≡ slot_end slots from → f ≡ drive_end bay
          → refusal ≡ refusal_between e f → refusal_of_move old from to ≡ refusal
      into_refuses e f refusal e_is f_is is =
          refuses_as old from to e f refusal (e_is ∙ slot_is slots bays from named.at_source)
          (f_is ∙ drive_is slots bays to bay named.all (named.at_destination differs)) is

      pub into_refused : (e f : End) (reply : Reply) → e ≡ slot_end slots from → f ≡ drive_end bay
          → Some reply ≡ refusal_between e f
          → IsMoved state from to reply old (record { slots = slots; bays = set bays (to - 1) (Some bay) })
      into_refused e f reply e_is f_is is =
          refused old _ from to reply (into_refuses e f (Some reply) e_is f_is is)
          (ap (λ (row : List (Option (BayState D))). with_row row)
          (found_same bays to bay named.all (named.at_destination differs)))

      pub into_carries : (e f : End) (mid : List (Option (BufferState D))) (left : BayState D) (out : BufferState D)
          (reply : Reply) → e ≡ slot_end slots from → f ≡ drive_end bay → None ≡ refusal_between e f
          → held_at slots from ≡ Some out → Puts from None slots mid
          → TakesIn (state_of state) (buffer_below state) bay out (Ok tt) left → reply ≡ good_with []
          → IsMoved state from to reply old (record { slots = mid; bays = set bays (to - 1) (Some left) })
      into_carries e f mid left out reply e_is f_is is held takes opens good =
          let on : is_slot from ≡ true = sym (ap (λ (x : End). x.known) e_is) ∙ (none_refuses e f is).0 in
          carried old _ from to reply (into_refuses e f None e_is f_is is) (none_awake named.at_source)
          (inr (
            out,
            record { slots = mid; bays = bays },
            inl (on, held, record { slots = takes; bays = refl }),
            inl (
              inr (
                off_slots bays to bay named.all (named.at_destination differs),
                (
                  bay,
                  left,
                  named.at_destination differs,
                  opens,
                  record {
                    bays = found_becomes bays to bay left named.all (named.at_destination differs);
                    slots = refl;
                  },
                ),
              ),
              good,
            ),
          ))

      pub into_comes_back : (e f : End) (mid later : List (Option (BufferState D))) (left : BayState D)
          (out again : BufferState D) (reply : Reply) → e ≡ slot_end slots from → f ≡ drive_end bay
          → None ≡ refusal_between e f → held_at slots from ≡ Some out → Puts from None slots mid
          → TakesIn (state_of state) (buffer_below state) bay out (Err (again, reply)) left
          → Puts from (Some again) mid later
          → IsMoved state from to reply old (record { slots = later; bays = set bays (to - 1) (Some left) })
      into_comes_back e f mid later left out again reply e_is f_is is held takes refuses puts =
          let on : is_slot from ≡ true = sym (ap (λ (x : End). x.known) e_is) ∙ (none_refuses e f is).0 in
          carried old _ from to reply (into_refuses e f None e_is f_is is) (none_awake named.at_source)
          (inr (
            out,
            record { slots = mid; bays = bays },
            inl (on, held, record { slots = takes; bays = refl }),
            inr (
              again,
              record { slots = mid; bays = set bays (to - 1) (Some left) },
              (
                off_slots bays to bay named.all (named.at_destination differs),
                (
                  bay,
                  left,
                  named.at_destination differs,
                  refuses,
                  record {
                    bays = found_becomes bays to bay left named.all (named.at_destination differs);
                    slots = refl;
                  },
                ),
              ),
              inl (on, record { slots = puts; bays = refl }),
            ),
          ))
