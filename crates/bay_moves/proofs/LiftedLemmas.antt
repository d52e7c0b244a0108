-- Drives that are taken out of their places, lent to a move, and put back.
use Rattle.std.specs.Borrow.{MutBor}
use Rattle.std.specs.Option.{option_copied_mut}
use Rattle.std.proofs.Common.{◌≡◌, ◌≢◌, ◌⊎◌, ℕ, ◌-◌, List, length, set, get_or, Option, None, Some, IfNone, IfSome, refl, sym, ap, ◌∙◌, arith, subst}
use Rattle.std.proofs.lemmas.List.{length-set, set-set, set_comm, set-get_or}
use Rattle.tape_buffer.specs.State.{BufferState}
use Rattle.bay_moves.specs.Elements.{BayState, Becomes, HeldState, bay_at}
use Rattle.bay_moves.specs.Inner.Lifted.{with_bay}
use Rattle.bay_moves.specs.Lent.{InEach, IsDriveAddress, back, lent}
use Rattle.bay_moves.proofs.BayLemmas.{at_place, changed_at, set_becomes}

module _ {X : Type 0} where
  -- nothing was lent
  pub none_lent : (r : Option (MutBor X)) (left : Unit {0} ⊎ ((MutBor X × Unit {0}) ⊎ ⊥))
      → option_copied_mut r ≡ None → (Q : Option X → Option X → Type 0) → Q (lent r) (back r left) → Q None None
  none_lent None left none Q q = q
  none_lent (Some given) left none Q q = absurd (cc)

  -- the same for two drives
  pub neither_lent : (r s : Option (MutBor X)) (left still : Unit {0} ⊎ ((MutBor X × Unit {0}) ⊎ ⊥))
      → option_copied_mut r ≡ None → option_copied_mut s ≡ None
      → (Q : Option X → Option X → Option X → Option X → Type 0) → Q (lent r) (lent s) (back r left) (back s still)
      → Q None None None None
  neither_lent None None left still none nor Q q = q
  neither_lent (Some given) s left still none nor Q q = absurd (cc)
  neither_lent None (Some given) left still none nor Q q = absurd (cc)

  -- the drive of a place that was found
  pub some_is : (found : Option X) (x : X) (Q : X → Type 0) → found ≡ Some x → IfSome found Q → Q x
  some_is found x Q is so = subst (λ (f : Option X). IfSome f Q) is so

module _ {D : Type 0} where
  here : (bays : List (Option (BayState D))) (number : ℕ) (bay : BayState D) → IsDriveAddress number → length bays ≡ 16
      → bay_at (set bays (number - 1) (Some bay)) number ≡ Some bay
  here bays number bay drive long = (set_becomes bays number (Some bay) drive.least drive.most long).here

  elsewhere : (bays : List (Option (BayState D))) (number other : ℕ) (bay : BayState D) → IsDriveAddress number
      → length bays ≡ 16 → other ≢ number → bay_at (set bays (number - 1) (Some bay)) other ≡ bay_at bays other
  elsewhere bays number other bay drive long apart =
      (set_becomes bays number (Some bay) drive.least drive.most long).elsewhere other apart

  module _ (P : HeldState D → HeldState D → Type 0) (slots slots' : List (Option (BufferState D))) (from to : ℕ)
      (bays : List (Option (BayState D))) (long : length bays ≡ 16) where
    -- the values before and after, by other names
    renewed : (at : HeldState D → HeldState D) (held new other : HeldState D)
        → record { slots = slots; bays = bays } ≡ held → new ≡ other
        → P (at (record { slots = slots; bays = bays })) other → P (at held) new
    renewed at held new other was is so =
        subst (λ (h : HeldState D). P (at h) new) was
        (subst (λ (h : HeldState D). P (at (record { slots = slots; bays = bays })) h) (sym is) so)

    -- a drive is lent as the source
    pub source_lent : (source source' : BayState D) (held new : HeldState D)
        → record { slots = slots; bays = bays } ≡ held
        → new ≡ with_bay from source' (record { slots = slots'; bays = bays }) → IsDriveAddress from
        → bay_at held.bays to ≡ None → InEach from to slots (Some source) None slots' (Some source') None P
        → P (with_bay from source held) new
    source_lent source source' held new was is drive free each =
        let alone = subst (λ (h : HeldState D). bay_at h.bays to ≡ None) (sym was) free in
        renewed (λ (h : HeldState D). with_bay from source h) held new _ was is
        (subst (λ (row : List (Option (BayState D))). P (with_bay from source (record { slots = slots; bays = bays }))
        (record { slots = slots'; bays = row }))
        (set-set bays (from - 1) (Some source) (Some source'))
        (each (set bays (from - 1) (Some source)) (record {
          all = length-set bays (from - 1) (Some source) ∙ long;
          at_source = here bays from source drive long;
          at_destination =
              λ differs. elsewhere bays from to source drive long (λ same. differs (sym same)) ∙ alone;
          once = λ same. refl;
        })))

    -- a drive is lent as the destination
    pub destination_lent : (destination destination' : BayState D) (held new : HeldState D)
        → record { slots = slots; bays = bays } ≡ held
        → new ≡ with_bay to destination' (record { slots = slots'; bays = bays }) → IsDriveAddress to → from ≢ to
        → bay_at held.bays from ≡ None → InEach from to slots None (Some destination) slots' None (Some destination') P
        → P (with_bay to destination held) new
    destination_lent destination destination' held new was is drive apart free each =
        let alone = subst (λ (h : HeldState D). bay_at h.bays from ≡ None) (sym was) free in
        renewed (λ (h : HeldState D). with_bay to destination h) held new _ was is
        (subst (λ (row : List (Option (BayState D))).
        P (with_bay to destination (record { slots = slots; bays = bays })) (record { slots = slots'; bays = row }))
        (set-set bays (to - 1) (Some destination) (Some destination'))
        (each (set bays (to - 1) (Some destination)) (record {
          all = length-set bays (to - 1) (Some destination) ∙ long;
          at_source = elsewhere bays to from destination drive long apart ∙ alone;
          at_destination = λ differs. here bays to destination drive long;
          once = λ same. absurd (apart same);
        })))

    -- two drives are lent
    pub both_lent : (source source' destination destination' : BayState D) (held mid new : HeldState D)
        → record { slots = slots; bays = bays } ≡ held
        → mid ≡ with_bay from source' (record { slots = slots'; bays = bays }) → new ≡ with_bay to destination' mid
        → IsDriveAddress from → IsDriveAddress to → from ≢ to
        → InEach from to slots (Some source) (Some destination) slots' (Some source') (Some destination') P
        → P (with_bay from source (with_bay to destination held)) new
    both_lent source source' destination destination' held mid new was first_is is drive other apart each =
        renewed (λ (h : HeldState D). with_bay from source (with_bay to destination h)) held new _ was
        (is ∙ ap (λ (h : HeldState D). with_bay to destination' h) first_is)
        (subst (λ (row : List (Option (BayState D))).
        P (with_bay from source (with_bay to destination (record { slots = slots; bays = bays })))
        (record { slots = slots'; bays = row })) same
        (each (set first (from - 1) (Some source)) (record {
          all = length-set first (from - 1) (Some source) ∙ first_long;
          at_source = here first from source drive first_long;
          at_destination =
              λ differs. elsewhere first from to source drive first_long (λ is. apart (sym is))
              ∙ here bays to destination other long;
          once = λ is. absurd (apart is);
        })))
      where
        first : List (Option (BayState D))
        first = set bays (to - 1) (Some destination)

        first_long : length first ≡ 16
        first_long = length-set bays (to - 1) (Some destination) ∙ long

        differ : to - 1 ≢ from - 1
        differ is = apart (omega (arith, is, drive.least, other.least))

        same : set (set (set first (from - 1) (Some source)) (from - 1) (Some source')) (to - 1) (Some destination')
            ≡ set (set bays (from - 1) (Some source')) (to - 1) (Some destination')
        same =
            ap (λ (row : List (Option (BayState D))). set row (to - 1) (Some destination'))
            (set-set first (from - 1) (Some source) (Some source')
            ∙ set_comm bays (to - 1) (from - 1) (Some destination) (Some source') differ)
            ∙ set-set (set bays (from - 1) (Some source')) (to - 1) (Some destination) (Some destination')

    -- no drive is lent
    pub none_named : (held : HeldState D) → record { slots = slots; bays = bays } ≡ held → bay_at held.bays from ≡ None
        → bay_at held.bays to ≡ None → InEach from to slots None None slots' None None P
        → P held (record { slots = slots'; bays = bays })
    none_named held was source destination each =
        subst (λ (h : HeldState D). P h (record { slots = slots'; bays = bays })) was
        (each bays (record {
          all = long;
          at_source = subst (λ (h : HeldState D). bay_at h.bays from ≡ None) (sym was) source;
          at_destination =
              λ differs. subst (λ (h : HeldState D). bay_at h.bays to ≡ None) (sym was) destination;
          once = λ same. refl;
        }))

  -- a drive was taken out, or there was none
  module _ (slots : List (Option (BufferState D))) (bays : List (Option (BayState D))) (number place : ℕ)
      (found left : Option (BayState D)) (held : HeldState D) (is : record { slots = slots; bays = bays } ≡ held)
      (drive : IsDriveAddress number) (at : place ≡ number - 1) (there : bay_at bays number ≡ found)
      (gone : left ≡ None) where
    abbrev without : HeldState D
    without = record { slots = slots; bays = set bays place left }

    in_place : get_or bays place None ≡ found
    in_place = ap (λ (i : ℕ). get_or bays i None) at ∙ sym (at_place bays number drive.least) ∙ there

    -- the drive that was there is put back
    same_again : set (set bays place left) (number - 1) found ≡ bays
    same_again =
        ap (λ (i : ℕ). set (set bays place left) i found) (sym at)
        ∙ set-set bays place left found
        ∙ ap (λ (b : Option (BayState D)). set bays place b) (sym in_place)
        ∙ set-get_or bays place None

    pub taken_some : IfSome found (λ bay. IsDriveAddress number × (with_bay number bay without ≡ held))
    taken_some = by found same_again
      where
        by : (b : Option (BayState D)) → set (set bays place left) (number - 1) b ≡ bays
            → IfSome b (λ bay. IsDriveAddress number × (with_bay number bay without ≡ held))
        by None again = tt
        by (Some bay) again =
            (drive, ap (λ (row : List (Option (BayState D))). record { slots = slots; bays = row }) again ∙ is)

    pub taken_none : IfNone found (without ≡ held)
    taken_none = by found in_place
      where
        by : (b : Option (BayState D)) → get_or bays place None ≡ b → IfNone b (without ≡ held)
        by (Some bay) there = tt
        by None there =
            ap (λ (row : List (Option (BayState D))). record { slots = slots; bays = row })
            (ap (λ (b : Option (BayState D)). set bays place b) (gone ∙ sym there) ∙ set-get_or bays place None)
            ∙ is

    pub taken_becomes : length bays ≡ 16 → Becomes number None held.bays (set bays place left)
    taken_becomes long =
        subst (λ (row : List (Option (BayState D))). Becomes number None row (set bays place left))
        (ap (λ (h : HeldState D). h.bays) is)
        (subst (λ (b : Option (BayState D)). Becomes number None bays (set bays place b)) (sym gone)
        (changed_at bays number place None drive.least drive.most long at))
