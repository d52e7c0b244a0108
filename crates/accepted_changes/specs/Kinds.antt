-- The kinds of events: the core after each, and what a crash leaves in it.
use Rattle.std.specs.Prelude.{◌≡◌, ◌⊎◌, ℕ, ◌+◌, ◌≤◌, ◌<◌, List, [], ◌∷◌, ◌++◌, length, take, true, false, IsTrue, refl}
use Rattle.std.proofs.Common.{inl, inr, sym, ap, subst, arith, ⊎_elim}
use Rattle.std.proofs.lemmas.List.{take-append-le, take-take}
use Rattle.accepted_changes.specs.Device.{Device, IsDevice, KeepsDevice}
use Rattle.accepted_changes.specs.Core.{Rules, Core, Accept, Store, Safe, Fault, Stick, Tell, Stop, IsCore, IsWorking, broken_in, recovered, settled, stopped, stuck_in, told, with_item, with_stored}
use Rattle.accepted_changes.specs.Events.{CoreMoves, ShowsCore, ShowsBetween, keeps_nowhere}

module _ (rules : Rules) where
  -- an image gives what is stored, with `count` more items or without (own)
  abbrev pub GivesSoMany : Core rules.Base rules.Item → ℕ → rules.Image → Type 0
  GivesSoMany core count image =
      rules.gives core.base (take core.stored core.accepted) image
      ⊎ rules.gives core.base (take (core.stored + count) core.accepted) image

  -- an image gives the same of an equal list
  gives_as : (base : rules.Base) (xs ys : List rules.Item) (image : rules.Image)
      → ys ≡ xs → rules.gives base xs image → rules.gives base ys image
  gives_as base xs ys image same gives = subst (λ (l : List rules.Item). rules.gives base l image) (sym same) gives

module _ (rules : Rules) (device : Device rules.Image) (laws : IsDevice device) where
  -- one more item is accepted, with no call of the device
  pub moves_accepting : (disk : device.State) (old : Core rules.Base rules.Item) (item : rules.Item)
      → (device.honest disk → device.sound disk) → IsCore old → old.fault ≡ false → old.recovering ≡ false
      → IsTrue (rules.applies old.base old.accepted item)
      → CoreMoves rules device disk disk old (with_item item old) (item ∷ [])
  moves_accepting disk old item is_sound core works ready applies =
      record {
        keeps = keeps_nowhere rules device disk;
        goes = λ honest shows. (
          record {
            steps = Accept item ∷ [];
            leads = (with_item item old, (works, ready, applies, refl), refl);
            may_come = (tt, tt);
            accepts = refl;
            moments =
                laws.no_call disk (ShowsBetween rules old (Accept item ∷ [])) (is_sound honest)
                (laws.each_weakened disk (ShowsCore rules old) (ShowsBetween rules old (Accept item ∷ [])) shows
                (λ image s. (0, old, refl, s)));
          },
          laws.each_weakened disk (ShowsCore rules old) (ShowsCore rules (with_item item old)) shows more,
        );
      }
    where
      stays : (n : ℕ) → n ≤ length old.accepted → take n (old.accepted ++ item ∷ []) ≡ take n old.accepted
      stays n le = take-append-le n old.accepted (item ∷ []) le

      more : (image : rules.Image) → ShowsCore rules old image → ShowsCore rules (with_item item old) image
      more image shows =
          ⊎_elim
          (λ g. inl (gives_as rules old.base (take old.safe old.accepted) (take old.safe (old.accepted ++ item ∷ []))
          image (stays old.safe (omega (arith, core.safe, core.stored))) g))
          (λ g. inr (gives_as rules old.base (take old.stored old.accepted)
          (take old.stored (old.accepted ++ item ∷ [])) image (stays old.stored core.stored) g))
          shows

  -- calls that write nothing change nothing
  pub moves_resting : (disk disk' : device.State) (core : Core rules.Base rules.Item)
      → (device.honest disk' → device.sound disk')
      → KeepsDevice device disk disk'
      → (device.honest disk → device.each disk (ShowsCore rules core) → device.leaves disk disk' (ShowsCore rules core))
      → CoreMoves rules device disk disk' core core []
  moves_resting disk disk' core is_sound keeps quiet =
      record {
        keeps = keeps;
        goes = λ honest shows. (
          record {
            steps = [];
            leads = refl;
            may_come = tt;
            accepts = refl;
            moments =
                laws.weakened disk disk' (ShowsCore rules core) (ShowsBetween rules core []) (quiet honest shows)
                (λ image s. (0, core, refl, s));
          },
          laws.holds_now disk disk' (ShowsCore rules core) (is_sound (keeps.stays_honest honest))
              (quiet honest shows),
        );
      }

  -- the device fails in calls that write nothing
  pub moves_faulting : (disk disk' : device.State) (core : Core rules.Base rules.Item)
      → (device.honest disk' → device.sound disk')
      → KeepsDevice device disk disk'
      → device.failures disk < device.failures disk'
      → (device.honest disk → device.each disk (ShowsCore rules core) → device.leaves disk disk' (ShowsCore rules core))
      → CoreMoves rules device disk disk' core (record core { fault = true }) []
  moves_faulting disk disk' core is_sound keeps rose quiet =
      record {
        keeps = keeps;
        goes = λ honest shows. (
          record {
            steps = Fault ∷ [];
            leads = (record core { fault = true }, refl, refl);
            may_come = (rose, tt);
            accepts = refl;
            moments =
                laws.weakened disk disk' (ShowsCore rules core) (ShowsBetween rules core (Fault ∷ []))
                (quiet honest shows)
                (λ image s. (0, core, refl, s));
          },
          laws.holds_now disk disk' (ShowsCore rules core) (is_sound (keeps.stays_honest honest))
              (quiet honest shows),
        );
      }

  -- more items are stored, and made safe
  pub moves_storing : (disk disk' : device.State) (old : Core rules.Base rules.Item) (count : ℕ)
      → KeepsDevice device disk disk'
      → IsWorking old → old.safe ≡ old.stored → old.stored + count ≤ length old.accepted
      → (device.honest disk → device.leaves disk disk' (GivesSoMany rules old count))
      → (device.honest disk → device.each disk' (rules.gives old.base (take (old.stored + count) old.accepted)))
      → CoreMoves rules device disk disk' old (settled count old) []
  moves_storing disk disk' old count keeps works same fits leaves sure =
      record {
        keeps = keeps;
        goes = λ honest shows. (
          record {
            steps = Store count ∷ Safe ∷ [];
            leads = (with_stored count old, (works, same, fits, refl), (settled count old, (inl works, refl), refl));
            may_come = (tt, (tt, tt));
            accepts = refl;
            moments =
                laws.weakened disk disk' (GivesSoMany rules old count)
                (ShowsBetween rules old (Store count ∷ Safe ∷ []))
                (leaves honest)
                (λ image gives. ⊎_elim (λ g. (0, old, refl, inr g))
                (λ g. (1, with_stored count old, (with_stored count old, (works, same, fits, refl), refl), inr g))
                gives);
          },
          laws.each_weakened disk' (rules.gives old.base (take (old.stored + count) old.accepted))
              (ShowsCore rules (settled count old)) (sure honest) (λ image g. inl g),
        );
      }

  -- the device fails while more items are stored
  pub moves_failing : (disk disk' : device.State) (old : Core rules.Base rules.Item) (count : ℕ)
      → (device.honest disk' → device.sound disk')
      → KeepsDevice device disk disk' → device.failures disk < device.failures disk'
      → IsWorking old → old.safe ≡ old.stored → old.stored + count ≤ length old.accepted
      → (device.honest disk → device.leaves disk disk' (GivesSoMany rules old count))
      → CoreMoves rules device disk disk' old (broken_in count old) []
  moves_failing disk disk' old count is_sound keeps rose works same fits leaves =
      record {
        keeps = keeps;
        goes = λ honest shows. (
          record {
            steps = Store count ∷ Fault ∷ [];
            leads = (with_stored count old, (works, same, fits, refl), (broken_in count old, refl, refl));
            may_come = (tt, (rose, tt));
            accepts = refl;
            moments =
                laws.weakened disk disk' (GivesSoMany rules old count)
                (ShowsBetween rules old (Store count ∷ Fault ∷ []))
                (leaves honest)
                (λ image gives. ⊎_elim (λ g. (0, old, refl, inr g))
                (λ g. (1, with_stored count old, (with_stored count old, (works, same, fits, refl), refl), inr g))
                gives);
          },
          laws.each_weakened disk' (GivesSoMany rules old count) (ShowsCore rules (broken_in count old))
              (laws.holds_now disk disk' (GivesSoMany rules old count) (is_sound (keeps.stays_honest honest))
              (leaves honest))
              (λ image left. ⊎_elim
              (λ g. inl (gives_as rules old.base (take old.stored old.accepted) (take old.safe old.accepted) image
              (ap (λ n. take n old.accepted) same) g))
              inr left),
        );
      }

  -- the device fails while more items are stored, and that is not reported yet
  pub moves_sticking : (disk disk' : device.State) (old : Core rules.Base rules.Item) (count : ℕ)
      → (device.honest disk' → device.sound disk')
      → KeepsDevice device disk disk' → device.failures disk < device.failures disk'
      → IsWorking old → old.safe ≡ old.stored → old.stored + count ≤ length old.accepted
      → (device.honest disk → device.leaves disk disk' (GivesSoMany rules old count))
      → CoreMoves rules device disk disk' old (stuck_in count old) []
  moves_sticking disk disk' old count is_sound keeps rose works same fits leaves =
      record {
        keeps = keeps;
        goes = λ honest shows. (
          record {
            steps = Store count ∷ Stick ∷ [];
            leads = (with_stored count old, (works, same, fits, refl), (stuck_in count old, refl, refl));
            may_come = (tt, (rose, tt));
            accepts = refl;
            moments =
                laws.weakened disk disk' (GivesSoMany rules old count)
                (ShowsBetween rules old (Store count ∷ Stick ∷ []))
                (leaves honest)
                (λ image gives. ⊎_elim (λ g. (0, old, refl, inr g))
                (λ g. (1, with_stored count old, (with_stored count old, (works, same, fits, refl), refl), inr g))
                gives);
          },
          laws.each_weakened disk' (GivesSoMany rules old count) (ShowsCore rules (stuck_in count old))
              (laws.holds_now disk disk' (GivesSoMany rules old count) (is_sound (keeps.stays_honest honest))
              (leaves honest))
              (λ image left. ⊎_elim
              (λ g. inl (gives_as rules old.base (take old.stored old.accepted) (take old.safe old.accepted) image
              (ap (λ n. take n old.accepted) same) g))
              inr left),
        );
      }

  -- a fault is reported where it was not, with no call of the device
  pub moves_telling : (disk : device.State) (core : Core rules.Base rules.Item)
      → (device.honest disk → device.sound disk) → CoreMoves rules device disk disk core (told core) []
  moves_telling disk core is_sound =
      record {
        keeps = keeps_nowhere rules device disk;
        goes = λ honest shows. (
          record {
            steps = Tell ∷ [];
            leads = (told core, refl, refl);
            may_come = (tt, tt);
            accepts = refl;
            moments =
                laws.no_call disk (ShowsBetween rules core (Tell ∷ [])) (is_sound honest)
                (laws.each_weakened disk (ShowsCore rules core) (ShowsBetween rules core (Tell ∷ [])) shows
                (λ image s. (0, core, refl, s)));
          },
          shows,
        );
      }

  -- A stop with no call of the device, which all that is stored survives: after a fault, or while what an earlier stop
  -- left is not safe yet, or where all that was accepted is safe.
  pub moves_stopping : (disk : device.State) (old : Core rules.Base rules.Item)
      → (device.honest disk → device.sound disk) → IsCore old
      → (old.fault ≡ true) ⊎ (old.recovering ≡ true) ⊎ (old.safe ≡ length old.accepted)
      → CoreMoves rules device disk disk old (stopped old.stored old) []
  moves_stopping disk old is_sound core may =
      record {
        keeps = keeps_nowhere rules device disk;
        goes = λ honest shows. (
          record {
            steps = Stop old.stored ∷ [];
            leads = (stopped old.stored old, (inr refl, refl), refl);
            may_come = (may, tt);
            accepts = refl;
            moments =
                laws.no_call disk (ShowsBetween rules old (Stop old.stored ∷ [])) (is_sound honest)
                (laws.each_weakened disk (ShowsCore rules old) (ShowsBetween rules old (Stop old.stored ∷ [])) shows
                (λ image s. (0, old, refl, s)));
          },
          laws.each_weakened disk (ShowsCore rules old) (ShowsCore rules (stopped old.stored old)) shows less,
        );
      }
    where
      stays : (n : ℕ) → n ≤ old.stored → take n (take old.stored old.accepted) ≡ take n old.accepted
      stays n le = take-take n old.stored old.accepted le

      less : (image : rules.Image) → ShowsCore rules old image → ShowsCore rules (stopped old.stored old) image
      less image shows =
          ⊎_elim
          (λ g. inl (gives_as rules old.base (take old.safe old.accepted) (take old.safe (take old.stored old.accepted))
          image (stays old.safe core.safe) g))
          (λ g. inr (gives_as rules old.base (take old.stored old.accepted)
          (take old.stored (take old.stored old.accepted))
          image (stays old.stored (omega arith)) g))
          shows

  -- Calls that write nothing find what a stop left, and make it safe. The images decide how much that is.
  pub moves_recovering : (disk disk' : device.State) (old new : Core rules.Base rules.Item)
      → KeepsDevice device disk disk' → old.recovering ≡ true
      → (device.honest disk → device.each disk (ShowsCore rules old) → device.leaves disk disk' (ShowsCore rules old))
      → (device.honest disk → device.each disk (ShowsCore rules old) → (kept : ℕ)
      × ((kept ≡ old.safe) ⊎ (kept ≡ old.stored)) × (new ≡ recovered kept old)
      × device.each disk' (rules.gives old.base (take kept old.accepted)))
      → CoreMoves rules device disk disk' old new []
  moves_recovering disk disk' old new keeps stop quiet finds =
      record {
        keeps = keeps;
        goes = λ honest shows. let found = finds honest shows in (
          record {
            steps = Stop found.0 ∷ Safe ∷ [];
            leads = (
              stopped found.0 old,
              (found.1, refl),
              (new, (inr refl, found.2), refl),
            );
            may_come = (inr (inl stop), (tt, tt));
            accepts = refl;
            moments =
                laws.weakened disk disk' (ShowsCore rules old) (ShowsBetween rules old (Stop found.0 ∷ Safe ∷ []))
                (quiet honest shows) (λ image s. (0, old, refl, s));
          },
          laws.each_weakened disk' (rules.gives old.base (take found.0 old.accepted)) (ShowsCore rules new) found.3
              (λ image g. subst (λ (core : Core rules.Base rules.Item). ShowsCore rules core image) (sym found.2)
              (inl (gives_as rules old.base (take found.0 old.accepted) (take found.0 (take found.0 old.accepted)) image
              (take-take found.0 found.0 old.accepted (omega arith)) g))),
        );
      }
