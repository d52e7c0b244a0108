-- A cartridge that is parked, opened or refused is the same one, and gives the same volume.
use Rattle.std.proofs.Common.{◌≡◌, ◌⊎◌, inl, inr, ℕ, Bool, true, false, List, [], Option, None, Some, Ok, Err, refl, sym, ap, ◌∙◌, cond, subst, arith}
use Rattle.vtl_base.specs.Below.{Counts}
use Rattle.tape_disk.specs.Disk.{DiskState}
use Rattle.volume_core.specs.declared.changes.Change.{Change}
use Rattle.volume_core.specs.declared.media.MediumError.{MediumError}
use Rattle.volume_core.specs.declared.media.MediumError.TheVariants as Errors
use Rattle.volume_core.specs.Volume.{Part, after}
use Rattle.volume_core.specs.Medium.{IsParkedFrom, MediumState, StaysParked, WakesFrom, met_fault, volume_of, volume_or_empty}
use Rattle.drive_commands.specs.Media.{ParksFrom, WakesAs}
use Rattle.tape_buffer.specs.Moves.{buffer_below, medium_moves_on}
use Rattle.tape_buffer.specs.State.{BufferState, state_of}
use Rattle.bay_moves.specs.Moves.{IsSameCartridge, StaysCartridge, volume_given}

-- what the side gave that was opened, where no frame was in flight
opened_gives : (stored found : Option (List Part)) (torn : List Change) → (stored ≡ None → ⊥)
    → (found ≡ stored) ⊎ (found ≡ Some (after (volume_or_empty stored) torn)) → torn ≡ []
    → Some (volume_or_empty found) ≡ stored
opened_gives None found torn readable given none = absurd (readable refl)
opened_gives (Some volume) found torn readable (inl same) none =
    ap (λ (f : Option (List Part)). Some (volume_or_empty f)) same
opened_gives (Some volume) found torn readable (inr more) none =
    ap (λ (f : Option (List Part)). Some (volume_or_empty f)) more
    ∙ ap (λ (cs : List Change). Some (after volume cs)) none

given_by : (b : Bool) (medium : MediumState) → medium.awake ≡ b
    → volume_given medium ≡ cond b (Some (volume_of medium)) medium.stored
given_by b medium is = ap (λ (awake : Bool). cond awake (Some (volume_of medium)) medium.stored) is

module _ {D : Type 0} (state : D → DiskState) where
  -- a parked medium was opened
  parked_read : (honest : Type 0) (failed : Bool) (old new : MediumState) → IsParkedFrom honest failed old new
      → new.unread ≡ false
  parked_read honest false old new h = h.unread_is
  parked_read honest true old new h = h.unread_is

  -- no frame is in flight, if it is parked
  abbrev pub IsSure : MediumState → Type 0
  IsSure medium = medium.awake ≡ false → medium.torn ≡ []

  -- a cartridge and a later one: nothing was accepted, no device failed, honesty stayed, and where it is sure what the
  -- first gives, the second gives the same, and that is sure
  pub record Keeps (old new : BufferState D) : Type 0 where
    pub moves : (buffer_below state).moves old [] new
    pub honest : (buffer_below state).honest old → (buffer_below state).honest new
    pub read : (state_of state old).unread ≡ false → (state_of state new).unread ≡ false
    pub count : (buffer_below state).failures new ≡ (buffer_below state).failures old
    pub gives :
        (buffer_below state).honest old → (state_of state old).failed ≡ false → IsSure (state_of state old)
        → ((state_of state new).failed ≡ false) × IsSure (state_of state new)
        × (volume_given (state_of state new) ≡ volume_given (state_of state old))

  pub then_same : (a b c : BufferState D) → Keeps a b → IsSameCartridge state b c → IsSameCartridge state a c
  then_same a b c one two =
      record {
        moves = medium_moves_on state a b c [] [] one.moves two.moves;
        gives = λ honest works sure.
            let mid = one.gives honest works sure in
            two.gives (one.honest honest) mid.0 mid.1 ∙ mid.2;
      }

  -- the same, where it may have failed in its first opening
  pub then_stays : (a b c : BufferState D) → Keeps a b → StaysCartridge state b c → StaysCartridge state a c
  then_stays a b c one two =
      record {
        moves = medium_moves_on state a b c [] [] one.moves two.moves;
        gives = λ honest works sure either.
            let mid = one.gives honest works sure in
            two.gives (one.honest honest) mid.0 mid.1 (mid_either either) ∙ mid.2;
      }
    where
      mid_either : ((state_of state a).unread ≡ false)
          ⊎ ((buffer_below state).failures c ≡ (buffer_below state).failures a)
          → ((state_of state b).unread ≡ false) ⊎ ((buffer_below state).failures c ≡ (buffer_below state).failures b)
      mid_either (inl read) = inl (one.read read)
      mid_either (inr calm) = inr (calm ∙ sym one.count)

  -- equal cartridges stay
  pub same_stays : (a b : BufferState D) → IsSameCartridge state a b → StaysCartridge state a b
  same_stays a b same =
      record { moves = same.moves; gives = λ honest works sure either. same.gives honest works sure }

  -- a cartridge that is parked
  pub parks_from : (given out : BufferState D) → (state_of state given).awake ≡ true
      → ParksFrom (state_of state) (buffer_below state) given (Ok out) → Keeps given out
  parks_from given out awake parks =
      record {
        moves = parks.1.moved;
        honest = parks.1.honesty.0;
        read = λ read.
            parked_read ((buffer_below state).honest given) (state_of state given).failed (state_of state given)
            (state_of state out) parks.0;
        count = parks.1.counted;
        gives = λ honest works sure.
            let parked =
            subst (λ (b : Bool). IsParkedFrom ((buffer_below state).honest given) b (state_of state given)
            (state_of state out)) works parks.0 in (
              parked.works,
              (λ off. (parked.gives honest).1),
              given_by false (state_of state out) parked.parked ∙ (parked.gives honest).0
                  ∙ sym (given_by true (state_of state given) awake),
            );
      }

  -- a cartridge whose device failed while it was parked
  pub breaks_from : (given broken : BufferState D) → (state_of state given).awake ≡ true
      → ParksFrom (state_of state) (buffer_below state) given (Err broken) → IsSameCartridge state given broken
  breaks_from given broken awake parks =
      record {
        moves = parks.2.moved;
        gives = λ honest works sure.
            given_by true (state_of state broken) parks.0.2.awake
            ∙ ap (λ (volume : List Part). Some volume) parks.0.2.volume_is
            ∙ sym (given_by true (state_of state given) awake);
      }

  -- a cartridge that is opened, or not
  woken : (honest : Type 0) (b : Bool) (old new : MediumState) → old.awake ≡ b → WakesFrom honest b old (Ok tt) new
      → honest → IsSure old → volume_given new ≡ volume_given old
  woken honest true old new is wakes known sure = ap (λ (m : MediumState). volume_given m) wakes.1
  woken honest false old new is wakes known sure =
      let opens = wakes.1 known in
      given_by true new wakes.0.awake
      ∙ ap (λ (cs : List Change). Some (after (volume_or_empty new.stored) cs)) wakes.0.nothing_pending
      ∙ opened_gives old.stored new.stored old.torn opens.readable opens.volume (sure is)
      ∙ sym (given_by false old is)

  stays_parked : (honest : Type 0) (old new : MediumState) → old.awake ≡ false
      → StaysParked honest old new → honest → volume_given new ≡ volume_given old
  stays_parked honest old new is parked known =
      given_by false new parked.parked ∙ (parked.gives known).0 ∙ sym (given_by false old is)

  refused : (honest : Type 0) (b : Bool) (error : MediumError) (old new : MediumState) (before now : ℕ)
      → old.awake ≡ b → WakesFrom honest b old (Err error) new → Counts (met_fault (Err error)) before now → honest
      → (old.unread ≡ false) ⊎ (now ≡ before) → volume_given new ≡ volume_given old
  refused honest true Errors.Failed old new before now is wakes counted known either =
      ap (λ (m : MediumState). volume_given m) wakes.1
  refused honest true Errors.NoMemory old new before now is wakes counted known either = absurd wakes
  refused honest true Errors.Device old new before now is wakes counted known either = absurd wakes
  refused honest true Errors.Unreadable old new before now is wakes counted known either = absurd wakes
  refused honest true Errors.SideFull old new before now is wakes counted known either = absurd wakes
  refused honest true (Errors.Refused cause) old new before now is wakes counted known either = absurd wakes
  refused honest false Errors.NoMemory old new before now is wakes counted known either =
      stays_parked honest old new is wakes known
  refused honest false Errors.Device old new before now is wakes counted known (inl read) =
      stays_parked (honest × (old.unread ≡ false)) old new is wakes.stays (known, read)
  refused honest false Errors.Device old new before now is wakes counted known (inr calm) =
      absurd (omega (arith, counted, calm))
  refused honest false Errors.Unreadable old new before now is wakes counted known either =
      stays_parked honest old new is wakes.0 known
  refused honest false Errors.Failed old new before now is wakes counted known either = absurd wakes
  refused honest false Errors.SideFull old new before now is wakes counted known either = absurd wakes
  refused honest false (Errors.Refused cause) old new before now is wakes counted known either = absurd wakes

  pub opens_as : (given opened : BufferState D) → WakesAs (state_of state) (buffer_below state) given (Ok tt) opened
      → IsSameCartridge state given opened
  opens_as given opened wakes = record {
    moves = wakes.advances.moved;
    gives = λ honest works sure.
        woken ((buffer_below state).honest given) (state_of state given).awake (state_of state given)
        (state_of state opened) refl wakes.answer honest sure;
  }

  pub comes_back : (given back : BufferState D) (error : MediumError)
      → WakesAs (state_of state) (buffer_below state) given (Err error) back → StaysCartridge state given back
  comes_back given back error wakes = record {
    moves = wakes.advances.moved;
    gives = λ honest works sure either.
        refused ((buffer_below state).honest given) (state_of state given).awake error (state_of state given)
        (state_of state back) ((buffer_below state).failures given) ((buffer_below state).failures back) refl
        wakes.answer wakes.advances.counted honest either;
  }
