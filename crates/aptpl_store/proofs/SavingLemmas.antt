-- The invariant of an open store while a state is saved.
use Rattle.std.proofs.Common.{◌≡◌, inl, ℕ, ◌≤◌, ◌<◌, ◌+◌, List, [], ◌∷◌, ◌++◌, length, true, false, Option, None, Some, Ok, is_some, sym, ◌∙◌, ap, subst, arith, length-append}
use Rattle.std.proofs.lemmas.List.Elements.{All-push}
use Rattle.vtl_base.specs.Below.{Advances, advances_nowhere}
use Rattle.tape_disk.specs.Disk.{DiskState, Each, IsDisk, Keeps}
use Rattle.tape_disk.specs.Moments.{LeavesOnly, holds_now, weakened}
use Rattle.gate_journal.specs.Answers.{Appended, Broke, NoneFailed}
use Rattle.gate_journal.specs.Crash.{WithOrWithout}
use Rattle.gate_journal.specs.Side.{Front, Heading, StandsFor}
use Rattle.gate_journal.specs.State.{OpenSide, room_behind}
use Rattle.accepted_changes.specs.Device.{one_disk, one_is_device}
use Rattle.accepted_changes.specs.Events.{CoreMoves, core_moves_nowhere}
use Rattle.pr_core.specs.declared.states.PrState.{PrState}
use Rattle.pr_core.specs.States.{power_loss}
use Rattle.pr_core.specs.Keepers.{Broken, Stored, state_frame_size}
use Rattle.vtl_base.specs.declared.layout.TheConstants.{STATE_BYTES}
use Rattle.aptpl_store.specs.Answers.{SavesState}
use Rattle.aptpl_store.specs.Contents.{GivesStates, OpensAs, OpensAsEither, ShowsStates, latest}
use Rattle.aptpl_store.specs.Inner.Open.{IsOpen, StoresStates}
use Rattle.aptpl_store.specs.Kept.{core_of, core_with, store_below, store_kept, store_rules}
use Rattle.aptpl_store.specs.NotedStates.{NotedStates, with_state, with_torn_state}
use Rattle.aptpl_store.specs.Spelling.{IsSavable, spell_state}
use Rattle.aptpl_store.specs.State.{OpenStore}
use Rattle.aptpl_store.proofs.ContentsLemmas.{gives_more, with_body, latest_more, none_torn, opens_either, shows_more}
use Rattle.aptpl_store.proofs.SpellingLemmas.{spelling_frame, spelling_short}
use Rattle.aptpl_store.proofs.CoreLemmas.{moves_broken, moves_saved}

-- an open store over this side
abbrev pub store_on : {D : Type 0} → OpenSide D → NotedStates → OpenStore D
store_on side notes =
    record {
      disk = side.disk;
      heading = side.front.head.heading;
      states = notes.states;
      torn = notes.torn;
      failed = side.failed;
      room = room_behind side.end;
      reserved = side.reserved_extents;
    }

-- a state is a body
pub is_body : (state : PrState) (body : List ℕ) → IsSavable state → body ≡ spell_state state
    → (1 ≤ length body) × (length body ≤ 580)
is_body state body savable is =
    let size = ap (λ (l : List ℕ). length l) is in (
      omega (arith, size),
      omega (arith, size, spelling_short state savable.sound.all),
    )

-- with gate and length it is the frame of a state
pub frame_of : (state : PrState) (body : List ℕ) → IsSavable state → body ≡ spell_state state
    → length body + 5 ≡ state_frame_size state
frame_of state body savable is =
    omega (arith, ap (λ (l : List ℕ). length l) is, spelling_frame state savable.sound.all)

-- the body spells the state that was given
pub spells_given : {state given : PrState} {body : List ℕ} → body ≡ spell_state given → given ≡ state → IsSavable given
    → (body ≡ spell_state state) × IsSavable state
spells_given spelled same savable = (spelled ∙ ap spell_state same, subst IsSavable same savable)

module _ {D : Type 0} (state : D → DiskState) (is_disk : (d : D) → (state d).honest → IsDisk (state d)) where
  -- a store that is unchanged
  pub rests : (old new : OpenSide D) (notes : NotedStates) → new ≡ old
      → Advances (store_below state) (store_on old notes) [] false (store_on new notes)
  rests old new notes same =
      subst (λ (side : OpenSide D). Advances (store_below state) (store_on old notes) [] false (store_on side notes))
      (sym same)
      (advances_nowhere (store_below state)
      (λ (value : OpenStore D).
      core_moves_nowhere store_rules (one_disk state) (one_is_device state) value.disk (core_of value)
      (is_disk value.disk))
      (store_on old notes))

  module _ (old new : OpenSide D) (capacity capacity' : ℕ) (notes : NotedStates)
      (is : IsOpen old.front.head.heading old.extents old.failed capacity notes)
      (stores : (state old.disk).honest → StoresStates (state old.disk) old.front old.bodies notes)
      (room : STATE_BYTES ≤ capacity') (saved : PrState) (savable : IsSavable saved) (body : List ℕ)
      (body_is : body ≡ spell_state saved) (keeps : Keeps (state old.disk) (state new.disk))
      (front_is : new.front ≡ old.front) (fine : old.failed ≡ false) where
    heading_is : new.front.head.heading ≡ old.front.head.heading
    heading_is = ap (λ (f : Front). f.head.heading) front_is

    pub at_rest : notes.torn ≡ None
    at_rest = none_torn notes.torn (sym is.at_rest ∙ fine)

    pub frame_is : length body + 5 ≡ state_frame_size saved
    frame_is = frame_of saved body savable body_is

    -- each moment shows the states, or these with the new one
    module _ (leaves : (state old.disk).honest
        → LeavesOnly (state old.disk) (state new.disk) (WithOrWithout old.front old.bodies body)) where
      pub shown : (state old.disk).honest
          → LeavesOnly (state old.disk) (state new.disk) (ShowsStates old.front.head.heading notes.states (Some saved))
      shown h =
          weakened (state old.disk) (state new.disk) (WithOrWithout old.front old.bodies body)
          (ShowsStates old.front.head.heading notes.states (Some saved)) (leaves h)
          (λ image either.
          shows_more old.front.head.heading is.kind notes.states is.states saved savable old.bodies
          (stores h).bodies_are body body_is image
          (subst (λ (f : Front). WithOrWithout f old.bodies body image) (stores h).front_is either))

      pub opened : (state old.disk).honest
          → LeavesOnly (state old.disk) (state new.disk)
          (OpensAsEither old.front.head.heading (latest notes.states) saved)
      opened h =
          weakened (state old.disk) (state new.disk) (ShowsStates old.front.head.heading notes.states (Some saved))
          (OpensAsEither old.front.head.heading (latest notes.states) saved) (shown h)
          (opens_either old.front.head.heading notes.states (Some saved))

      -- the disk failed
      module _ (broke : Broke old new (length body))
          (bodies_are : (state old.disk).honest → new.bodies ≡ old.bodies)
          (notes' : NotedStates) (notes_are : notes' ≡ with_torn_state notes saved) where
        pub broken_open : IsOpen new.front.head.heading new.extents new.failed capacity' notes'
        broken_open = subst (IsOpen new.front.head.heading new.extents new.failed capacity') (sym notes_are) (record {
          kind = ap (λ (h : Heading). h.kind) heading_is ∙ is.kind;
          states = is.states;
          at_rest = broke.failed;
          counted = ap (λ (l : List (ℕ × ℕ)). length l) broke.extents ∙ is.counted;
          body = room;
        })

        pub broken_stores : (state new.disk).honest
            → StoresStates (state new.disk) new.front new.bodies notes'
        broken_stores h' =
            let h = keeps.was_honest h' in
            subst (λ (x : Front × NotedStates). StoresStates (state new.disk) x.0 new.bodies x.1)
            (λ i. (sym front_is i, sym notes_are i)) (record {
              front_is = (stores h).front_is;
              bodies_are = bodies_are h ∙ (stores h).bodies_are;
              shows =
                  holds_now (state old.disk) (state new.disk)
                  (ShowsStates old.front.head.heading notes.states (Some saved))
                  (is_disk new.disk h') (shown h);
            })

        pub broken_advances : (state old.disk).failures < (state new.disk).failures
            → Advances (store_below state) (store_on old notes) (saved ∷ []) true (store_on new notes')
        broken_advances cause = record {
          moved =
              subst (λ (x : (Heading × NotedStates) × Option PrState).
              CoreMoves store_rules (one_disk state) old.disk new.disk
              (core_with old.front.head.heading notes.states x.1)
              (core_with x.0.0 x.0.1.states x.0.1.torn) (saved ∷ []))
              (λ i. ((sym heading_is i, sym notes_are i), sym at_rest i))
              (moves_broken state is_disk old.disk new.disk keeps old.front.head.heading notes.states saved shown
              cause);
          counted = cause;
          honesty = (keeps.stays_honest, keeps.was_honest);
          hand = (λ h. h, λ h. h);
        }

        pub broken_kept : Broken (store_kept (store_on old notes)) saved (store_kept (store_on new notes'))
        broken_kept = record {
          saved = ap (λ (n : NotedStates). Some (latest n.states)) notes_are;
          torn = ap (λ (n : NotedStates). n.torn) notes_are;
          failed = broke.failed;
          fitted = λ full. omega (arith, full, frame_is, broke.fitted);
          room = ap (λ (n : ℕ). Some (room_behind n)) broke.end;
        }

      -- the state was saved
      module _ (appended : Appended old new (length body))
          (bodies_are : (state old.disk).honest → new.bodies ≡ old.bodies ++ body ∷ [])
          (sure : (state old.disk).honest → Each (state new.disk) (StandsFor new.front new.bodies))
          (notes' : NotedStates) (notes_are : notes' ≡ with_state notes saved) where
        pub saved_open : IsOpen new.front.head.heading new.extents new.failed capacity' notes'
        saved_open = subst (IsOpen new.front.head.heading new.extents new.failed capacity') (sym notes_are) (record {
          kind = ap (λ (h : Heading). h.kind) heading_is ∙ is.kind;
          states = All-push IsSavable notes.states saved is.states savable;
          at_rest = appended.is_fine ∙ sym (ap (λ (t : Option PrState). is_some t) at_rest);
          counted =
              omega (
                arith,
                ap (λ (l : List (ℕ × ℕ)). length l) appended.extents,
                length-append old.extents ((old.end + 5, length body) ∷ []),
                length-append notes.states (saved ∷ []),
                is.counted,
              );
          body = room;
        })

        pub given : (state old.disk).honest
            → Each (state new.disk) (GivesStates old.front.head.heading (notes.states ++ saved ∷ []))
        given h image left =
            gives_more old.front.head.heading is.kind notes.states is.states saved savable old.bodies
            (stores h).bodies_are body body_is image
            (subst (λ (x : Front × List (List ℕ)). StandsFor x.0 x.1 image)
            (λ i. ((front_is ∙ (stores h).front_is) i, bodies_are h i)) (sure h image left))

        pub saved_stores : (state new.disk).honest → StoresStates (state new.disk) new.front new.bodies notes'
        saved_stores h' =
            let h = keeps.was_honest h' in
            subst (λ (x : Front × NotedStates). StoresStates (state new.disk) x.0 new.bodies x.1)
            (λ i. (sym front_is i, sym notes_are i)) (record {
              front_is = (stores h).front_is;
              bodies_are =
                  bodies_are h
                  ∙ with_body old.front.head.heading is.kind notes.states is.states saved savable old.bodies
                  (stores h).bodies_are body body_is;
              shows = λ image left. inl (given h image left);
            })

        pub saved_advances : NoneFailed (state old.disk) (state new.disk)
            → Advances (store_below state) (store_on old notes) (saved ∷ []) false (store_on new notes')
        saved_advances none = record {
          moved =
              subst (λ (x : (Heading × NotedStates) × Option PrState).
              CoreMoves store_rules (one_disk state) old.disk new.disk
              (core_with old.front.head.heading notes.states x.1)
              (core_with x.0.0 x.0.1.states x.0.1.torn) (saved ∷ []))
              (λ i. (
                (
                  sym heading_is i,
                  (ap (λ (t : Option PrState). record {
                    states = notes.states ++ saved ∷ [];
                    torn = t;
                  }) (sym at_rest) ∙ sym notes_are) i,
                ),
                sym at_rest i,
              ))
              (moves_saved state is_disk old.disk new.disk keeps old.front.head.heading notes.states saved shown given);
          counted = none;
          honesty = (keeps.stays_honest, keeps.was_honest);
          hand = (λ h. h, λ h. h);
        }

        pub saved_kept : Stored (store_kept (store_on old notes)) saved (store_kept (store_on new notes'))
        saved_kept = record {
          saved =
              ap Some (ap (λ (n : NotedStates). latest n.states) notes_are ∙ latest_more notes.states saved);
          whole = ap (λ (n : NotedStates). n.torn) notes_are ∙ at_rest;
          works = appended.is_fine;
          room = omega (arith, appended.end, appended.fitted, frame_is);
        }

        pub saved_value : SavesState (store_on old notes) saved (Ok tt) (store_on new notes')
        saved_value = (
          λ i. record {
            disk = new.disk;
            heading = heading_is i;
            states = (notes_are i).states;
            torn = (notes_are i).torn;
            failed = (appended.is_fine ∙ sym fine) i;
            room = room_behind new.end;
            reserved = new.reserved_extents;
          },
          omega (arith, appended.end, appended.fitted, frame_is),
          appended.reserved_extents,
        )

        pub opens_saved : (state old.disk).honest
            → Each (state new.disk) (OpensAs new.front.head.heading (power_loss saved))
        opens_saved h image left = (
          notes.states ++ saved ∷ [],
          subst (λ (heading : Heading). GivesStates heading (notes.states ++ saved ∷ []) image) (sym heading_is)
              (given h image left),
          ap power_loss (sym (latest_more notes.states saved)),
        )
