-- A state that meets the rules leads to another that meets them.
use Rattle.std.proofs.Common.{◌≡◌, ◌==◌, ◌&&◌, not, ℕ, Bool, true, false, List, Option, None, Some, is_some, refl, sym, ◌∙◌, ap, subst, if◌then◌else◌}
use Rattle.std.proofs.lemmas.Bool.{and_left, and_parts, and_right, eq-eqb, not-false, not-true}
use Rattle.scsi_attention.specs.AttentionSets.{AttentionSet}
use Rattle.scsi_lists.specs.declared.actions.PrType.{PrType}
use Rattle.scsi_lists.specs.declared.pr_lists.PrOut.{PrOut}
use Rattle.scsi_lists.specs.declared.pr_lists.PrOut.TheVariants.{Register, Reserve, Release, Clear, Preempt, RegisterAndIgnoreExistingKey}
use Rattle.pr_core.specs.declared.states.Reservation.{Reservation}
use Rattle.pr_core.specs.declared.states.PrState.{PrState}
use Rattle.pr_core.specs.declared.states.PrAnswer.{PrAnswer}
use Rattle.pr_core.specs.declared.states.PrAnswer.TheVariants.{Good, Conflict, BadKey, BadRelease}
use Rattle.pr_core.specs.Sets.{IsNexus, Nexuses, but, is_named_in, is_some_in}
use Rattle.pr_core.specs.States.{empty_state, has_key, is_for_all, is_number, is_registered, key_of, others, power_loss, holds_this}
use Rattle.pr_core.specs.Sound.{IsSound, is_held_rightly}
use Rattle.pr_core.specs.Effects.{Effect, of_registrant, stays, with_key, keys_without}
use Rattle.pr_core.specs.Register.{ends_without, left_without, register, register_and_ignore, registers, shows_key, unregisters, zero_key}
use Rattle.pr_core.specs.Reserve.{clear, is_same_type, release, release_held, release_under, reserve, reserve_under}
use Rattle.pr_core.specs.Preempt.{is_key_of_holder, preempt, preempt_holder, preempt_known, preempt_registrants, preempt_zero, preempted_by, takes_over_as}
use Rattle.pr_core.specs.Orders.{Orders, effect_of}
use Rattle.pr_core.proofs.SetLemmas.{none_in, replicate_shows, who_in}
use Rattle.pr_core.proofs.HeldLemmas.{HeldAs, Held, Kept, registered_is_nexus, from_sound, sound_of, choose, number_is_some, left_no_zero, left_some, more_no_zero, more_some, held_more}

registers_keeps :
    (state : PrState) (nexus key : ℕ) (aptpl : Bool) → IsSound state → (key == 0) ≡ false
    → Kept (registers state nexus key aptpl)
registers_keeps state nexus key aptpl sound not_zero =
    let old = from_sound state sound in
    record {
      no_zero = λ other is.
          more_no_zero (other == nexus) key (key_of state other) not_zero (old.no_zero other is);
      held =
          held_more (key_of state) (with_key state nexus key) state.reservation
          (λ other is. more_some (other == nexus) key (key_of state other) is) old.held;
    }

-- the reservation after a nexus unregisters
unregistered_as :
    (all : Bool) (state : PrState) (nexus : ℕ) (holder : Option ℕ) → HeldAs all (key_of state) holder
    → (if all then not (is_some_in (others state nexus)) else is_number holder nexus) ≡ false
    → HeldAs all (keys_without state (λ other. other == nexus)) holder
unregistered_as true state nexus holder held stays =
    let who = who_in (others state nexus) (not-false (is_some_in (others state nexus)) stays) in
    let parts = and_parts (is_registered state who.0) (not (who.0 == nexus)) who.2 in
    let apart = not-true (who.0 == nexus) parts.1 in
    (held.0, (who.0, who.1, left_some (who.0 == nexus) (key_of state who.0) apart parts.0))
unregistered_as false state nexus holder held stays =
    let apart : (held.0 == nexus) ≡ false = sym (ap (λ (named : Option ℕ). is_number named nexus) held.2) ∙ stays in
    (held.0, held.1, held.2, left_some (held.0 == nexus) (key_of state held.0) apart held.3)

held_unless :
    (ends : Bool) (keys : ℕ → Option ℕ) (made : Reservation) → (ends ≡ false → Held keys (Some made))
    → Held keys (if ends then None else Some made)
held_unless true keys made held = tt
held_unless false keys made held = held refl

left_held :
    (state : PrState) (nexus : ℕ) (reservation : Option Reservation) → Held (key_of state) reservation
    → Held (keys_without state (λ other. other == nexus)) (left_without reservation state nexus)
left_held state nexus None held = tt
left_held state nexus (Some made) held =
    held_unless (ends_without made state nexus) (keys_without state (λ other. other == nexus)) made
    (λ stays. unregistered_as (is_for_all made.kind) state nexus made.holder held stays)

unregisters_keeps :
    (state : PrState) (nexus : ℕ) (aptpl : Bool) → IsSound state → Kept (unregisters state nexus aptpl)
unregisters_keeps state nexus aptpl sound =
    let old = from_sound state sound in
    record {
      no_zero = λ other is. left_no_zero (other == nexus) (key_of state other) (old.no_zero other is);
      held = left_held state nexus state.reservation old.held;
    }

zero_key_keeps :
    (own : Option ℕ) (state : PrState) (nexus : ℕ) (aptpl : Bool) → IsSound state
    → Kept (zero_key own state nexus aptpl)
zero_key_keeps None state nexus aptpl sound = from_sound state sound
zero_key_keeps (Some own) state nexus aptpl sound = unregisters_keeps state nexus aptpl sound

ignore_keeps :
    (state : PrState) (nexus key : ℕ) (aptpl : Bool) → IsSound state → Kept (register_and_ignore state nexus key aptpl)
ignore_keeps state nexus key aptpl sound =
    choose (key == 0) (zero_key (key_of state nexus) state nexus aptpl) (registers state nexus key aptpl)
    (λ zero_is. zero_key_keeps (key_of state nexus) state nexus aptpl sound)
    (λ not_zero. registers_keeps state nexus key aptpl sound not_zero)

register_keeps :
    (state : PrState) (nexus key new_key : ℕ) (aptpl : Bool) → IsSound state
    → Kept (register state nexus key new_key aptpl)
register_keeps state nexus key new_key aptpl sound =
    choose (shows_key (key_of state nexus) key) (register_and_ignore state nexus new_key aptpl) (stays Conflict state)
    (λ shown. ignore_keeps state nexus new_key aptpl sound) (λ other. from_sound state sound)

-- an order of a registered nexus
registrant_keeps :
    (state : PrState) (nexus key : ℕ) (effect : Effect) → IsSound state
    → (IsNexus nexus → is_registered state nexus ≡ true → Kept effect) → Kept (of_registrant state nexus key effect)
registrant_keeps state nexus key effect sound keeps =
    choose (has_key state key nexus) effect (stays Conflict state)
    (λ has.
    let registered = number_is_some (key_of state nexus) key has in
    keeps (registered_is_nexus state nexus sound.all registered) registered)
    (λ other. from_sound state sound)

-- a reservation that a registered nexus makes
made_as :
    (all : Bool) (keys : ℕ → Option ℕ) (nexus : ℕ) → IsNexus nexus → is_some (keys nexus) ≡ true
    → HeldAs all keys (if all then None else Some nexus)
made_as true keys nexus is registered = (refl, (nexus, is, registered))
made_as false keys nexus is registered = (nexus, is, refl, registered)

reserve_keeps :
    (reservation : Option Reservation) (state : PrState) (nexus : ℕ) (kind : PrType) → IsSound state → IsNexus nexus
    → is_registered state nexus ≡ true → Kept (reserve_under reservation state nexus kind)
reserve_keeps None state nexus kind sound is registered = record {
  no_zero = (from_sound state sound).no_zero;
  held = made_as (is_for_all kind) (key_of state) nexus is registered;
}
reserve_keeps (Some held) state nexus kind sound is registered =
    choose (holds_this held state nexus && is_same_type held.kind kind) (stays Good state) (stays Conflict state)
    (λ same. from_sound state sound) (λ other. from_sound state sound)

release_held_keeps :
    (held : Reservation) (state : PrState) (nexus : ℕ) (kind : PrType) → IsSound state
    → Kept (release_held held state nexus kind)
release_held_keeps held state nexus kind sound =
    choose (is_same_type held.kind kind) _ (stays BadRelease state)
    (λ same. record { no_zero = (from_sound state sound).no_zero; held = tt }) (λ other. from_sound state sound)

release_keeps :
    (reservation : Option Reservation) (state : PrState) (nexus : ℕ) (kind : PrType) → IsSound state
    → Kept (release_under reservation state nexus kind)
release_keeps None state nexus kind sound = from_sound state sound
release_keeps (Some held) state nexus kind sound =
    choose (holds_this held state nexus) (release_held held state nexus kind) (stays Good state)
    (λ holds. release_held_keeps held state nexus kind sound) (λ other. from_sound state sound)

-- a set without a nexus does not have it
but_itself : (set : Nexuses) (nexus : ℕ) → but set nexus nexus ≡ false
but_itself set nexus = and_right (set nexus) (not (nexus == nexus)) (ap not (eq-eqb nexus nexus refl))

takes_over_keeps :
    (kind : Option PrType) (state : PrState) (nexus : ℕ) (removed : Nexuses) (was : PrType) → IsSound state
    → IsNexus nexus → is_registered state nexus ≡ true → removed nexus ≡ false
    → Kept (takes_over_as kind state nexus removed was)
takes_over_keeps None state nexus removed was sound is registered stays = from_sound state sound
takes_over_keeps (Some kind) state nexus removed was sound is registered stays = record {
  no_zero = λ other is. left_no_zero (removed other) (key_of state other) ((from_sound state sound).no_zero other is);
  held =
      made_as (is_for_all kind) (keys_without state removed) nexus is
      (left_some (removed nexus) (key_of state nexus) stays registered);
}

preempt_zero_keeps :
    (reservation : Option Reservation) (state : PrState) (nexus : ℕ) (kind : Option PrType) → IsSound state
    → IsNexus nexus → is_registered state nexus ≡ true → Kept (preempt_zero reservation state nexus kind)
preempt_zero_keeps None state nexus kind sound is registered = from_sound state sound
preempt_zero_keeps (Some held) state nexus kind sound is registered =
    choose (is_for_all held.kind) (takes_over_as kind state nexus (others state nexus) held.kind) (stays BadKey state)
    (λ all.
    takes_over_keeps kind state nexus (others state nexus) held.kind sound is registered
    (but_itself (is_registered state) nexus))
    (λ one. from_sound state sound)

-- the reservation that stays when registrations with a key are removed
preempted_as :
    (all : Bool) (state : PrState) (nexus key : ℕ) (holder : Option ℕ) → IsNexus nexus
    → is_registered state nexus ≡ true → HeldAs all (key_of state) holder
    → (not all && is_named_in holder (has_key state key)) ≡ false
    → HeldAs all (keys_without state (preempted_by state nexus key)) holder
preempted_as true state nexus key holder is registered held other = (
  held.0,
  (
    nexus,
    is,
    left_some (preempted_by state nexus key nexus) (key_of state nexus) (but_itself (has_key state key) nexus)
        registered,
  ),
)
preempted_as false state nexus key holder is registered held other =
    let lacks : has_key state key held.0 ≡ false =
    sym (ap (λ (named : Option ℕ). is_named_in named (has_key state key)) held.2) ∙ other in (
      held.0,
      held.1,
      held.2,
      left_some (preempted_by state nexus key held.0) (key_of state held.0)
          (and_left (has_key state key held.0) (not (held.0 == nexus)) lacks) held.3,
    )

registrants_keep :
    (state : PrState) (nexus key : ℕ) → IsSound state
    → Held (keys_without state (preempted_by state nexus key)) state.reservation → Kept (preempt_registrants state
    nexus key)
registrants_keep state nexus key sound held = record {
  no_zero = λ other is.
      left_no_zero (preempted_by state nexus key other) (key_of state other)
      ((from_sound state sound).no_zero other is);
  held = held;
}

preempt_known_keeps :
    (reservation : Option Reservation) (state : PrState) (nexus key : ℕ) (kind : Option PrType) → IsSound state
    → IsNexus nexus → is_registered state nexus ≡ true → state.reservation ≡ reservation
    → Held (key_of state) reservation → Kept (preempt_known reservation state nexus key kind)
preempt_known_keeps None state nexus key kind sound is registered same held =
    registrants_keep state nexus key sound
    (subst (λ (made : Option Reservation). Held (keys_without state (preempted_by state nexus key)) made) (sym same) tt)
preempt_known_keeps (Some made) state nexus key kind sound is registered same held =
    choose (is_key_of_holder made state key) (preempt_holder made state nexus key kind)
    (preempt_registrants state nexus key)
    (λ of_holder.
    takes_over_keeps kind state nexus (preempted_by state nexus key) made.kind sound is registered
    (but_itself (has_key state key) nexus))
    (λ other.
    registrants_keep state nexus key sound
    (subst (λ (made : Option Reservation). Held (keys_without state (preempted_by state nexus key)) made) (sym same)
    (preempted_as (is_for_all made.kind) state nexus key made.holder is registered held other)))

preempt_keeps :
    (state : PrState) (nexus key : ℕ) (kind : Option PrType) → IsSound state → IsNexus nexus
    → is_registered state nexus ≡ true → Kept (preempt state nexus key kind)
preempt_keeps state nexus key kind sound is registered =
    choose (key == 0) (preempt_zero state.reservation state nexus kind) _
    (λ zero_is. preempt_zero_keeps state.reservation state nexus kind sound is registered)
    (λ not_zero.
    choose (is_some_in (has_key state key)) (preempt_known state.reservation state nexus key kind)
    (stays Conflict state)
    (λ known.
    preempt_known_keeps state.reservation state nexus key kind sound is registered refl
    (from_sound state sound).held)
    (λ unknown. from_sound state sound))

keeps : (state : PrState) (nexus : ℕ) (order : PrOut) → IsSound state → Kept (effect_of state nexus order)
keeps state nexus (Register key new_key aptpl) sound = register_keeps state nexus key new_key aptpl sound
keeps state nexus (Reserve key kind) sound =
    registrant_keeps state nexus key (reserve state nexus kind) sound
    (reserve_keeps state.reservation state nexus kind sound)
keeps state nexus (Release key kind) sound =
    registrant_keeps state nexus key (release state nexus kind) sound
    (λ is registered. release_keeps state.reservation state nexus kind sound)
keeps state nexus (Clear key) sound =
    registrant_keeps state nexus key (clear state nexus) sound
    (λ is registered. record { no_zero = λ other is. refl; held = tt })
keeps state nexus (Preempt key preempted kind) sound =
    registrant_keeps state nexus key (preempt state nexus preempted kind) sound
    (preempt_keeps state nexus preempted kind sound)
keeps state nexus (RegisterAndIgnoreExistingKey new_key aptpl) sound = ignore_keeps state nexus new_key aptpl sound

pub orders_keep :
    (old : PrState) (nexus : ℕ) (order : PrOut) (answer : PrAnswer) (established : List AttentionSet) (new : PrState)
    → IsSound old → Orders old nexus order answer established new → IsSound new
orders_keep old nexus order answer established new sound orders =
    sound_of (effect_of old nexus order) answer established new (keeps old nexus order sound) orders

pub empty_is_sound : IsSound empty_state
empty_is_sound =
    let nobody = replicate_shows {A = Option ℕ} None in
    record {
      all = nobody.all;
      keys =
          none_in (has_key empty_state 0)
          (λ nexus is. ap (λ (key : Option ℕ). is_number key 0) (nobody.each nexus is));
      held = refl;
    }

held_lost :
    (state : PrState) (reservation : Option Reservation) → is_held_rightly reservation state ≡ true
    → is_held_rightly reservation (record state { generation = 0 }) ≡ true
held_lost state None right = refl
held_lost state (Some held) right = right

lost_is_sound :
    (aptpl : Bool) (state : PrState) → IsSound state
    → IsSound (if aptpl then record state { generation = 0 } else empty_state)
lost_is_sound true state sound = record {
  all = sound.all;
  keys = sound.keys;
  held = held_lost state state.reservation sound.held;
}
lost_is_sound false state sound = empty_is_sound

pub loss_keeps : (state : PrState) → IsSound state → IsSound (power_loss state)
loss_keeps state sound = lost_is_sound state.aptpl state sound
