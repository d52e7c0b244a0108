-- Where no fault comes, LOAD UNLOAD has one answer for a medium of which it is sure what its side gives.
use Rattle.std.proofs.Common.{◌≡◌, ℕ, List, [], Option, None, Some, Result, Ok, Err, Bool, true, false, sym, ◌∙◌, ap, subst, refl}
use Rattle.std.specs.Prelude.{IfSome, ◌&&◌, not}
use Rattle.scsi_sense.specs.declared.replies.Reply.{Reply}
use Rattle.scsi_sense.specs.Replies.{good_with}
use Rattle.volume_core.specs.declared.changes.Change.{Change}
use Rattle.volume_core.specs.declared.media.MediumError.{MediumError}
use Rattle.volume_core.specs.Volume.{Part, after}
use Rattle.volume_core.specs.Medium.{MediumState, IsParked, IsParkedFrom, Parks, volume_of, volume_or_empty}
use Rattle.drive_commands.specs.declared.bays.Bay.{Bay}
use Rattle.drive_commands.specs.declared.bays.Bay.TheVariants.{Empty, Unloaded, Loaded}
use Rattle.drive_commands.specs.State.{Machine, bay_of, medium_in}
use Rattle.drive_commands.specs.Relations.{Made}
use Rattle.drive_commands.specs.declared.faults.Fault.{Fault}
use Rattle.volume_core.specs.declared.media.MediumError.TheVariants as Errors
use Rattle.drive_commands.specs.LoadUnload.{LoadsIn, ParksAs, ReloadsAs, UnloadsInto, reloaded, unloaded}
use Rattle.drive_commands.specs.Step.{Answered}
use Rattle.drive_commands.specs.Determined.{IsSure, IsSureDrive, IsSureSight, OpensSurely, SideSight, Sight, is_sound, sight_of, side_sight, seen_of, torn_seen, AreAlike}
use Rattle.drive_theorems.proofs.DeterminedLoads.{IsQuiet, wakes_alike}

-- a parked medium, as it is seen
abbrev parked_sight : Option (List Part) → List Change → Sight
parked_sight stored torn = record {
  awake = false;
  volume = after (volume_or_empty stored) [];
  failed = false;
  side = Some (record { stored = stored; torn = torn });
}

parked_seen : (stored : Option (List Part)) (torn : List Change) (room : _) (taken : List Change) (unread : Bool)
    (new : MediumState)
    → IsParked (Unit {0}) stored torn room taken unread new → sight_of new ≡ parked_sight stored torn
parked_seen stored torn room taken unread new h = λ i. record {
  awake = h.parked i;
  volume = after (volume_or_empty ((h.gives tt).0 i)) (h.nothing_pending i);
  failed = h.works i;
  side = parked_side i;
}
  where
    parked_side : side_sight (new.awake && not new.failed) new ≡ Some (record { stored = stored; torn = torn })
    parked_side =
        ap (λ (b : Bool). side_sight (b && not new.failed) new) h.parked
        ∙ (λ i. Some (record { stored = (h.gives tt).0 i; torn = (h.gives tt).1 i }))

-- the side that is shown of a medium that is parked
abbrev side_parked : Option SideSight → Sight
side_parked None = parked_sight None []
side_parked (Some side) = parked_sight side.stored side.torn

-- a loaded medium that is parked, as it is seen: with all that it holds, or one that has failed with what was stored
abbrev parks_sight : Bool → Sight → Sight
parks_sight false sight = parked_sight (Some sight.volume) []
parks_sight true sight = side_parked sight.side

ands_not : (b : Bool) → (b && false) ≡ false
ands_not true = refl
ands_not false = refl

parks_seen : (failed : Bool) (medium new : MediumState) → medium.failed ≡ failed
    → IsParkedFrom (Unit {0}) failed medium new → sight_of new ≡ parks_sight failed (sight_of medium)
parks_seen false medium new is h = parked_seen (Some (volume_of medium)) [] medium.room medium.pending false new h
parks_seen true medium new is h =
    let unsound : is_sound medium ≡ false = ap (λ (b : Bool). medium.awake && not b) is ∙ ands_not medium.awake in
    parked_seen medium.stored medium.torn medium.room [] false new h
    ∙ sym (ap (λ (b : Bool). side_parked (side_sight b medium)) unsound)

-- and it is sure what its side gives
parks_sure : (failed : Bool) (sight : Sight) → IsSureSight sight → IsSureSight (parks_sight failed sight)
parks_sure false sight sure = refl
parks_sure true sight sure = side_sure sight.side sure
  where
    side_sure : (side : Option SideSight) → torn_seen side ≡ [] → IsSureSight (side_parked side)
    side_sure None e = refl
    side_sure (Some side) e = e

module _ (S : Type 0) (made made' : Made) (new new' : Machine) where
  -- a medium that was not loaded is loaded, or stays, alike
  reloads_as : (old beside : Machine) (nexus : ℕ) (woke : Result Unit MediumError) (opened opened' : MediumState)
      (reply reply' : Reply) → seen_of old ≡ seen_of beside
      → sight_of opened ≡ sight_of opened' → (S → IsSureSight (sight_of opened)) → made ≡ made'
      → ReloadsAs woke opened nexus old (Ok reply) new → ReloadsAs woke opened' nexus beside (Ok reply') new'
      → AreAlike S (Answered (Ok reply)) (Answered (Ok reply')) made made' new new'
  reloads_as old beside nexus (Ok done) opened opened' reply reply' e s surely m h k = record {
    outputs = ap Answered (h.0 ∙ sym k.0);
    changes = m;
    drives = ap seen_of h.1 ∙ (λ i. reloaded (e i) nexus (s i)) ∙ sym (ap seen_of k.1);
    sure = λ s. subst IsSureDrive (sym (ap seen_of h.1)) (surely s);
  }
  reloads_as old beside nexus (Err error) opened opened' reply reply' e s surely m h k = record {
    outputs = ap Answered (h.0 ∙ sym k.0);
    changes = m;
    drives = ap seen_of h.1 ∙ (λ i. unloaded (e i) (s i)) ∙ sym (ap seen_of k.1);
    sure = λ s. subst IsSureDrive (sym (ap seen_of h.1)) (surely s);
  }

  reloads_quiet : (woke : Result Unit MediumError) (opened : MediumState) (nexus : ℕ) (old : Machine) (reply : Reply)
      (left : Machine) → ReloadsAs woke opened nexus old (Ok reply) left → IsQuiet woke
  reloads_quiet (Ok done) opened nexus old reply left h = tt
  reloads_quiet (Err Errors.NoMemory) opened nexus old reply left h = cc h.0
  reloads_quiet (Err Errors.Device) opened nexus old reply left h = cc h.0
  reloads_quiet (Err (Errors.Refused cause)) opened nexus old reply left h = tt
  reloads_quiet (Err Errors.SideFull) opened nexus old reply left h = tt
  reloads_quiet (Err Errors.Failed) opened nexus old reply left h = tt
  reloads_quiet (Err Errors.Unreadable) opened nexus old reply left h = tt

  -- LOAD of a medium that is not loaded has one answer
  pub reloads_alike : (old beside : Machine) (nexus : ℕ) (medium other : MediumState) (reply reply' : Reply)
      → seen_of old ≡ seen_of beside → sight_of medium ≡ sight_of other → OpensSurely medium → (S → IsSure medium)
      → LoadsIn (Unit {0}) (Unloaded medium) nexus old (Ok reply) made new
      → LoadsIn (Unit {0}) (Unloaded other) nexus beside (Ok reply') made' new'
      → AreAlike S (Answered (Ok reply)) (Answered (Ok reply')) made made' new new'
  reloads_alike old beside nexus medium other reply reply' e alike opens surely h k =
      let woke =
      wakes_alike S medium other alike opens surely h.0 k.0 h.1 k.1 (reloads_quiet h.0 h.1 nexus old reply new h.3)
      (reloads_quiet k.0 k.1 nexus beside reply' new' k.3) h.2 k.2 in
      let k' : ReloadsAs h.0 k.1 nexus beside (Ok reply') new' =
      subst (λ (w : Result Unit MediumError). ReloadsAs w k.1 nexus beside (Ok reply') new') (sym woke.answers) k.3 in
      reloads_as old beside nexus h.0 h.1 k.1 reply reply' e woke.sights woke.sure (h.4 ∙ sym k.4) h.3 k'

module _ (S : Type 0) (made made' : Made) (new new' : Machine) (leave : Machine → MediumState → Machine) (old beside :
    Machine)
    (leaves : (m m' : MediumState) → sight_of m ≡ sight_of m'
    → (seen_of (leave old m) ≡ seen_of (leave beside m'))
    × (IsSureSight (sight_of m) → IsSureDrive (seen_of (leave old m))))
    (reply reply' : Reply) (e : seen_of old ≡ seen_of beside) (sure : S → IsSureDrive (seen_of old)) where
  -- drives that are left so are alike
  left_alike : (answer : Result Reply Fault) (m m' : MediumState) → sight_of m ≡ sight_of m'
      → (S → IsSureSight (sight_of m)) → made ≡ made'
      → (Ok reply ≡ answer) × (new ≡ leave old m) → (Ok reply' ≡ answer) × (new' ≡ leave beside m')
      → AreAlike S (Answered (Ok reply)) (Answered (Ok reply')) made made' new new'
  left_alike answer m m' s surely made_is h k =
      let left = leaves m m' s in
      record {
        outputs = ap Answered (h.0 ∙ sym k.0);
        changes = made_is;
        drives = ap seen_of h.1 ∙ left.0 ∙ sym (ap seen_of k.1);
        sure = λ known. subst IsSureDrive (sym (ap seen_of h.1)) (left.1 (surely known));
      }

  parks_alike : (m m' : MediumState) (parking parking' : Result Unit MediumError) (left left' : MediumState)
      → sight_of m ≡ sight_of m' → (S → IsSureSight (sight_of m)) → made ≡ made'
      → Parks (Unit {0}) m parking left → ParksAs leave parking left old (Ok reply) new
      → Parks (Unit {0}) m' parking' left' → ParksAs leave parking' left' beside (Ok reply') new'
      → AreAlike S (Answered (Ok reply)) (Answered (Ok reply')) made made' new new'
  parks_alike m m' (Ok done) (Ok done') left left' s surely made_is p h q k =
      let one = parks_seen m.failed m left refl p in
      let failed : m'.failed ≡ m.failed = ap (λ (x : Sight). x.failed) (sym s) in
      let two =
      parks_seen m.failed m' left' failed (subst (λ (b : Bool). IsParkedFrom (Unit {0}) b m' left') failed q) in
      left_alike (Ok (good_with [])) left left' (one ∙ ap (parks_sight m.failed) s ∙ sym two)
      (λ known. subst IsSureSight (sym one) (parks_sure m.failed (sight_of m) (surely known))) made_is h k
  parks_alike m m' (Err error) parking' left left' s surely made_is p h q k = cc h.0
  parks_alike m m' (Ok done) (Err error) left left' s surely made_is p h q k = cc k.0

  -- what is unloaded has one answer
  pub unloads_alike : (bay bay' : Bay MediumState) → bay_of sight_of bay ≡ bay_of sight_of bay'
      → (S → IfSome (medium_in (bay_of sight_of bay)) IsSureSight)
      → UnloadsInto leave (Unit {0}) bay old (Ok reply) made new
      → UnloadsInto leave (Unit {0}) bay' beside (Ok reply') made' new'
      → AreAlike S (Answered (Ok reply)) (Answered (Ok reply')) made made' new new'
  unloads_alike Empty Empty same surely h k = record {
    outputs = ap Answered (h.0 ∙ sym k.0);
    changes = h.1 ∙ sym k.1;
    drives = ap seen_of h.2 ∙ e ∙ sym (ap seen_of k.2);
    sure = λ known. subst IsSureDrive (sym (ap seen_of h.2)) (sure known);
  }
  unloads_alike (Unloaded m) (Unloaded m') same surely h k =
      left_alike (Ok (good_with [])) m m' (cc same) surely (h.1 ∙ sym k.1) (h.0, h.2) (k.0, k.2)
  unloads_alike (Loaded m) (Loaded m') same surely h k =
      parks_alike m m' h.0 k.0 h.1 k.1 (cc same) surely (h.4 ∙ sym k.4) h.2 h.3 k.2 k.3
  unloads_alike Empty (Unloaded m') same surely h k = cc same
  unloads_alike Empty (Loaded m') same surely h k = cc same
  unloads_alike (Unloaded m) Empty same surely h k = cc same
  unloads_alike (Unloaded m) (Loaded m') same surely h k = cc same
  unloads_alike (Loaded m) Empty same surely h k = cc same
  unloads_alike (Loaded m) (Unloaded m') same surely h k = cc same
