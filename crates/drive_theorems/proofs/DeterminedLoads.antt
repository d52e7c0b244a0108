-- Where no fault comes, a medium that it is sure of opens in one way, and so a loading and a power on have one outcome.
use Rattle.std.proofs.Common.{◌≡◌, List, [], Option, None, Some, Result, Ok, Err, Bool, true, false, sym, ◌∙◌, ap, subst, refl, inl, inr}
use Rattle.std.specs.Prelude.{option_map, IfSome, ◌&&◌, not}
use Rattle.scsi_sense.specs.declared.replies.Reply.{Reply}
use Rattle.pr_core.specs.Keepers.{KeeperState}
use Rattle.volume_core.specs.declared.media.MediumError.{MediumError}
use Rattle.volume_core.specs.declared.media.MediumError.TheVariants as Errors
use Rattle.volume_core.specs.Volume.{Part, after}
use Rattle.volume_core.specs.Medium.{MediumState, GivenBy, Wakes, WakesFrom, volume_or_empty}
use Rattle.drive_commands.specs.declared.bays.Bay.{Bay}
use Rattle.drive_commands.specs.declared.bays.Bay.TheVariants.{Empty, Unloaded, Loaded}
use Rattle.drive_commands.specs.declared.faults.Fault.{Fault}
use Rattle.drive_commands.specs.State.{Machine, bay_of, left_of, loaded, medium_in, powered_on}
use Rattle.drive_commands.specs.Relations.{Made}
use Rattle.drive_commands.specs.Load.{LoadsAs, LoadsInto, PowersOn, bay_when_on, power_on_outcome}
use Rattle.drive_commands.specs.Step.{Answered, Unanswered}
use Rattle.drive_commands.specs.Determined.{IsSure, IsSureDrive, IsSureSight, OpensSurely, Sight, SideSight, torn_seen, sight_of, side_sight, seen_of, without_room, AreSeenAlike, IsCalm, AreAlike}
use Rattle.drive_theorems.proofs.AlikeLemmas.{working_sight}

-- neither memory ran out nor the device failed
abbrev pub IsQuiet : Result Unit MediumError → Type 0
IsQuiet (Err Errors.NoMemory) = ⊥
IsQuiet (Err Errors.Device) = ⊥
IsQuiet _ = Unit {0}

-- how a medium that is awake answers
abbrev awake_answer : Bool → Result Unit MediumError
awake_answer false = Ok tt
awake_answer true = Err Errors.Failed

-- how a parked medium of this side answers
abbrev parked_answer : Option (List Part) → Result Unit MediumError
parked_answer None = Err Errors.Unreadable
parked_answer (Some volume) = Ok tt

-- and how it is seen then
abbrev opened_sight : Option (List Part) → Sight
opened_sight None =
    record { awake = false; volume = []; failed = false; side = Some (record { stored = None; torn = [] }) }
opened_sight (Some volume) = working_sight volume

-- a medium answered so, and is seen so; where something holds, it is sure what its side gives
record WokeAs (S : Type 0) (woke answer : Result Unit MediumError) (opened : MediumState) (sight : Sight) : Type 0 where
  pub answer_is : woke ≡ answer
  pub sight_is : sight_of opened ≡ sight
  pub sure : S → IsSureSight sight

-- a medium that is awake answers by whether it has failed, and stays
wakes_awake : (S : Type 0) (failed : Bool) (medium : MediumState) (woke : Result Unit MediumError) (opened :
    MediumState)
    → medium.failed ≡ failed → (S → IsSure medium) → WakesFrom (Unit {0}) true medium woke opened
    → WokeAs S woke (awake_answer failed) opened (sight_of medium)
wakes_awake S false medium (Ok done) opened f sure h =
    record { answer_is = refl; sight_is = ap sight_of h.1; sure = sure }
wakes_awake S true medium (Ok done) opened f sure h = cc (f, h.0)
wakes_awake S true medium (Err Errors.Failed) opened f sure h =
    record { answer_is = refl; sight_is = ap sight_of h.1; sure = sure }
wakes_awake S false medium (Err Errors.Failed) opened f sure h = cc (f, h.0)
wakes_awake S failed medium (Err (Errors.Refused cause)) opened f sure h = absurd h
wakes_awake S failed medium (Err Errors.NoMemory) opened f sure h = absurd h
wakes_awake S failed medium (Err Errors.SideFull) opened f sure h = absurd h
wakes_awake S failed medium (Err Errors.Device) opened f sure h = absurd h
wakes_awake S failed medium (Err Errors.Unreadable) opened f sure h = absurd h

-- a side of which it is sure what it gives gives just that
given_sure : (volume : List Part) (medium : MediumState) (given : Option (List Part))
    → medium.stored ≡ Some volume → medium.torn ≡ [] → GivenBy medium given → given ≡ Some volume
given_sure volume medium given s t (inl h) = h ∙ s
given_sure volume medium given s t (inr h) = h ∙ (λ i. Some (after (volume_or_empty (s i)) (t i)))

-- a parked medium of which that is sure answers by what its side gives, and is seen so
wakes_parked : (S : Type 0) (stored : Option (List Part)) (medium : MediumState) (woke : Result Unit MediumError)
    (opened : MediumState) → medium.stored ≡ stored → medium.torn ≡ [] → IsQuiet woke
    → WakesFrom (Unit {0}) false medium woke opened
    → WokeAs S woke (parked_answer stored) opened (opened_sight stored)
wakes_parked S None medium (Ok done) opened s t quiet h = absurd ((h.1 tt).readable s)
wakes_parked S (Some volume) medium (Ok done) opened s t quiet h =
    let stored : opened.stored ≡ Some volume = given_sure volume medium opened.stored s t (h.1 tt).volume in
    record {
      answer_is = refl;
      sight_is = λ i. record {
        awake = h.0.awake i;
        volume = after (volume_or_empty (stored i)) (h.0.nothing_pending i);
        failed = h.0.works i;
        side = side_sight (h.0.awake i && not (h.0.works i)) opened;
      };
      sure = λ known. refl;
    }
wakes_parked S None medium (Err Errors.Unreadable) opened s t quiet h =
    let stored : opened.stored ≡ None = (h.0.gives tt).0 ∙ s in
    let torn : opened.torn ≡ [] = (h.0.gives tt).1 ∙ t in
    record {
      answer_is = refl;
      sight_is =
          (λ i. record {
            awake = h.0.parked i;
            volume = after (volume_or_empty (stored i)) (h.0.nothing_pending i);
            failed = h.0.works i;
            side = side_sight (h.0.parked i && not (h.0.works i)) opened;
          })
          ∙ (λ i. record {
            awake = false;
            volume = [];
            failed = false;
            side = Some (record { stored = stored i; torn = torn i });
          });
      sure = λ known. refl;
    }
wakes_parked S (Some volume) medium (Err Errors.Unreadable) opened s t quiet h =
    let none : Some volume ≡ None = sym s ∙ h.1 tt in
    cc
wakes_parked S stored medium (Err (Errors.Refused cause)) opened s t quiet h = absurd h
wakes_parked S stored medium (Err Errors.NoMemory) opened s t quiet h = absurd quiet
wakes_parked S stored medium (Err Errors.SideFull) opened s t quiet h = absurd h
wakes_parked S stored medium (Err Errors.Device) opened s t quiet h = absurd quiet
wakes_parked S stored medium (Err Errors.Failed) opened s t quiet h = absurd h

abbrev stored_in : Option SideSight → Option (List Part)
stored_in None = None
stored_in (Some side) = side.stored

-- two media answered alike, and are seen alike
pub record WokeAlike (S : Type 0) (woke woke' : Result Unit MediumError) (opened opened' : MediumState) : Type 0 where
  pub answers : woke ≡ woke'
  pub sights : sight_of opened ≡ sight_of opened'
  pub sure : S → IsSureSight (sight_of opened)

-- what answers alike, and is seen alike, answered alike
woke_alike : (S : Type 0) (woke woke' answer : Result Unit MediumError) (opened opened' : MediumState) (sight : Sight)
    → WokeAs S woke answer opened sight → WokeAs S woke' answer opened' sight → WokeAlike S woke woke' opened opened'
woke_alike S woke woke' answer opened opened' sight h k =
    record {
      answers = h.answer_is ∙ sym k.answer_is;
      sights = h.sight_is ∙ sym k.sight_is;
      sure = λ known. subst IsSureSight (sym h.sight_is) (h.sure known);
    }

module _ (S : Type 0) (medium other : MediumState) (alike : sight_of medium ≡ sight_of other)
    (opens : OpensSurely medium) (surely : S → IsSure medium) where
  -- two media that are seen alike are awake alike, or their sides give the same for sure
  wakes_where : (awake : Bool) → medium.awake ≡ awake
      → (woke woke' : Result Unit MediumError) (opened opened' : MediumState) → IsQuiet woke → IsQuiet woke'
      → WakesFrom (Unit {0}) awake medium woke opened → WakesFrom (Unit {0}) awake other woke' opened'
      → WokeAlike S woke woke' opened opened'
  wakes_where true a woke woke' opened opened' quiet quiet' h k =
      let failed : other.failed ≡ medium.failed = ap (λ (x : Sight). x.failed) (sym alike) in
      let sure : S → IsSure other = λ known. subst IsSureSight alike (surely known) in
      let second = wakes_awake S medium.failed other woke' opened' failed sure k in
      woke_alike S woke woke' (awake_answer medium.failed) opened opened' (sight_of medium)
      (wakes_awake S medium.failed medium woke opened refl surely h)
      (record { answer_is = second.answer_is; sight_is = second.sight_is ∙ sym alike; sure = surely })
  wakes_where false a woke woke' opened opened' quiet quiet' h k =
      let a' : other.awake ≡ false = ap (λ (x : Sight). x.awake) (sym alike) ∙ a in
      let side : side_sight false other ≡ side_sight false medium =
      ap (λ (b : Bool). side_sight (b && not other.failed) other) (sym a') ∙ ap (λ (x : Sight). x.side) (sym alike)
      ∙ ap (λ (b : Bool). side_sight (b && not medium.failed) medium) a in
      let torn : medium.torn ≡ [] = opens a in
      woke_alike S woke woke' (parked_answer medium.stored) opened opened' (opened_sight medium.stored)
      (wakes_parked S medium.stored medium woke opened refl torn quiet h)
      (wakes_parked S medium.stored other woke' opened' (ap stored_in side) (ap torn_seen side ∙ torn) quiet' k)

  pub wakes_alike : (woke woke' : Result Unit MediumError) (opened opened' : MediumState) → IsQuiet woke → IsQuiet woke'
      → Wakes (Unit {0}) medium woke opened → Wakes (Unit {0}) other woke' opened'
      → WokeAlike S woke woke' opened opened'
  wakes_alike woke woke' opened opened' quiet quiet' h k =
      wakes_where medium.awake refl woke woke' opened opened' quiet quiet' h
      (subst (λ (b : Bool). WakesFrom (Unit {0}) b other woke' opened') (ap (λ (x : Sight). x.awake) (sym alike)) k)

-- a loading that is answered met no fault
loads_quiet : (woke : Result Unit MediumError) (opened : MediumState) (old : Machine) (reply : Reply) (new : Machine)
    → LoadsAs woke opened old (Ok reply) new → IsQuiet woke
loads_quiet (Ok done) opened old reply new h = tt
loads_quiet (Err Errors.NoMemory) opened old reply new h = cc h.0
loads_quiet (Err Errors.Device) opened old reply new h = cc h.0
loads_quiet (Err (Errors.Refused cause)) opened old reply new h = tt
loads_quiet (Err Errors.SideFull) opened old reply new h = tt
loads_quiet (Err Errors.Failed) opened old reply new h = tt
loads_quiet (Err Errors.Unreadable) opened old reply new h = tt

-- a power on that was done met no fault
power_on_quiet : (woke : Result Unit MediumError) (opened : MediumState) (bay : Bay MediumState)
    → bay_when_on woke opened ≡ Some bay → IsCalm (Unanswered (power_on_outcome woke)) → IsQuiet woke
power_on_quiet (Ok done) opened bay e calm = tt
power_on_quiet (Err Errors.NoMemory) opened bay e calm = cc
power_on_quiet (Err Errors.Device) opened bay e calm = absurd calm
power_on_quiet (Err (Errors.Refused cause)) opened bay e calm = tt
power_on_quiet (Err Errors.SideFull) opened bay e calm = tt
power_on_quiet (Err Errors.Failed) opened bay e calm = tt
power_on_quiet (Err Errors.Unreadable) opened bay e calm = tt

-- where a medium stands when the power came on, as it is seen
bay_sight : (woke : Result Unit MediumError) (opened : MediumState)
    → option_map (bay_of sight_of) (bay_when_on woke opened) ≡ bay_when_on woke (sight_of opened)
bay_sight (Ok done) opened = refl
bay_sight (Err Errors.NoMemory) opened = refl
bay_sight (Err Errors.Device) opened = refl
bay_sight (Err (Errors.Refused cause)) opened = refl
bay_sight (Err Errors.SideFull) opened = refl
bay_sight (Err Errors.Failed) opened = refl
bay_sight (Err Errors.Unreadable) opened = refl

-- drives that were switched on with what is seen alike are seen alike
switched_alike : (bay bay' : Bay MediumState) (keeper keeper' : KeeperState)
    → bay_of sight_of bay ≡ bay_of sight_of bay' → without_room keeper ≡ without_room keeper'
    → seen_of (powered_on bay (left_of keeper.saved) keeper)
    ≡ seen_of (powered_on bay' (left_of keeper'.saved) keeper')
switched_alike bay bay' keeper keeper' bays kept = λ i. powered_on (bays i) (left_of (kept i).saved) (kept i)

bay_is : (stands bay : Bay MediumState) → stands ≡ bay → IfSome (medium_in (bay_of sight_of stands)) IsSureSight
    → IfSome (medium_in (bay_of sight_of bay)) IsSureSight
bay_is stands bay e h = subst (λ (b : Bay MediumState). IfSome (medium_in (bay_of sight_of b)) IsSureSight) e h

-- of a medium that stands in a bay once the power is on it is as sure what its side gives as it was
bay_sure : (woke : Result Unit MediumError) (opened : MediumState) (bay : Bay MediumState)
    → bay_when_on woke opened ≡ Some bay → IsSureSight (sight_of opened)
    → IfSome (medium_in (bay_of sight_of bay)) IsSureSight
bay_sure (Ok done) opened bay e sure = bay_is (Loaded opened) bay (cc e) sure
bay_sure (Err Errors.Failed) opened bay e sure = bay_is (Loaded opened) bay (cc e) sure
bay_sure (Err Errors.Unreadable) opened bay e sure = bay_is (Unloaded opened) bay (cc e) sure
bay_sure (Err Errors.Device) opened bay e sure = bay_is (Unloaded opened) bay (cc e) sure
bay_sure (Err Errors.NoMemory) opened bay e sure = cc e
bay_sure (Err (Errors.Refused cause)) opened bay e sure = cc e
bay_sure (Err Errors.SideFull) opened bay e sure = cc e

module _ (S : Type 0) (made made' : Made) (new new' : Machine) where
  -- a medium is loaded, or comes back, alike
  loads_as : (old beside : Machine) (woke : Result Unit MediumError) (opened opened' : MediumState)
      (reply reply' : Reply) → seen_of old ≡ seen_of beside → (S → IsSureDrive (seen_of old))
      → sight_of opened ≡ sight_of opened' → (S → IsSureSight (sight_of opened)) → made ≡ made'
      → LoadsAs woke opened old (Ok reply) new → LoadsAs woke opened' beside (Ok reply') new'
      → AreAlike S (Answered (Ok reply)) (Answered (Ok reply')) made made' new new'
  loads_as old beside (Ok done) opened opened' reply reply' e sure s surely m h k = record {
    outputs = ap Answered (h.0 ∙ sym k.0);
    changes = m;
    drives = ap seen_of h.1 ∙ (λ i. loaded (e i) (s i)) ∙ sym (ap seen_of k.1);
    sure = λ known. subst IsSureDrive (sym (ap seen_of h.1)) (surely known);
  }
  loads_as old beside (Err error) opened opened' reply reply' e sure s surely m h k = record {
    outputs = ap Answered (h.0 ∙ sym k.0);
    changes = m;
    drives = ap seen_of h.1 ∙ e ∙ sym (ap seen_of k.1);
    sure = λ known. subst IsSureDrive (sym (ap seen_of h.1)) (sure known);
  }

  -- a loading has one answer
  pub loads : (bay bay' : Bay MediumState) (old beside : Machine) (medium other : MediumState) (reply reply' : Reply)
      → seen_of old ≡ seen_of beside → (S → IsSureDrive (seen_of old)) → sight_of medium ≡ sight_of other
      → OpensSurely medium → (S → IsSure medium)
      → LoadsInto (Unit {0}) bay medium old (Ok reply) made new
      → LoadsInto (Unit {0}) bay' other beside (Ok reply') made' new'
      → AreAlike S (Answered (Ok reply)) (Answered (Ok reply')) made made' new new'
  loads Empty Empty old beside medium other reply reply' e sure alike opens surely h k =
      let woke =
      wakes_alike S medium other alike opens surely h.0 k.0 h.1 k.1 (loads_quiet h.0 h.1 old reply new h.3)
      (loads_quiet k.0 k.1 beside reply' new' k.3) h.2 k.2 in
      let k' : LoadsAs h.0 k.1 beside (Ok reply') new' =
      subst (λ (w : Result Unit MediumError). LoadsAs w k.1 beside (Ok reply') new') (sym woke.answers) k.3 in
      loads_as old beside h.0 h.1 k.1 reply reply' e sure woke.sights woke.sure (h.4 ∙ sym k.4) h.3 k'
  loads Empty (Unloaded m) old beside medium other reply reply' e sure alike opens surely h k = absurd k
  loads Empty (Loaded m) old beside medium other reply reply' e sure alike opens surely h k = absurd k
  loads (Unloaded m) bay' old beside medium other reply reply' e sure alike opens surely h k = absurd h
  loads (Loaded m) bay' old beside medium other reply reply' e sure alike opens surely h k = absurd h

  -- a power on leaves one drive
  pub powers_on : (medium other : Option MediumState) (keeper keeper' : KeeperState)
      (outcome outcome' : Result Unit Fault)
      → AreSeenAlike medium other → IfSome medium OpensSurely → (S → IfSome medium IsSure) → without_room keeper ≡
      without_room keeper'
      → IsCalm (Unanswered outcome) → IsCalm (Unanswered outcome')
      → PowersOn (Unit {0}) medium keeper outcome made new → PowersOn (Unit {0}) other keeper' outcome' made' new'
      → AreAlike S (Unanswered outcome) (Unanswered outcome') made made' new new'
  powers_on None None keeper keeper' outcome outcome' alike opens surely kept calm calm' h k = record {
    outputs = ap Unanswered (h.0 ∙ sym k.0);
    changes = h.1 ∙ sym k.1;
    drives = ap seen_of h.2 ∙ switched_alike Empty Empty keeper keeper' refl kept ∙ sym (ap seen_of k.2);
    sure = λ known. subst IsSureDrive (sym (ap seen_of h.2)) tt;
  }
  powers_on (Some medium) (Some other) keeper keeper' outcome outcome' alike opens surely kept calm calm' h k =
      let calm_h = subst (λ (o : Result Unit Fault). IsCalm (Unanswered o)) h.5 calm in
      let calm_k = subst (λ (o : Result Unit Fault). IsCalm (Unanswered o)) k.5 calm' in
      let woke =
      wakes_alike S medium other alike opens surely h.0 k.0 h.1 k.1 (power_on_quiet h.0 h.1 h.2 h.4 calm_h)
      (power_on_quiet k.0 k.1 k.2 k.4 calm_k) h.3 k.3 in
      let seen : Some (bay_of sight_of h.2) ≡ Some (bay_of sight_of k.2) =
      sym (ap (option_map (bay_of sight_of)) h.4) ∙ bay_sight h.0 h.1
      ∙ (λ i. bay_when_on (woke.answers i) (woke.sights i))
      ∙ sym (bay_sight k.0 k.1) ∙ ap (option_map (bay_of sight_of)) k.4 in
      let bays : bay_of sight_of h.2 ≡ bay_of sight_of k.2 = cc seen in
      record {
        outputs = ap Unanswered (h.5 ∙ ap power_on_outcome woke.answers ∙ sym k.5);
        changes = h.6 ∙ sym k.6;
        drives = ap seen_of h.7 ∙ switched_alike h.2 k.2 keeper keeper' bays kept ∙ sym (ap seen_of k.7);
        sure = λ known.
            subst IsSureDrive (sym (ap seen_of h.7))
            (bay_sure h.0 h.1 h.2 h.4 (woke.sure known));
      }
  powers_on None (Some other) keeper keeper' outcome outcome' alike opens surely kept calm calm' h k = absurd alike
  powers_on (Some medium) None keeper keeper' outcome outcome' alike opens surely kept calm calm' h k = absurd alike
