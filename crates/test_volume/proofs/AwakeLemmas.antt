-- An awake medium stays awake in all calls but those that park it.
use Rattle.std.proofs.Common.{◌≡◌, Result, Ok, Err, Bool, true, false, refl, ap, subst, ◌∙◌}
use Rattle.volume_core.specs.declared.changes.Change.{Change}
use Rattle.volume_core.specs.declared.media.MediumError.{MediumError}
use Rattle.volume_core.specs.declared.media.MediumError.TheVariants.{Refused, NoMemory, SideFull, Device, Failed, Unreadable}
use Rattle.volume_core.specs.declared.media.Turn.{Turn}
use Rattle.volume_core.specs.declared.media.Turn.TheVariants as turns
use Rattle.volume_core.specs.Medium.{MediumState, Accepts, Fetches, Settles, Turns, Parks, Wakes, WakesFrom}

same_awake : (old new : MediumState) → old.awake ≡ true → new ≡ old → new.awake ≡ true
same_awake old new awake same = ap (λ (m : MediumState). m.awake) same ∙ awake

pub accepts_awake : (old : MediumState) (change : Change) (result : Result Unit MediumError) (new : MediumState)
    → old.awake ≡ true → Accepts old change result new → new.awake ≡ true
accepts_awake old change (Ok done) new awake answer = answer.2.awake
accepts_awake old change (Err (Refused cause)) new awake answer = same_awake old new awake answer.2
accepts_awake old change (Err NoMemory) new awake answer = answer.2.awake
accepts_awake old change (Err SideFull) new awake answer = same_awake old new awake answer.2
accepts_awake old change (Err Device) new awake answer = answer.3.awake
accepts_awake old change (Err Failed) new awake answer = same_awake old new awake answer.1
accepts_awake old change (Err Unreadable) new awake answer = absurd answer

pub settles_awake : (old : MediumState) (result : Result Unit MediumError) (new : MediumState)
    → old.awake ≡ true → Settles old result new → new.awake ≡ true
settles_awake old (Ok done) new awake answer = answer.2.awake
settles_awake old (Err Device) new awake answer = answer.2.awake
settles_awake old (Err Failed) new awake answer = same_awake old new awake answer.1
settles_awake old (Err (Refused cause)) new awake answer = absurd answer
settles_awake old (Err NoMemory) new awake answer = absurd answer
settles_awake old (Err SideFull) new awake answer = absurd answer
settles_awake old (Err Unreadable) new awake answer = absurd answer

pub fetches_awake : (old : MediumState) (result : Result Unit MediumError) (new : MediumState)
    → old.awake ≡ true → Fetches old result new → new.awake ≡ true
fetches_awake old (Ok done) new awake answer = same_awake old new awake answer.1
fetches_awake old (Err NoMemory) new awake answer = same_awake old new awake answer.1
fetches_awake old (Err Device) new awake answer = ap (λ (m : MediumState). m.awake) answer.1 ∙ awake
fetches_awake old (Err Failed) new awake answer = same_awake old new awake answer.1
fetches_awake old (Err (Refused cause)) new awake answer = absurd answer
fetches_awake old (Err SideFull) new awake answer = absurd answer
fetches_awake old (Err Unreadable) new awake answer = absurd answer

pub turns_awake : (old : MediumState) (turn : Turn) (new : MediumState)
    → old.awake ≡ true → Turns old turn new → new.awake ≡ true
turns_awake old turns.Idle new awake answer = same_awake old new awake answer.1
turns_awake old (turns.Stored n) new awake answer = answer.4.awake
turns_awake old turns.Device new awake answer = answer.2.awake

pub parks_awake : (honest : Type 0) (old : MediumState) (error : MediumError) (new : MediumState)
    → Parks honest old (Err error) new → new.awake ≡ true
parks_awake honest old Device new answer = answer.2.awake
parks_awake honest old (Refused cause) new answer = absurd answer
parks_awake honest old NoMemory new answer = absurd answer
parks_awake honest old SideFull new answer = absurd answer
parks_awake honest old Failed new answer = absurd answer
parks_awake honest old Unreadable new answer = absurd answer

wakes_from_awake : (honest : Type 0) (old new : MediumState) (awake : Bool) → old.awake ≡ awake
    → WakesFrom honest awake old (Ok tt) new → new.awake ≡ true
wakes_from_awake honest old new true awake answer = same_awake old new awake answer.1
wakes_from_awake honest old new false awake answer = answer.0.awake

-- a woken medium is awake
pub wakes_awake : (honest : Type 0) (old new : MediumState) → Wakes honest old (Ok tt) new → new.awake ≡ true
wakes_awake honest old new answer = wakes_from_awake honest old new old.awake refl answer

failed_from_awake : (honest : Type 0) (old new : MediumState) (error : MediumError) → old.awake ≡ true
    → WakesFrom honest true old (Err error) new → new.awake ≡ true
failed_from_awake honest old new Failed awake answer = same_awake old new awake answer.1
failed_from_awake honest old new (Refused cause) awake answer = absurd answer
failed_from_awake honest old new NoMemory awake answer = absurd answer
failed_from_awake honest old new SideFull awake answer = absurd answer
failed_from_awake honest old new Device awake answer = absurd answer
failed_from_awake honest old new Unreadable awake answer = absurd answer

-- an awake medium stays awake when it is woken, whatever is returned
pub stays_awake : (honest : Type 0) (old : MediumState) (result : Result Unit MediumError) (new : MediumState)
    → old.awake ≡ true → Wakes honest old result new → new.awake ≡ true
stays_awake honest old (Ok done) new awake answer = wakes_awake honest old new answer
stays_awake honest old (Err error) new awake answer =
    failed_from_awake honest old new error awake
    (subst (λ (b : Bool). WakesFrom honest b old (Err error) new) awake answer)
