-- A medium that holds all in memory, as contracts see it.
use Rattle.std.specs.Prelude.{◌≡◌, ◌++◌, None, Some, List, [], ◌∷◌, Bool, true, false, refl}
use Rattle.std.proofs.Common.{subst}
use Rattle.vtl_base.specs.Below.{Below}
use Rattle.volume_core.specs.declared.changes.Change.{Change}
use Rattle.volume_core.specs.Volume.{Part, AllApply, changed, after}
use Rattle.volume_core.specs.Medium.{MediumState}

-- its volume, and whether it is open (own)
pub record Plain : Type 0 where
  pub volume : List Part
  pub awake : Bool

-- all is stored at once, with no bound, and it never fails (own)
abbrev pub plain_state : Plain → MediumState
plain_state plain =
    record {
      awake = plain.awake;
      stored = Some plain.volume;
      pending = [];
      torn = [];
      failed = false;
      room = None;
      unread = false;
    }

-- a volume in memory as one of these that is open (own)
abbrev pub volume_state : List Part → MediumState
volume_state volume = plain_state (record { volume = volume; awake = true })

-- the changes apply in order, and lead from one volume to the other (own)
abbrev pub MovesByChanges : List Part → List Change → List Part → Type 0
MovesByChanges old changes new = AllApply old changes × (new ≡ after old changes)

-- nothing fails below it, it accepts what leads from one volume to the other, and is left alone where that stays (own)
abbrev pub plain_below : Below Plain Change
plain_below =
    record {
      failures = λ plain. 0;
      honest = λ plain. Unit {0};
      at_hand = λ plain. Unit {0};
      moves = λ old changes new. MovesByChanges old.volume changes new.volume;
      left_alone = λ old new. new.volume ≡ old.volume;
    }

-- a run without a call accepts nothing
pub moves_nowhere_by_changes : (volume : List Part) → MovesByChanges volume [] volume
moves_nowhere_by_changes volume = (tt, refl)

-- two runs, one after the other, accept the changes of both
pub moves_on_by_changes : (a b c : List Part) (first second : List Change)
    → MovesByChanges a first b → MovesByChanges b second c → MovesByChanges a (first ++ second) c
moves_on_by_changes a b c [] second one two =
    subst (λ volume. MovesByChanges volume second c) one.1 two
moves_on_by_changes a b c (change ∷ changes) second one two =
    let rest = moves_on_by_changes (changed a change) b c changes second (one.0.1, one.1) two in
    ((one.0.0, rest.0), rest.1)
