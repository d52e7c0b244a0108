-- A medium for tests, as contracts see it.
use Rattle.std.specs.Prelude.{◌≡◌, ◌≤◌, ◌⊎◌, ◌++◌, ℕ, Some, List, [], Bool, true, false, if◌then◌else◌}
use Rattle.std.proofs.Common.{refl, ap, sym, ◌∙◌, arith, append_assoc}
use Rattle.std.proofs.lemmas.List.{append-nil}
use Rattle.vtl_base.specs.Below.{Below}
use Rattle.volume_core.specs.declared.changes.Change.{Change}
use Rattle.volume_core.specs.Volume.{empty_volume, after}
use Rattle.volume_core.specs.Medium.{MediumState}

-- what a medium for tests holds (own)
pub record Staged : Type 0 where
  pub capacities : List ℕ
  -- all changes that its side holds, in order
  pub stored : List Change
  -- the changes that were accepted since: pending, or of a parked medium given up
  pub rest : List Change
  -- the frame of all these was in flight when the device failed
  pub is_torn : Bool
  pub awake : Bool
  pub failed : Bool
  pub room : ℕ
  -- it takes changes whose blocks have fewer bytes than this without its device
  pub alone_below : ℕ
  -- how often its device has failed
  pub faults : ℕ

-- its side gives what the stored changes make of an empty volume (own)
abbrev pub staged_state : Staged → MediumState
staged_state medium =
    record {
      awake = medium.awake;
      stored = Some (after (empty_volume medium.capacities) medium.stored);
      pending = if medium.awake then medium.rest else [];
      torn = if medium.is_torn then medium.rest else [];
      failed = medium.failed;
      room = Some medium.room;
      unread = false;
    }

-- it works, and has given up nothing since it was opened (own)
abbrev pub IsWhole : Staged → Type 0
IsWhole medium = (medium.failed ≡ false) × (medium.awake ≡ false → medium.rest ≡ [])

-- What was stored stays, first of all that is, and so does the size below which a change is taken without the device.
-- Where the medium works and its device does not fail, just these changes are added to what it holds (own).
pub record StagedMoves (old : Staged) (made : List Change) (new : Staged) : Type 0 where
  pub stored_more : (more : List Change) × (new.stored ≡ old.stored ++ more)
  pub counted : old.faults ≤ new.faults
  pub alone : new.alone_below ≡ old.alone_below
  pub whole :
      IsWhole old → new.faults ≡ old.faults
      → IsWhole new × (new.stored ++ new.rest ≡ (old.stored ++ old.rest) ++ made)

-- its side holds what it held, or that with all changes of the frame that was in flight (own)
abbrev pub IsLeftAlone : Staged → Staged → Type 0
IsLeftAlone old new =
    (new.stored ≡ old.stored) ⊎ ((old.is_torn ≡ true) × (new.stored ≡ old.stored ++ old.rest))

-- its device's faults are counted, it is honest, it accepts as it moves, and its side is left alone (own)
abbrev pub staged_below : Below Staged Change
staged_below =
    record {
      failures = λ medium. medium.faults;
      honest = λ medium. Unit {0};
      at_hand = λ medium. Unit {0};
      moves = StagedMoves;
      left_alone = IsLeftAlone;
    }

-- nothing done is the empty list
pub staged_moves_nowhere : (medium : Staged) → StagedMoves medium [] medium
staged_moves_nowhere medium =
    record {
      stored_more = ([], sym (append-nil medium.stored));
      counted = omega arith;
      alone = refl;
      whole = λ whole same. (whole, sym (append-nil (medium.stored ++ medium.rest)));
    }

-- two in a row append their lists
pub staged_moves_on : (a b c : Staged) (first second : List Change)
    → StagedMoves a first b → StagedMoves b second c → StagedMoves a (first ++ second) c
staged_moves_on a b c first second one two =
    record {
      stored_more = (
        one.stored_more.0 ++ two.stored_more.0,
        two.stored_more.1 ∙ ap (λ (l : List Change). l ++ two.stored_more.0) one.stored_more.1
            ∙ append_assoc a.stored one.stored_more.0 two.stored_more.0,
      );
      counted = omega (arith, one.counted, two.counted);
      alone = two.alone ∙ one.alone;
      whole = λ whole same.
          let middle : b.faults ≡ a.faults = omega (arith, one.counted, two.counted, same) in
          let end : c.faults ≡ b.faults = omega (arith, one.counted, two.counted, same) in
          let left = one.whole whole middle in
          let right = two.whole left.0 end in (
            right.0,
            right.1 ∙ ap (λ (l : List Change). l ++ second) left.1
                ∙ append_assoc (a.stored ++ a.rest) first second,
          );
    }
