-- The count of changes that were made, and the growth of a seat.
use Rattle.std.proofs.Common.{zero, suc, ◌≡◌, ◌≢◌, ◌≤◌, ◌<◌, ◌+◌, ◌^◌, ◌⊎◌, inl, inr, ℕ, List, [], ◌∷◌, length, ◌∙◌, ap, subst, arith}
use Rattle.std.proofs.Math.Nat.{min-eq_left}
use Rattle.vtl_base.specs.Below.{Below}
use Rattle.scsi_sense.specs.declared.replies.Reply.{Reply}
use Rattle.volume_core.specs.declared.changes.Change.{Change}
use Rattle.library.specs.Seats.{SeatState}
use Rattle.drive_commands.specs.Counted.{counted_up}
use Rattle.drive_commands.specs.Execute.{Answers}
use Rattle.drive_commands.specs.ShownChanges.{ShowsChanges}
use Rattle.drive_commands.specs.Work.{Request}
use Rattle.drive_commands.specs.State.{DriveState}
use Rattle.pr_core.specs.declared.states.PrState.{PrState}
use Rattle.pr_core.specs.Keepers.{KeeperState}
use Rattle.volume_core.specs.Medium.{MediumState}
use Rattle.library.specs.Inner.Entering.{CanEnter}
use Rattle.library.specs.Served.{GrowsAsShown, SeatGrows}

-- below the limit a count rises by the one change that is made, if one is
pub count_rises : (old new : ℕ) (changes : List Change) → length changes ≤ 1 → new ≡ counted_up old changes
    → old + 1 < 2 ^ 64 → new ≡ old + length changes
count_rises old new [] few counted below = omega (arith, counted)
count_rises old new (change ∷ []) few counted below =
    counted ∙ min-eq_left (omega (arith, below))
count_rises old new (change ∷ other ∷ changes) few counted below = absurd (omega (arith, few))

-- no changes are 0
nothing : (changes : List Change) → changes ≡ [] → length changes ≡ 0
nothing changes none = ap (length {A = Change}) none

-- a count follows the changes that are made, where one more can be entered or none is made
count_follows : (old new : ℕ) (cdb : List ℕ) (reply : Reply) (changes : List Change) → ShowsChanges cdb reply changes
    → new ≡ counted_up old changes → CanEnter old cdb reply → new ≡ old + length changes
count_follows old new cdb reply changes reported counted (inl below) =
    count_rises old new changes reported.few counted below
count_follows old new cdb reply changes reported counted (inr none) =
    let made : changes ≡ [] = none changes reported in
    omega (arith, counted ∙ ap (λ (l : List Change). counted_up old l) made, nothing changes made)

-- where a count has risen, the entry is what it rose by
pub rises_by : (before after held held' n : ℕ) → after ≡ before + n → n ≤ 1 → (before ≡ after → held' ≡ held)
    → (before ≢ after → held' ≡ held + 1) → held' ≡ held + n
rises_by before after held held' zero is few same risen = omega (arith, same (omega (arith, is)))
rises_by before after held held' (suc zero) is few same risen =
    omega (arith, risen (λ alike. absurd (omega (arith, is, alike))))
rises_by before after held held' (suc (suc n)) is few same risen = absurd (omega (arith, few))

stays_by : (before after held held' n : ℕ) → after ≡ before + n → n ≤ 1 → (before ≡ after → held' ≡ held)
    → (before ≢ after → held' ≡ held) → held' ≡ held
stays_by before after held held' zero is few same risen = same (omega (arith, is))
stays_by before after held held' (suc n) is few same risen = risen (λ alike. absurd (omega (arith, is, alike)))

few_changes : (before after n : ℕ) → after ≡ before + n → n ≤ 1 → (after ≡ before) ⊎ (after ≡ before + 1)
few_changes before after zero is few = inl (omega (arith, is))
few_changes before after (suc zero) is few = inr (omega (arith, is))
few_changes before after (suc (suc n)) is few = absurd (omega (arith, few))

-- a seat that grew by the changes that were made grew as the reply says
pub grows_as_shown : (cdb : List ℕ) (reply : Reply) (changes : List Change) (before after : ℕ)
    → ShowsChanges cdb reply changes → after ≡ before + length changes → GrowsAsShown cdb reply before after
grows_as_shown cdb reply changes before after reported grown =
    record {
      few = few_changes before after (length changes) grown reported.few;
      one = λ changing acknowledged. omega (arith, grown, reported.one changing acknowledged);
      none = λ plain fine. omega (arith, grown, nothing changes (reported.none plain fine));
      other = λ plain. omega (arith, grown, nothing changes (reported.other plain));
    }

module _ {M K : Type 0} (state : M → MediumState) (below : Below M Change) (kept : K → KeeperState)
    (keeps : Below K PrState) where
  -- A drive has answered, and the seat counted that. The drive's count has gone from one number to another, and that
  -- was entered for the seat.
  pub seat_grows : (old : DriveState M K) (request : Request) (before counted : SeatState) (reply : Reply)
      (new : DriveState M K) (after : SeatState) (low high : ℕ)
      → (step : Answers state below kept keeps old request reply new)
      → ShowsChanges request.cdb reply step.taken.made.changes → request.nexus ≡ before.nexus
      → low ≡ old.accepted → high ≡ new.accepted → CanEnter low request.cdb reply
      → counted ≡ record before { answered = before.answered + 1 }
      → (low ≡ high → after ≡ counted) → (low ≢ high → after ≡ record counted { amount = counted.amount + 1 })
      → SeatGrows request before reply step.taken.made.changes after
  seat_grows old request before counted reply new after low high step reported host is was enters one same risen =
      let changes = step.taken.made.changes in
      let rose : high ≡ low + length changes =
      omega (
        arith,
        is,
        was,
        count_follows old.accepted new.accepted request.cdb reply changes reported step.taken.counted
            (subst (λ (n : ℕ). CanEnter n request.cdb reply) is enters),
      ) in
      let grown : after.amount ≡ before.amount + length changes =
      rises_by low high counted.amount after.amount (length changes) rose reported.few
      (λ alike. ap (λ (s : SeatState). s.amount) (same alike))
      (λ apart. ap (λ (s : SeatState). s.amount) (risen apart))
      ∙ ap (λ (s : SeatState). s.amount + length changes) one in
      record {
        host = host;
        nexus =
            stays_by low high counted.nexus after.nexus (length changes) rose reported.few
            (λ alike. ap (λ (s : SeatState). s.nexus) (same alike))
            (λ apart. ap (λ (s : SeatState). s.nexus) (risen apart))
            ∙ ap (λ (s : SeatState). s.nexus) one;
        answered =
            stays_by low high counted.answered after.answered (length changes) rose reported.few
            (λ alike. ap (λ (s : SeatState). s.answered) (same alike))
            (λ apart. ap (λ (s : SeatState). s.answered) (risen apart))
            ∙ ap (λ (s : SeatState). s.answered) one;
        moved =
            stays_by low high counted.moved after.moved (length changes) rose reported.few
            (λ alike. ap (λ (s : SeatState). s.moved) (same alike))
            (λ apart. ap (λ (s : SeatState). s.moved) (risen apart))
            ∙ ap (λ (s : SeatState). s.moved) one;
        grown = grown;
        reported = grows_as_shown request.cdb reply changes before.amount after.amount reported grown;
      }

  -- the share of the drive then
  pub share_stands : (old : DriveState M K) (request : Request) (reply : Reply) (new : DriveState M K)
      (low high held held' : ℕ)
      → (step : Answers state below kept keeps old request reply new)
      → ShowsChanges request.cdb reply step.taken.made.changes
      → low ≡ old.accepted → high ≡ new.accepted → CanEnter low request.cdb reply → held ≡ old.accepted
      → (low ≡ high → held' ≡ held) → (low ≢ high → held' ≡ held + 1) → held' ≡ new.accepted
  share_stands old request reply new low high held held' step reported was is enters stood same risen =
      let changes = step.taken.made.changes in
      let rose : high ≡ low + length changes =
      omega (
        arith,
        is,
        was,
        count_follows old.accepted new.accepted request.cdb reply changes reported step.taken.counted
            (subst (λ (n : ℕ). CanEnter n request.cdb reply) was enters),
      ) in
      omega (arith, rises_by low high held held' (length changes) rose reported.few same risen, rose, is, was, stood)
