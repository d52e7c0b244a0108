-- What a contract sees below a buffered medium: its two disks, and by which steps it went on.
use Rattle.std.specs.Prelude.{◌≡◌, ◌++◌, ℕ, List, [], Option, None, Some, Bool, true, false, take, refl}
use Rattle.std.proofs.Common.{◌∙◌}
use Rattle.vtl_base.specs.Below.{Below}
use Rattle.tape_disk.specs.Disk.{DiskState, IsDisk}
use Rattle.tape_disk.specs.Moments.{LeavesOnly, no_call}
use Rattle.tape_disk.specs.TwoDisks.{AreHonest, EachOfTwo, MayLeave, TwoDisks, TwoLeave, failures_of, two_rest_still}
use Rattle.volume_core.specs.declared.changes.Change.{Change}
use Rattle.cartridge.specs.Contents.{Start}
use Rattle.cartridge.specs.State.{ClosedCartridge, OpenCartridge}
use Rattle.cartridge.specs.Disks.{EachStays}
use Rattle.accepted_changes.specs.Core.{Core}
use Rattle.accepted_changes.specs.Device.{two_disks, two_is_device}
use Rattle.accepted_changes.specs.Events.{CoreMoves, ShowsCore, core_moves_nowhere, core_moves_on}
use Rattle.tape_buffer.specs.declared.aways.Away.{Away}
use Rattle.tape_buffer.specs.declared.holding.Holding.{Holding}
use Rattle.tape_buffer.specs.declared.holding.Holding.TheVariants as Holdings
use Rattle.tape_buffer.specs.Aways.{MovesAway, away_moves_nowhere, away_moves_on, loose_in, takes_loose}
use Rattle.tape_buffer.specs.Rules.{medium_rules}
use Rattle.tape_buffer.specs.State.{BufferState, core_held, disks_in}

-- while the device works and nothing was stopped, all that is stored is safe, and what was accepted beside it is
-- pending (own)
abbrev pub IsSafeOrPending : Core Start Change → List Change → Type 0
IsSafeOrPending core pending =
    core.fault ≡ false → core.recovering ≡ false
    → (core.safe ≡ core.stored) × (core.accepted ≡ take core.safe core.accepted ++ pending)

-- The core of a medium whose fault, if there is one, was reported to its hosts, or was not: then it is stuck. It still
-- accepts changes, and stores none (own).
abbrev pub as_told : {S C : Type 0} → Bool → Core S C → Core S C
as_told true core = core
as_told false core = record core { fault = false; stuck = core.fault }

-- a medium with these changes pending more (own)
abbrev pub with_changes : {D : Type 0} → BufferState D → List Change → BufferState D
with_changes medium changes = record medium { pending = medium.pending ++ changes }

-- what is known of a medium whose disks are away; None where they are at hand (own)
abbrev pub away_in : {C S : Type 0} → Holding C S → Option Away
away_in (Holdings.Open cartridge) = None
away_in (Holdings.Closed cartridge) = None
away_in (Holdings.Away away) = Some away

-- the disks are at hand (own)
abbrev pub IsHere : {C S : Type 0} → Holding C S → Type 0
IsHere (Holdings.Open cartridge) = Unit {0}
IsHere (Holdings.Closed cartridge) = Unit {0}
IsHere (Holdings.Away away) = ⊥

-- the disks are away (own)
abbrev pub IsAway : {C S : Type 0} → Holding C S → Type 0
IsAway (Holdings.Open cartridge) = ⊥
IsAway (Holdings.Closed cartridge) = ⊥
IsAway (Holdings.Away away) = Unit {0}

-- whether a change with a block of so many bytes is taken without the disks; with them at hand, never (own)
abbrev pub alone_held : {C S : Type 0} → Holding C S → ℕ → Bool
alone_held (Holdings.Open cartridge) bytes = false
alone_held (Holdings.Closed cartridge) bytes = false
alone_held (Holdings.Away away) bytes = takes_loose away.left (loose_in away.loose) bytes

-- the same of a medium (own)
abbrev pub takes_alone_in : {D : Type 0} → BufferState D → ℕ → Bool
takes_alone_in medium bytes = alone_held medium.held bytes

module _ {D : Type 0} (state : D → DiskState) where
  -- what a medium has accepted, and how much of it is stored and safe (own)
  abbrev pub medium_core : BufferState D → Core Start Change
  medium_core buffer = core_held state buffer.held buffer.pending

  -- how often a disk of the two failed (own)
  abbrev pub failures_on : Option (TwoDisks D) → ℕ
  failures_on None = 0
  failures_on (Some disks) = failures_of state disks

  -- both disks keep the promises of a disk (own)
  abbrev pub HonestOn : Option (TwoDisks D) → Type 0
  HonestOn None = Unit {0}
  HonestOn (Some disks) = AreHonest state disks

  -- from one core to the other just these were accepted, over these disks (own)
  abbrev pub MovesOn :
      Option (TwoDisks D) → Option (TwoDisks D) → Core Start Change → Core Start Change → List Change → Type 0
  MovesOn (Some disks) (Some disks') old new made = CoreMoves medium_rules (two_disks state) disks disks' old new made
  MovesOn None None old new made = made ≡ []
  MovesOn _ _ old new made = ⊥

  -- the same of two media by whether their disks are away; no call takes the disks away, or brings them back (own)
  abbrev pub MovesIn :
      Option Away → Option Away → BufferState D → List Change → BufferState D → Type 0
  MovesIn None None old made new =
      MovesOn (disks_in old.held) (disks_in new.held) (medium_core old) (medium_core new) made
  MovesIn (Some old) (Some new) before made after = MovesAway old made new
  MovesIn _ _ old made new = ⊥

  -- from one medium to the other just these were accepted (own)
  abbrev pub MediumMoves : BufferState D → List Change → BufferState D → Type 0
  MediumMoves old made new = MovesIn (away_in old.held) (away_in new.held) old made new

  -- the same of a medium whose fault, if it has one, was not reported to its hosts (own)
  abbrev pub MovesUnreported : BufferState D → List Change → BufferState D → Type 0
  MovesUnreported old made new =
      MovesOn (disks_in old.held) (disks_in new.held) (as_told false (medium_core old))
      (as_told false (medium_core new)) made

  -- Steps that accept nothing lead from one medium to the other, whatever more was accepted behind what is pending: of
  -- that nothing is dropped, and nothing stored. So where `more` is not empty, no stop is among the steps: a stop drops
  -- what is not stored, and nothing is accepted again (own).
  abbrev pub StoresBehind : BufferState D → BufferState D → Type 0
  StoresBehind old new = (more : List Change) → MovesUnreported (with_changes old more) [] (with_changes new more)

  -- over the same two disks: at each moment of them a crash leaves what it might have left before (own)
  abbrev pub LeavesAloneOn : Option (TwoDisks D) → Option (TwoDisks D) → Type 0
  LeavesAloneOn (Some disks) (Some disks') = AreHonest state disks → TwoLeave state disks disks' (MayLeave state disks)
  LeavesAloneOn None None = Unit {0}
  LeavesAloneOn _ _ = ⊥

  -- from one medium to the other nothing was written (own)
  abbrev pub LeavesAlone : BufferState D → BufferState D → Type 0
  LeavesAlone old new = LeavesAloneOn (disks_in old.held) (disks_in new.held)

  -- what is seen below a buffered medium: the failures and the honesty of its disks, whether they are at hand, its
  -- steps, and that nothing is written (own)
  abbrev pub buffer_below : Below (BufferState D) Change
  buffer_below =
      record {
        failures = λ buffer. failures_on (disks_in buffer.held);
        honest = λ buffer. HonestOn (disks_in buffer.held);
        at_hand = λ buffer. IsHere buffer.held;
        moves = MediumMoves;
        left_alone = LeavesAlone;
      }

  -- each pair of images that a crash now may leave gives what is safe, or what is stored (own)
  abbrev pub ShowsOn : Option (TwoDisks D) → Core Start Change → Type 0
  ShowsOn None core = Unit {0}
  ShowsOn (Some disks) core = AreHonest state disks → EachOfTwo state disks (ShowsCore medium_rules core)

  -- The same of each of the two that is honest, whatever the other one is (own).
  abbrev pub LeavesEachAloneOn : Option (TwoDisks D) → Option (TwoDisks D) → Type 0
  LeavesEachAloneOn (Some disks) (Some disks') = EachStays state disks disks'
  LeavesEachAloneOn None None = Unit {0}
  LeavesEachAloneOn _ _ = ⊥

  -- from one medium to the other nothing was written to a disk that is honest, whatever the other one is (own)
  abbrev pub LeavesEachAlone : BufferState D → BufferState D → Type 0
  LeavesEachAlone old new = LeavesEachAloneOn (disks_in old.held) (disks_in new.held)

  -- a run without a call writes nothing
  pub leaves_alone_nowhere : (buffer : BufferState D) → LeavesAlone buffer buffer
  leaves_alone_nowhere buffer = by (disks_in buffer.held)
    where
      by : (disks : Option (TwoDisks D)) → LeavesAloneOn disks disks
      by None = tt
      by (Some disks) = λ honest. two_rest_still state disks (MayLeave state disks) (λ images left. left)

  -- a run without a call writes nothing to either disk
  pub leaves_each_alone_nowhere : ((disk : D) → (state disk).honest → IsDisk (state disk))
      → (buffer : BufferState D) → LeavesEachAlone buffer buffer
  leaves_each_alone_nowhere is_disk buffer = by (disks_in buffer.held)
    where
      stays : (disk : D) → (state disk).honest → LeavesOnly (state disk) (state disk) (state disk).may_leave
      stays disk honest = no_call (state disk) (state disk).may_leave (is_disk disk honest) (λ image left. left)

      by : (disks : Option (TwoDisks D)) → LeavesEachAloneOn disks disks
      by None = tt
      by (Some disks) = record { first = stays disks.first; second = stays disks.second }

  -- a run without a call accepts nothing
  pub medium_moves_nowhere : ((disk : D) → (state disk).honest → IsDisk (state disk))
      → (buffer : BufferState D) → MediumMoves buffer [] buffer
  medium_moves_nowhere is_disk buffer = by (away_in buffer.held)
    where
      on : (disks : Option (TwoDisks D)) → MovesOn disks disks (medium_core buffer) (medium_core buffer) []
      on None = refl
      on (Some disks) =
          core_moves_nowhere medium_rules (two_disks state) (two_is_device state) disks (medium_core buffer)
          (λ honest. (is_disk disks.first honest.0, is_disk disks.second honest.1))

      by : (away : Option Away) → MovesIn away away buffer [] buffer
      by None = on (disks_in buffer.held)
      by (Some away) = away_moves_nowhere away

  -- nor does it where a fault was not reported
  pub unreported_moves_nowhere : ((disk : D) → (state disk).honest → IsDisk (state disk))
      → (buffer : BufferState D) → MovesUnreported buffer [] buffer
  unreported_moves_nowhere is_disk buffer = by (disks_in buffer.held)
    where
      core : Core Start Change
      core = as_told false (medium_core buffer)

      by : (disks : Option (TwoDisks D)) → MovesOn disks disks core core []
      by None = refl
      by (Some disks) =
          core_moves_nowhere medium_rules (two_disks state) (two_is_device state) disks core
          (λ honest. (is_disk disks.first honest.0, is_disk disks.second honest.1))

  -- a run without a call stores nothing, whatever more is accepted
  pub stores_behind_nowhere : ((disk : D) → (state disk).honest → IsDisk (state disk))
      → (buffer : BufferState D) → StoresBehind buffer buffer
  stores_behind_nowhere is_disk buffer more = unreported_moves_nowhere is_disk (with_changes buffer more)

  -- from one core to the next, one run after the other accepts the changes of both
  pub cores_move_on : (x y z : Option (TwoDisks D)) (a b c : Core Start Change) (first second : List Change)
      → MovesOn x y a b first → MovesOn y z b c second → MovesOn x z a c (first ++ second)
  cores_move_on None None None a b c first second one two = (λ i. one i ++ second) ∙ two
  cores_move_on None None (Some z) a b c first second one two = absurd two
  cores_move_on None (Some y) z a b c first second one two = absurd one
  cores_move_on (Some x) None z a b c first second one two = absurd one
  cores_move_on (Some x) (Some y) None a b c first second one two = absurd two
  cores_move_on (Some x) (Some y) (Some z) a b c first second one two =
      core_moves_on medium_rules (two_disks state) (two_is_device state) x y z a b c first second one two

  -- so do two runs of which a fault was not reported
  pub unreported_moves_on : (a b c : BufferState D) (first second : List Change)
      → MovesUnreported a first b → MovesUnreported b second c → MovesUnreported a (first ++ second) c
  unreported_moves_on a b c first second one two =
      cores_move_on (disks_in a.held) (disks_in b.held) (disks_in c.held) (as_told false (medium_core a))
      (as_told false (medium_core b)) (as_told false (medium_core c)) first second one two

  -- two runs, one after the other, accept the changes of both
  pub medium_moves_on : (a b c : BufferState D) (first second : List Change)
      → MediumMoves a first b → MediumMoves b second c → MediumMoves a (first ++ second) c
  medium_moves_on a b c first second = by (away_in a.held) (away_in b.held) (away_in c.held)
    where
      by : (x y z : Option Away) → MovesIn x y a first b → MovesIn y z b second c → MovesIn x z a (first ++ second) c
      by None None None one two =
          cores_move_on (disks_in a.held) (disks_in b.held) (disks_in c.held) (medium_core a) (medium_core b)
          (medium_core c) first second one two
      by None None (Some z) one two = absurd two
      by None (Some y) z one two = absurd one
      by (Some x) None z one two = absurd one
      by (Some x) (Some y) None one two = absurd two
      by (Some x) (Some y) (Some z) one two = away_moves_on x y z first second one two

  -- a medium whose disks are at hand moves by what is on them, and they are at hand still
  pub moves_here : (old new : BufferState D) (made : List Change) → IsHere old.held → MediumMoves old made new
      → MovesOn (disks_in old.held) (disks_in new.held) (medium_core old) (medium_core new) made × IsHere new.held
  moves_here old new made here moves = by old.held new.held here moves
    where
      by : (x y : Holding (OpenCartridge D) (ClosedCartridge D)) → IsHere x
          → MovesIn (away_in x) (away_in y) old made new
          → MovesOn (disks_in old.held) (disks_in new.held) (medium_core old) (medium_core new) made × IsHere y
      by (Holdings.Open c) (Holdings.Open c') here moves = (moves, tt)
      by (Holdings.Open c) (Holdings.Closed c') here moves = (moves, tt)
      by (Holdings.Closed c) (Holdings.Open c') here moves = (moves, tt)
      by (Holdings.Closed c) (Holdings.Closed c') here moves = (moves, tt)
      by (Holdings.Open c) (Holdings.Away a) here moves = absurd moves
      by (Holdings.Closed c) (Holdings.Away a) here moves = absurd moves
      by (Holdings.Away a) y here moves = absurd here

  -- disks that are seen are at hand
  pub seen_here : (held : Holding (OpenCartridge D) (ClosedCartridge D)) (disks : TwoDisks D)
      → disks_in held ≡ Some disks → IsHere held
  seen_here (Holdings.Open c) disks is = tt
  seen_here (Holdings.Closed c) disks is = tt
  seen_here (Holdings.Away a) disks is = absurd (cc)
