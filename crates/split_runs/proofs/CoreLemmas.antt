-- The core of a cartridge, from one medium to another.
use Rattle.std.proofs.Common.{◌≡◌, ◌++◌, List, [], Bool, true, false, Option, None, Some, refl, sym, ◌∙◌, subst}
use Rattle.tape_disk.specs.Disk.{DiskState, IsDisk}
use Rattle.tape_disk.specs.TwoDisks.{AreHonest, TwoDisks}
use Rattle.volume_core.specs.declared.changes.Change.{Change}
use Rattle.cartridge.specs.Contents.{Contents, Start}
use Rattle.cartridge.specs.State.{ClosedCartridge, OpenCartridge}
use Rattle.accepted_changes.specs.Core.{Core, told}
use Rattle.accepted_changes.specs.Device.{two_disks, two_is_device}
use Rattle.accepted_changes.specs.Events.{CoreMoves, core_moves_nowhere, core_moves_on}
use Rattle.accepted_changes.specs.Kinds.{moves_telling}
use Rattle.drive_commands.specs.Execute.{AdvancesIn}
use Rattle.tape_buffer.specs.declared.holding.Holding.{Holding}
use Rattle.tape_buffer.specs.declared.holding.Holding.TheVariants.{Open, Closed, Away}
use Rattle.tape_buffer.specs.Moves.{IsHere, MovesOn, as_told, buffer_below, medium_core, moves_here}
use Rattle.tape_buffer.specs.Rules.{medium_rules}
use Rattle.tape_buffer.specs.State.{BufferState, core_held, disks_in, found_core, found_in, state_held, state_of, torn_in}
use Rattle.split_runs.specs.Cores.{CoreMovesIn}

-- the disks of a medium that may be there are at hand
abbrev pub IsHereIn : {D : Type 0} → Option (BufferState D) → Type 0
IsHereIn None = Unit {0}
IsHereIn (Some medium) = IsHere medium.held

module _ {D : Type 0} (state : D → DiskState) (is_disk : (disk : D) → (state disk).honest → IsDisk (state disk)) where
  are_sound : (disks : TwoDisks D) → AreHonest state disks → IsDisk (state disks.first) × IsDisk (state disks.second)
  are_sound disks honest = (is_disk disks.first honest.0, is_disk disks.second honest.1)

  -- nothing is done
  pub moves_still : (medium : Option (BufferState D)) (t : Bool) → CoreMovesIn state medium t [] medium t
  moves_still None t = refl
  moves_still (Some m) t = by (disks_in m.held)
    where
      core : Core Start Change
      core = as_told t (medium_core state m)

      by : (disks : Option (TwoDisks D)) → MovesOn state disks disks core core []
      by None = refl
      by (Some disks) =
          core_moves_nowhere medium_rules (two_disks state) (two_is_device state) disks core
          (λ honest. are_sound disks honest)

  -- two runs, one after the other
  pub moves_then : (a b c : Option (BufferState D)) (t t' t'' : Bool) (first second : List Change)
      → CoreMovesIn state a t first b t' → CoreMovesIn state b t' second c t''
      → CoreMovesIn state a t (first ++ second) c t''
  moves_then None None None t t' t'' first second one two = (λ i. one i ++ second) ∙ two
  moves_then None None (Some c) t t' t'' first second one two = absurd two
  moves_then None (Some b) c t t' t'' first second one two = absurd one
  moves_then (Some a) None c t t' t'' first second one two = absurd one
  moves_then (Some a) (Some b) None t t' t'' first second one two = absurd two
  moves_then (Some a) (Some b) (Some c) t t' t'' first second one two =
      by (disks_in a.held) (disks_in b.held) (disks_in c.held) one two
    where
      ca : Core Start Change
      ca = as_told t (medium_core state a)

      cb : Core Start Change
      cb = as_told t' (medium_core state b)

      cc' : Core Start Change
      cc' = as_told t'' (medium_core state c)

      by : (x y z : Option (TwoDisks D)) → MovesOn state x y ca cb first → MovesOn state y z cb cc' second
          → MovesOn state x z ca cc' (first ++ second)
      by None None None one two = (λ i. one i ++ second) ∙ two
      by None None (Some z) one two = absurd two
      by None (Some y) z one two = absurd one
      by (Some x) None z one two = absurd one
      by (Some x) (Some y) None one two = absurd two
      by (Some x) (Some y) (Some z) one two =
          core_moves_on medium_rules (two_disks state) (two_is_device state) x y z ca cb cc' first second one two

  -- a fault that was not told is told
  told_is : (buffer : BufferState D) → told (as_told false (medium_core state buffer)) ≡ medium_core state buffer
  told_is buffer = by buffer.held
    where
      found : (contents : Option Contents) (torn : List Change)
          → told (as_told false (found_core contents torn)) ≡ found_core contents torn
      found None torn = refl
      found (Some contents) torn = refl

      by : (held : Holding (OpenCartridge D) (ClosedCartridge D))
          → told (as_told false (core_held state held buffer.pending)) ≡ core_held state held buffer.pending
      by (Open cartridge) = refl
      by (Closed cartridge) = found (found_in state cartridge) (torn_in state cartridge)
      by (Away away) = refl

  pub tells : (medium : Option (BufferState D)) (t : Bool) → CoreMovesIn state medium t [] medium true
  tells None t = refl
  tells (Some m) true = moves_still (Some m) true
  tells (Some m) false = by (disks_in m.held)
    where
      core : Core Start Change
      core = as_told false (medium_core state m)

      by : (disks : Option (TwoDisks D)) → MovesOn state disks disks core (medium_core state m) []
      by None = refl
      by (Some disks) =
          subst (λ (new : Core Start Change). CoreMoves medium_rules (two_disks state) disks disks core new [])
          (told_is m)
          (moves_telling medium_rules (two_disks state) (two_is_device state) disks core
          (λ honest. are_sound disks honest))

  -- a core's marks are those of its medium, whose disks are at hand
  fault_is : (buffer : BufferState D) → IsHere buffer.held
      → (medium_core state buffer).fault ≡ (state_of state buffer).failed
  fault_is buffer here = by buffer.held here
    where
      found : (contents : Option Contents) (torn : List Change) → (found_core contents torn).fault ≡ false
      found None torn = refl
      found (Some contents) torn = refl

      by : (held : Holding (OpenCartridge D) (ClosedCartridge D)) → IsHere held
          → (core_held state held buffer.pending).fault ≡ (state_held state held buffer.pending).failed
      by (Open cartridge) here = refl
      by (Closed cartridge) here = found (found_in state cartridge) (torn_in state cartridge)
      by (Away away) here = absurd here

  stuck_is : (buffer : BufferState D) → (medium_core state buffer).stuck ≡ false
  stuck_is buffer = by buffer.held
    where
      found : (contents : Option Contents) (torn : List Change) → (found_core contents torn).stuck ≡ false
      found None torn = refl
      found (Some contents) torn = refl

      by : (held : Holding (OpenCartridge D) (ClosedCartridge D)) → (core_held state held buffer.pending).stuck ≡ false
      by (Open cartridge) = refl
      by (Closed cartridge) = found (found_in state cartridge) (torn_in state cartridge)
      by (Away away) = refl

  -- where hosts see the medium as it is, its core is as they were told
  pub seen_core : (buffer : BufferState D) (t : Bool) → IsHere buffer.held → t ≡ (state_of state buffer).failed
      → as_told t (medium_core state buffer) ≡ medium_core state buffer
  seen_core buffer true here is = refl
  seen_core buffer false here is =
      let core = medium_core state buffer in
      let works : core.fault ≡ false = fault_is buffer here ∙ sym is in
      let fault : false ≡ core.fault = sym works in
      let stuck : core.fault ≡ core.stuck = works ∙ sym (stuck_is buffer) in
      λ i. record core { fault = fault i; stuck = stuck i }

  -- a whole drive goes on
  pub advanced_moves : (a b : Option (BufferState D)) (made : List Change) (fault : Bool) → IsHereIn a
      → AdvancesIn (buffer_below state) a made fault b → CoreMovesIn state a true made b true
  advanced_moves None None made fault here advances = advances.0
  advanced_moves None (Some b) made fault here advances = absurd advances
  advanced_moves (Some a) None made fault here advances = absurd advances
  advanced_moves (Some a) (Some b) made fault here advances = (moves_here state a b made here advances.moved).0
