use Rattle.std.proofs.Common.{◌≡◌, ◌⊎◌, List, Some, false, subst, sym}
use Rattle.volume_core.specs.Volume.{Part}
use Rattle.volume_core.specs.declared.changes.Change.{Change}
use Rattle.cartridge.specs.State.{ClosedCartridge, OpenCartridge}
use Rattle.tape_buffer.specs.declared.holding.Holding.{Holding}
use Rattle.tape_buffer.specs.Invariants.{IsHeld, buffer_of}
use Rattle.tape_buffer.specs.Moves.{IsSafeOrPending, ShowsOn, medium_core}
use Rattle.tape_buffer.specs.State.{IsSettledIn, disks_in, found_in, state_of, torn_in}
use Rattle.tape_buffer.proofs.HeldLemmas.{shows_closed, shows_open, whole_closed, whole_open}
use Rattle.tape_buffer.proofs.holding.known_in.Goals as goal

pub returns-in-Open-clause-shows : goal.returns-in-Open-clause-shows
returns-in-Open-clause-shows g c =
    let state = g.D.Disk.state in
    subst (λ (h : Holding (OpenCartridge g.row.D.Denot × List Change) (ClosedCartridge g.row.D.Denot)).
    ((state_of state (buffer_of h)).unread ≡ false) ⊎ IsSettledIn state (buffer_of h).held → (volume : List Part)
    → (state_of state (buffer_of h)).stored ≡ Some volume
    → ShowsOn state (disks_in (buffer_of h).held) (medium_core state (buffer_of h))) (sym c.in-Open.is)
    (λ sure volume some. shows_open state g.met.D.Disk.is_disk c.in-Open.cartridge c.in-Open.pending
    (subst IsHeld c.in-Open.is c.requires)
    c.known.ensures.contents c.known.ensures.shows)

pub returns-in-Closed-clause-shows : goal.returns-in-Closed-clause-shows
returns-in-Closed-clause-shows g c =
    let state = g.D.Disk.state in
    subst (λ (h : Holding (OpenCartridge g.row.D.Denot × List Change) (ClosedCartridge g.row.D.Denot)).
    ((state_of state (buffer_of h)).unread ≡ false) ⊎ IsSettledIn state (buffer_of h).held → (volume : List Part)
    → (state_of state (buffer_of h)).stored ≡ Some volume
    → ShowsOn state (disks_in (buffer_of h).held) (medium_core state (buffer_of h))) (sym c.in-Closed.is)
    (shows_closed state g.met.D.Disk.is_disk c.in-Closed.shelved c.known-in-Closed.ensures.contents
    c.known-in-Closed.ensures.shows)

pub returns-in-Open-clause-whole : goal.returns-in-Open-clause-whole
returns-in-Open-clause-whole g c =
    let state = g.D.Disk.state in
    subst (λ (h : Holding (OpenCartridge g.row.D.Denot × List Change) (ClosedCartridge g.row.D.Denot)).
    IsSafeOrPending (medium_core state (buffer_of h)) (buffer_of h).pending) (sym c.in-Open.is)
    (whole_open c.in-Open.cartridge c.in-Open.pending c.known.ensures.at_rest)

pub returns-in-Closed-clause-whole : goal.returns-in-Closed-clause-whole
returns-in-Closed-clause-whole g c =
    let state = g.D.Disk.state in
    subst (λ (h : Holding (OpenCartridge g.row.D.Denot × List Change) (ClosedCartridge g.row.D.Denot)).
    IsSafeOrPending (medium_core state (buffer_of h)) (buffer_of h).pending) (sym c.in-Closed.is)
    (whole_closed (found_in state c.in-Closed.shelved) (torn_in state c.in-Closed.shelved))
