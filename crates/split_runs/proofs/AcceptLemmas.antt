-- Changes that hosts accept behind those that wait in the ring, before a fault was told.
use Rattle.std.proofs.Common.{◌≡◌, ◌≤◌, ◌++◌, List, [], ◌∷◌, length, map, false, Option, None, Some, refl, sym, ◌∙◌, ap, subst, arith, length-append, append_assoc}
use Rattle.std.specs.Prelude.{is_some, option_map}
use Rattle.std.proofs.lemmas.List.{append-nil, append_cancel_left, map-append}
use Rattle.tape_disk.specs.Disk.{DiskState, IsDisk}
use Rattle.volume_core.specs.declared.changes.Change.{Change}
use Rattle.volume_core.specs.Medium.{volume_of, volume_or_empty}
use Rattle.volume_core.specs.Stores.{after_append}
use Rattle.volume_core.specs.Volume.{AllApply, Part, after}
use Rattle.cartridge.specs.Contents.{changes_since, volume_made}
use Rattle.cartridge.specs.State.{ClosedCartridge, OpenCartridge}
use Rattle.accepted_changes.specs.Core.{IsCore}
use Rattle.accepted_changes.specs.Device.{two_disks, two_is_device}
use Rattle.accepted_changes.specs.Events.{CoreMoves, core_moves_nowhere, core_moves_on}
use Rattle.tape_buffer.specs.declared.holding.Holding.{Holding}
use Rattle.tape_buffer.specs.declared.holding.Holding.TheVariants.{Open, Closed, Away}
use Rattle.tape_buffer.specs.Moves.{IsHere, MovesOn, as_told, medium_core, with_changes}
use Rattle.tape_buffer.specs.Rules.{medium_rules}
use Rattle.tape_buffer.specs.State.{BufferState, core_held, disks_in, found_core, found_in, open_core, state_held, torn_in}
use Rattle.tape_buffer.specs.Taking.{DisksState}
use Rattle.bay_moves.specs.Bays.{KeepsCartridgeIn}
use Rattle.split_bay.specs.declared.items.Item.{Item}
use Rattle.split_bay.specs.declared.items.Item.TheVariants.{Begins, Sent}
use Rattle.split_bay.specs.Backs.{FollowsIn}
use Rattle.split_bay.specs.Spans.{KeepsLimits, Span, medium_begun, medium_seen, span_of, apply_rest, span_more}
use Rattle.tape_buffer.specs.Accepting.{accepts_one}
use Rattle.split_runs.specs.Cores.{CoreMovesIn}

-- the changes among some items
abbrev changes_in : List Item → List Change
changes_in [] = []
changes_in (Sent change ∷ items) = change ∷ changes_in items
changes_in (Begins noted ∷ items) = changes_in items

changes_sent : (changes : List Change) → changes_in (map Sent changes) ≡ changes
changes_sent [] = refl
changes_sent (change ∷ changes) = ap (λ (l : List Change). change ∷ l) (changes_sent changes)

-- what was sent behind the same items is the same
pub sent_cancel : (received : List Item) (xs ys : List Change)
    → received ++ map Sent xs ≡ received ++ map Sent ys → xs ≡ ys
sent_cancel received xs ys same =
    sym (changes_sent xs)
    ∙ ap (λ (l : List Item). changes_in l) (append_cancel_left received (map Sent xs) (map Sent ys) same)
    ∙ changes_sent ys

-- some changes are sent behind those that wait
pub sent_behind : (received : List Item) (waiting made : List Change)
    → (received ++ map Sent waiting) ++ map Sent made ≡ received ++ map Sent (waiting ++ made)
sent_behind received waiting made =
    append_assoc received (map Sent waiting) (map Sent made)
    ∙ ap (λ (l : List Item). received ++ l) (sym (map-append Sent waiting made))

-- a span begins as it did, whatever was sent since
pub begins_same : (sent : List Item) (changes : List Change)
    → (span_of (sent ++ map Sent changes)).begin ≡ (span_of sent).begin
begins_same sent changes = ap (λ (s : Span). s.begin) (span_more sent changes)

-- where nothing more is sent than nothing, nothing is
pub none_of : (l : List Change) → length l ≤ 0 → l ≡ []
none_of [] few = refl
none_of (x ∷ xs) few = absurd (omega (arith, few))

module _ {D : Type 0} (state : D → DiskState) (is_disk : (disk : D) → (state disk).honest → IsDisk (state disk)) where
  -- changes are accepted over an open cartridge, one after another
  taken_open : (c : OpenCartridge D) (pending changes : List Change)
      → AllApply (after (volume_made c.contents) pending) changes → IsCore (open_core c pending)
      → CoreMoves medium_rules (two_disks state) c.disks c.disks (as_told false (open_core c pending))
      (as_told false (open_core c (pending ++ changes))) changes
  taken_open c pending [] apply core =
      subst
      (λ (l : List Change).
      CoreMoves medium_rules (two_disks state) c.disks c.disks (as_told false (open_core c pending))
      (as_told false (open_core c l)) [])
      (sym (append-nil pending))
      (core_moves_nowhere medium_rules (two_disks state) (two_is_device state) c.disks
      (as_told false (open_core c pending))
      (λ honest. (is_disk c.disks.first honest.0, is_disk c.disks.second honest.1)))
  taken_open c pending (change ∷ changes) apply core =
      let next = pending ++ change ∷ [] in
      subst
      (λ (l : List Change).
      CoreMoves medium_rules (two_disks state) c.disks c.disks (as_told false (open_core c pending))
      (as_told false (open_core c l)) (change ∷ changes))
      (append_assoc pending (change ∷ []) changes)
      (core_moves_on medium_rules (two_disks state) (two_is_device state) c.disks c.disks c.disks
      (as_told false (open_core c pending)) (as_told false (open_core c next))
      (as_told false (open_core c (next ++ changes)))
      (change ∷ []) changes (accepts_one c pending state is_disk false c.failed change refl core apply.0)
      (taken_open c next changes
      (subst (λ (v : List Part). AllApply v changes)
      (sym (after_append (volume_made c.contents) pending (change ∷ []))) apply.1)
      (record {
        safe = core.safe;
        stored =
            omega (
              arith,
              core.stored,
              length-append (changes_since c.contents) pending,
              length-append (changes_since c.contents) next,
              length-append pending (change ∷ []),
            );
      })))

  -- over whatever is held; to one that is not awake nothing is sent
  taken_held : (held : Holding (OpenCartridge D) (ClosedCartridge D)) (pending changes : List Change)
      → AllApply (volume_of (state_held state held pending)) changes
      → ((state_held state held pending).awake ≡ false → changes ≡ []) → IsCore (core_held state held pending)
      → IsHere held
      → MovesOn state (disks_in held) (disks_in held) (as_told false (core_held state held pending))
      (as_told false (core_held state held (pending ++ changes))) changes
  taken_held (Open c) pending changes apply none core here = taken_open c pending changes apply core
  taken_held (Closed c) pending changes apply none core here =
      let rests = as_told false (found_core (found_in state c) (torn_in state c)) in
      subst
      (λ (l : List Change). CoreMoves medium_rules (two_disks state) c.disks c.disks rests rests l)
      (sym (none refl))
      (core_moves_nowhere medium_rules (two_disks state) (two_is_device state) c.disks rests
      (λ honest. (is_disk c.disks.first honest.0, is_disk c.disks.second honest.1)))
  taken_held (Away away) pending changes apply none core here = absurd here

  -- a core with more pending
  core_behind : (held : Holding (OpenCartridge D) (ClosedCartridge D)) (pending more : List Change)
      → IsCore (core_held state held pending) → IsCore (core_held state held (pending ++ more))
  core_behind (Open c) pending more core =
      record {
        safe = core.safe;
        stored =
            omega (
              arith,
              core.stored,
              length-append (changes_since c.contents) pending,
              length-append (changes_since c.contents) (pending ++ more),
              length-append pending more,
            );
      }
  core_behind (Closed c) pending more core = record { safe = core.safe; stored = core.stored }
  core_behind (Away away) pending more core = record { safe = core.safe; stored = core.stored }

  -- what applies behind what is seen applies behind what is there
  apply_behind : (held : Holding (OpenCartridge D) (ClosedCartridge D)) (pending more made : List Change)
      → AllApply (after (volume_of (state_held state held pending)) more) made
      → ((state_held state held pending).awake ≡ false → made ≡ []) → IsHere held
      → AllApply (volume_of (state_held state held (pending ++ more))) made
  apply_behind (Open c) pending more made apply none here =
      subst (λ (v : List Part). AllApply v made) (sym (after_append (volume_made c.contents) pending more)) apply
  apply_behind (Closed c) pending more made apply none here =
      subst (λ (l : List Change). AllApply (volume_of (state_held state (Closed c) (pending ++ more))) l)
      (sym (none refl)) tt
  apply_behind (Away away) pending more made apply none here = absurd here

  still_asleep : (held : Holding (OpenCartridge D) (ClosedCartridge D)) (pending more : List Change)
      → (state_held state held (pending ++ more)).awake ≡ (state_held state held pending).awake
  still_asleep (Open c) pending more = refl
  still_asleep (Closed c) pending more = refl
  still_asleep (Away away) pending more = refl

  -- what is accepted behind what waits, before a fault was told
  pub accepts_behind : (medium : Option (DisksState D)) (received : List Item) (waiting made : List Change)
      → FollowsIn state medium (span_of received)
      → KeepsCartridgeIn state (option_map (λ (m : DisksState D). m.buffer) medium)
      → KeepsLimits (span_of (received ++ map Sent (waiting ++ made)))
      → (is_some (span_of received).begin.seen ≡ false → made ≡ [])
      → CoreMovesIn state (option_map (λ (m : DisksState D). with_changes m.buffer waiting) medium) false made
      (option_map (λ (m : DisksState D). with_changes m.buffer (waiting ++ made)) medium) false
  accepts_behind None received waiting made follows core limits none = none (ap (λ s. is_some s) follows)
  accepts_behind (Some m) received waiting made follows core limits none =
      subst
      (λ (l : List Change).
      MovesOn state (disks_in b.held) (disks_in b.held) (as_told false (medium_core state (with_changes b waiting)))
      (as_told false (medium_core state (record b { pending = l }))) made)
      (append_assoc b.pending waiting made)
      (taken_held b.held (b.pending ++ waiting) made
      (apply_behind b.held b.pending waiting made apply asleep core.hand)
      (λ awake. asleep (sym (still_asleep b.held b.pending waiting) ∙ awake))
      (core_behind b.held b.pending waiting core.core) core.hand)
    where
      b : BufferState D
      b = m.buffer

      span : Span
      span = span_of received

      within : KeepsLimits (record { begin = span.begin; since = span.since ++ (waiting ++ made) })
      within = subst KeepsLimits (span_more received (waiting ++ made)) limits

      begun : List Part
      begun = volume_of (medium_begun span)

      seen : volume_of (medium_seen span) ≡ after begun span.since
      seen = after_append (volume_or_empty (medium_begun span).stored) (medium_begun span).pending span.since

      apply : AllApply (after (volume_of (state_held state b.held b.pending)) waiting) made
      apply =
          subst (λ (v : List Part). AllApply (after v waiting) made) (sym (follows.looked.volume ∙ seen))
          (apply_rest (after begun span.since) waiting made
          (apply_rest begun span.since (waiting ++ made) within.apply))

      asleep : (state_held state b.held b.pending).awake ≡ false → made ≡ []
      asleep awake =
          none_of made
          (omega (
            arith,
            within.few,
            follows.rests (sym follows.looked.awake ∙ awake),
            length-append span.since (waiting ++ made),
            length-append waiting made,
          ))
