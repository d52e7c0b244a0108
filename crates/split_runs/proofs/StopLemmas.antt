-- What was acknowledged by both halves is kept over any list of later calls.
use Rattle.std.proofs.Common.{◌≡◌, ◌≤◌, ◌++◌, ℕ, List, [], length, take, Bool, true, false, Option, None, Some, sym, ◌∙◌, ap, subst, arith, append_assoc, inl, inr, ⊎_elim}
use Rattle.std.specs.Prelude.{option_map}
use Rattle.std.proofs.lemmas.List.{append-nil, take-append-le, take_all}
use Rattle.tape_disk.specs.Disk.{DiskState, IsDisk}
use Rattle.tape_disk.specs.TwoDisks.{AreHonest, EachOfTwo, Images, TwoDisks}
use Rattle.scsi_sense.specs.declared.replies.Reply.{Reply}
use Rattle.volume_core.specs.declared.changes.Change.{Change}
use Rattle.volume_core.specs.Medium.{MediumState}
use Rattle.cartridge.specs.Contents.{Start, changes_since, start_of}
use Rattle.cartridge.specs.State.{ClosedCartridge, OpenCartridge}
use Rattle.accepted_changes.specs.Core.{CanAcknowledge, Core, IsCore, IsPrefix}
use Rattle.accepted_changes.specs.Device.{two_disks, two_is_device}
use Rattle.accepted_changes.specs.Events.{ShowsCore}
use Rattle.accepted_changes.specs.Laws.{CrashesKeepAcknowledged, EventsKeepBase}
use Rattle.drive_commands.specs.Execute.{HonestIn}
use Rattle.drive_commands.specs.State.{machine_of, medium_in}
use Rattle.drive_commands.specs.Synchronize.{Acknowledges, IsSynchronizing}
use Rattle.drive_commands.specs.Work.{Request}
use Rattle.aptpl_store.specs.Kept.{store_kept}
use Rattle.tape_buffer.specs.declared.holding.Holding.{Holding}
use Rattle.tape_buffer.specs.declared.holding.Holding.TheVariants.{Open, Closed, Away}
use Rattle.tape_buffer.specs.Moves.{HonestOn, MovesOn, as_told, buffer_below, medium_core, with_changes}
use Rattle.tape_buffer.specs.Rules.{medium_rules}
use Rattle.tape_buffer.specs.State.{BufferState, core_held, disks_in, open_core, state_of}
use Rattle.tape_buffer.specs.Taking.{DisksState, LendsFrom, LendsHeld}
use Rattle.bay_moves.specs.Bays.{IsSafeIn, KeepsCartridgeIn}
use Rattle.bay_moves.specs.Cartridges.{IsKnown}
use Rattle.split_runs.specs.Calls.{HalvesState, KeepsHalves, StepsBoth, is_told, whole_medium}
use Rattle.split_runs.specs.Cores.{AcknowledgedStays, CoreMovesIn, LeavesAcknowledged, StopsOfHalvesKeep}
use Rattle.split_runs.proofs.CoreLemmas.{moves_then, seen_core}
use Rattle.split_runs.proofs.PartLemmas.{ToldAs, WentFrom, begun_parts, joined_moves, went_from}
use Rattle.split_runs.proofs.RunLemmas.{both_moves, held_keeps, run_moves}

-- images give the same of an equal list
gives_as : (start : Start) (xs ys : List Change) (images : Images) → ys ≡ xs
    → medium_rules.gives start xs images → medium_rules.gives start ys images
gives_as start xs ys images same gives =
    subst (λ (l : List Change). medium_rules.gives start l images) (sym same) gives

module _ {D : Type 0} (state : D → DiskState) (is_disk : (disk : D) → (state disk).honest → IsDisk (state disk)) where
  -- the images of a core give what they gave, with more pending
  shows_behind : (held : Holding (OpenCartridge D) (ClosedCartridge D)) (pending more : List Change) (t : Bool)
      → IsCore (core_held state held pending) → (images : Images)
      → ShowsCore medium_rules (core_held state held pending) images
      → ShowsCore medium_rules (as_told t (core_held state held (pending ++ more))) images
  shows_behind (Open c) pending more t core images shows = by t
    where
      stays : (n : ℕ) → n ≤ length (changes_since c.contents ++ pending)
          → take n (changes_since c.contents ++ (pending ++ more)) ≡ take n (changes_since c.contents ++ pending)
      stays n le =
          ap (λ (l : List Change). take n l) (sym (append_assoc (changes_since c.contents) pending more))
          ∙ take-append-le n (changes_since c.contents ++ pending) more le

      there : ShowsCore medium_rules (open_core c (pending ++ more)) images
      there =
          ⊎_elim
          (λ g. inl (gives_as (start_of c.contents)
          (take (open_core c pending).safe (changes_since c.contents ++ pending))
          (take (open_core c pending).safe (changes_since c.contents ++ (pending ++ more))) images
          (stays (open_core c pending).safe (omega (arith, core.safe, core.stored))) g))
          (λ g. inr (gives_as (start_of c.contents)
          (take (open_core c pending).stored (changes_since c.contents ++ pending))
          (take (open_core c pending).stored (changes_since c.contents ++ (pending ++ more))) images
          (stays (open_core c pending).stored core.stored) g))
          shows

      by : (b : Bool) → ShowsCore medium_rules (as_told b (open_core c (pending ++ more))) images
      by true = there
      by false = there
  shows_behind (Closed c) pending more true core images shows = shows
  shows_behind (Closed c) pending more false core images shows = shows
  shows_behind (Away away) pending more true core images shows = shows
  shows_behind (Away away) pending more false core images shows = shows

  -- a medium over honest disks, of whose fault hosts were told or not, shows its core
  abbrev pub ShownAs : Option (BufferState D) → Bool → Type 0
  ShownAs None t = ⊥
  ShownAs (Some m) t =
      (disks : TwoDisks D) × (disks_in m.held ≡ Some disks) × AreHonest state disks
      × EachOfTwo state disks (ShowsCore medium_rules (as_told t (medium_core state m)))

  pub shown_whole : (medium : BufferState D) (more : List Change) (t : Bool) → IsKnown state medium
      → ShownAs (Some (with_changes medium more)) t
  shown_whole medium more t known = (
    known.disks,
    known.disks_are,
    known.honest,
    (two_is_device state).each_weakened known.disks (ShowsCore medium_rules (medium_core state medium))
        (ShowsCore medium_rules (as_told t (medium_core state (with_changes medium more)))) known.shows
        (λ images shows. shows_behind medium.held medium.pending more t known.core images shows),
  )

  -- all that a medium accepted may be acknowledged, if there is one
  abbrev SafeAs : Option (BufferState D) → Bool → Type 0
  SafeAs None t = Unit {0}
  SafeAs (Some m) t =
      IsCore (as_told t (medium_core state m)) × CanAcknowledge (as_told t (medium_core state m))

  -- honesty stays
  pub honest_then : (a b : Option (BufferState D)) (t t' : Bool) (made : List Change)
      → CoreMovesIn state a t made b t' → HonestIn (buffer_below state) a → HonestIn (buffer_below state) b
  honest_then None None t t' made moves honest = tt
  honest_then None (Some b) t t' made moves honest = absurd moves
  honest_then (Some a) None t t' made moves honest = absurd moves
  honest_then (Some a) (Some b) t t' made moves honest = by (disks_in a.held) (disks_in b.held) moves honest
    where
      by : (x y : Option (TwoDisks D))
          → MovesOn state x y (as_told t (medium_core state a)) (as_told t' (medium_core state b)) made
          → HonestOn state x → HonestOn state y
      by None None moves honest = tt
      by None (Some y) moves honest = absurd moves
      by (Some x) None moves honest = absurd moves
      by (Some x) (Some y) moves honest = moves.keeps.stays_honest honest

  shown_honest : (a : Option (BufferState D)) (t : Bool) → ShownAs a t → HonestIn (buffer_below state) a
  shown_honest None t shown = absurd shown
  shown_honest (Some m) t shown = subst (HonestOn state) (sym shown.1) shown.2

  -- a medium whose disks went away has the core that it had
  went_core : (old : BufferState D) (new : DisksState D) → LendsFrom old new
      → medium_core state new.buffer ≡ medium_core state old
  went_core old new lends =
      ap (λ (l : List Change). core_held state new.buffer.held l) lends.pending
      ∙ by old.held new.buffer.held lends.held
    where
      by : (h h' : Holding (OpenCartridge D) (ClosedCartridge D)) → LendsHeld h old.pending h' new.left
          → core_held state h' old.pending ≡ core_held state h old.pending
      by (Open a) (Open b) held = ap (λ (c : OpenCartridge D). open_core c old.pending) held.same
      by (Closed a) (Closed b) held =
          ap (λ (c : ClosedCartridge D). core_held state (Closed c) old.pending) held.0
      by (Open a) (Closed b) held = absurd held
      by (Open a) (Away b) held = absurd held
      by (Closed a) (Open b) held = absurd held
      by (Closed a) (Away b) held = absurd held
      by (Away a) h' held = absurd held

  went_safe : (old : Option (BufferState D)) (new : Option (DisksState D)) (t : Bool) → WentFrom state old new
      → ToldAs state t old → IsSafeIn state old
      → KeepsCartridgeIn state (option_map (λ (m : DisksState D). m.buffer) new)
      → SafeAs (option_map (λ (m : DisksState D). with_changes m.buffer []) new) t
  went_safe None None t went is safe keeps = tt
  went_safe None (Some new) t went is safe keeps = absurd went
  went_safe (Some old) None t went is safe keeps = absurd went
  went_safe (Some old) (Some new) t went is safe keeps =
      let b = new.buffer in
      let all : as_told t (medium_core state (with_changes b [])) ≡ as_told t (medium_core state b) =
      ap (λ (l : List Change). as_told t (medium_core state (record b { pending = l }))) (append-nil b.pending) in
      let same : as_told t (medium_core state (with_changes b [])) ≡ medium_core state b =
      all ∙ seen_core state is_disk b t keeps.hand (is ∙ sym (ap (λ (m : MediumState). m.failed) went.1)) in (
        subst (λ (core : Core Start Change). IsCore core) (sym same) keeps.core,
        subst (λ (core : Core Start Change). CanAcknowledge core) (sym (same ∙ went_core old new went.0)) safe,
      )

  -- from an acknowledgement on
  acknowledged : CrashesKeepAcknowledged medium_rules (two_disks state)
      → EventsKeepBase medium_rules (two_disks state)
      → (a b c : Option (BufferState D)) (t t' t'' : Bool) (first second : List Change)
      → CoreMovesIn state a t first b t' → CoreMovesIn state b t' second c t'' → ShownAs a t → SafeAs b t'
      → AcknowledgedStays state b t' second c t''
  acknowledged crash base None b c t t' t'' first second one two shown safe = absurd shown
  acknowledged crash base (Some a) None c t t' t'' first second one two shown safe = absurd one
  acknowledged crash base (Some a) (Some b) None t t' t'' first second one two shown safe = absurd two
  acknowledged crash base (Some a) (Some b) (Some c) t t' t'' first second one two shown safe =
      by (disks_in b.held) (disks_in c.held)
      (subst (λ (x : Option (TwoDisks D)). MovesOn state x (disks_in b.held) ca cb first) shown.1 one) two
    where
      ca : Core Start Change
      ca = as_told t (medium_core state a)

      cb : Core Start Change
      cb = as_told t' (medium_core state b)

      cc' : Core Start Change
      cc' = as_told t'' (medium_core state c)

      by : (y z : Option (TwoDisks D)) → MovesOn state (Some shown.0) y ca cb first → MovesOn state y z cb cc' second
          → LeavesAcknowledged state y cb second z cc'
      by None z one two = absurd one
      by (Some y) None one two = absurd two
      by (Some y) (Some z) one two =
          let left = one.goes shown.2 shown.3 in
          let honest = one.keeps.stays_honest shown.2 in
          let kept = crash y z cb cc' second honest safe.0 safe.1 left.1 two in
          let begun = (base y z cb cc' second safe.0 kept.0).1.safe in
          record {
            all_safe = safe.1;
            event = kept.0;
            moments = kept.1;
            kept =
                subst (λ (l : List Change). IsPrefix l cc'.accepted)
                (take_all cb.safe cb.accepted (omega (arith, safe.1.1))) begun;
          }

  -- from what was known on, through an acknowledgement by both halves
  pub stop_keeps_from : CrashesKeepAcknowledged medium_rules (two_disks state)
      → EventsKeepBase medium_rules (two_disks state)
      → (first : Option (BufferState D)) (t : Bool) (mid acked : HalvesState D) (last : Option (BufferState D))
      (t' : Bool) (made made' made'' : List Change) (request : Request) (reply : Reply) (left : List ℕ)
      → ShownAs first t → CoreMovesIn state first t made (whole_medium mid) (is_told mid) → KeepsHalves state mid
      → (step : StepsBoth state mid request reply left made' acked)
      → IsSynchronizing (machine_of (state_of state) store_kept step.executes.joined) request.cdb
      → Acknowledges reply
      → CoreMovesIn state (whole_medium acked) (is_told acked) made'' last t'
      → AcknowledgedStays state (whole_medium acked) (is_told acked) made'' last t'
  stop_keeps_from crash base first t mid acked last t' made made' made'' request reply left shown one keeps step
      synchronizes acknowledges two =
      let e = step.executes in
      let both = both_moves state is_disk mid acked request reply left made' keeps step in
      let honest =
      honest_then (whole_medium mid) (medium_in e.joined.bay) (is_told mid) true []
      (joined_moves state is_disk mid e.joined mid.front.sending keeps e.holds.joins)
      (honest_then first (whole_medium mid) t (is_told mid) made one (shown_honest first t shown)) in
      let safe : SafeAs (whole_medium acked) (is_told acked) =
      subst
      (λ (w : List Change).
      SafeAs (option_map (λ (m : DisksState D). with_changes m.buffer w) acked.back.medium) (is_told acked))
      (sym step.parts.waiting)
      (went_safe (medium_in e.answered.bay) acked.back.medium (is_told acked)
      (went_from state e.answered.bay acked.back.medium acked.front.drive.bay e.holds.parts.detaches)
      (begun_parts state e.answered mid.front.sending acked e.holds.parts).told
      (e.safe synchronizes acknowledges honest) step.parts.back.cartridge) in
      acknowledged crash base first (whole_medium acked) last t (is_told acked) t' (made ++ made') made''
      (moves_then state is_disk first (whole_medium mid) (whole_medium acked) t (is_told mid) (is_told acked) made made'
      one both)
      two shown safe

  pub halves_stop_keep : CrashesKeepAcknowledged medium_rules (two_disks state)
      → EventsKeepBase medium_rules (two_disks state) → StopsOfHalvesKeep state
  halves_stop_keep crash base first mid acked last before after made made' made'' medium request reply left keeps
      there known run step synchronizes acknowledges rest =
      let e = step.executes in
      let one = run_moves state is_disk first mid before made keeps run in
      let keeps' = held_keeps state is_disk mid acked e.joined e.answered e.holds step.parts in
      let two = run_moves state is_disk acked last after made'' keeps' rest in
      let whole : ShownAs (whole_medium first) (is_told first) =
      subst
      (λ (m : Option (DisksState D)).
      ShownAs (option_map (λ (n : DisksState D). with_changes n.buffer first.waiting) m) (is_told first))
      (sym there) (shown_whole medium.buffer first.waiting (is_told first) known) in
      stop_keeps_from crash base (whole_medium first) (is_told first) mid acked (whole_medium last) (is_told last) made
      made' made'' request reply left whole one.0 one.1 step synchronizes acknowledges two.0
