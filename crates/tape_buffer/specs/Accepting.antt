-- What a medium accepted, once a change is accepted over its open cartridge.
use Rattle.std.specs.Prelude.{◌≡◌, ◌++◌, List, [], ◌∷◌, Bool, false, None, IsTrue, refl}
use Rattle.std.proofs.Common.{sym, ◌∙◌, ap, subst, append_assoc}
use Rattle.tape_disk.specs.Disk.{DiskState, IsDisk}
use Rattle.volume_core.specs.declared.changes.Change.{Change}
use Rattle.volume_core.specs.Stores.{after_append}
use Rattle.volume_core.specs.Volume.{Part, after, refusal_of}
use Rattle.cartridge.specs.Contents.{Start, changes_since, start_of, volume_made}
use Rattle.cartridge.specs.Extending.{volume_since}
use Rattle.cartridge.specs.State.{OpenCartridge}
use Rattle.accepted_changes.specs.Core.{Core, IsCore, with_item}
use Rattle.accepted_changes.specs.Device.{two_disks, two_is_device}
use Rattle.accepted_changes.specs.Events.{CoreMoves}
use Rattle.accepted_changes.specs.Kinds.{moves_accepting}
use Rattle.tape_buffer.specs.Rules.{applies_behind, is_unrefused, medium_rules}
use Rattle.tape_buffer.specs.State.{open_core}

-- what was accepted over an open cartridge, with these marks of a fault of its device: reported, or not reported yet
-- (own)
abbrev pub marked : {D : Type 0} → Bool → Bool → OpenCartridge D → List Change → Core Start Change
marked fault stuck c pending = record (open_core c pending) { fault = fault; stuck = stuck }

module _ {D : Type 0} (c : OpenCartridge D) (pending : List Change) where
  -- one change more is accepted, where no fault was reported
  pub accepts_one : (state : D → DiskState) → ((disk : D) → (state disk).honest → IsDisk (state disk))
      → (fault stuck : Bool) (change : Change) → fault ≡ false → IsCore (open_core c pending)
      → refusal_of (after (volume_made c.contents) pending) change ≡ None
      → CoreMoves medium_rules (two_disks state) c.disks c.disks (marked fault stuck c pending)
      (marked fault stuck c (pending ++ change ∷ [])) (change ∷ [])
  accepts_one state is_disk fault stuck change works core none =
      subst
      (λ (new : Core Start Change).
      CoreMoves medium_rules (two_disks state) c.disks c.disks (marked fault stuck c pending) new (change ∷ []))
      (sym with_change)
      (moves_accepting medium_rules (two_disks state) (two_is_device state) c.disks (marked fault stuck c pending)
      change (λ honest. (is_disk c.disks.first honest.0, is_disk c.disks.second honest.1))
      (record { safe = core.safe; stored = core.stored }) works refl applies)
    where
      with_change : marked fault stuck c (pending ++ change ∷ []) ≡ with_item change (marked fault stuck c pending)
      with_change =
          λ i. record (marked fault stuck c pending) {
            accepted = sym (append_assoc (changes_since c.contents) pending (change ∷ [])) i;
          }

      applies : IsTrue (applies_behind (start_of c.contents) (changes_since c.contents ++ pending) change)
      applies =
          ap is_unrefused
          (ap (λ (v : List Part). refusal_of v change)
          (after_append (start_of c.contents).volume (changes_since c.contents) pending
          ∙ ap (λ (v : List Part). after v pending) (sym (volume_since c.contents))) ∙ none)
