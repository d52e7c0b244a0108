-- A change of base: a reclaim of a cartridge, for example. It is not a call of the accepting type: no event has one
-- among its steps.
use Rattle.std.specs.Prelude.{◌≡◌, ◌⊎◌, ◌<◌, List, [], ◌∷◌, refl}
use Rattle.std.proofs.Common.{inl, ⊎_elim, subst, sym}
use Rattle.accepted_changes.specs.Device.{Device, IsDevice, KeepsDevice}
use Rattle.accepted_changes.specs.Core.{Rules, Core, Rebase, AllStepTo, CanAcknowledge, rebased}
use Rattle.accepted_changes.specs.Events.{ShowsBetween, ShowsCore}

module _ (rules : Rules) where
  -- the image gives exactly these items from this base; or no item from a base that all of these go into (own)
  abbrev pub GivesKept : rules.Base → List rules.Item → rules.Image → Type 0
  GivesKept base items image =
      rules.gives base items image
      ⊎ ((next : rules.Base) × rules.rebases base items next × rules.gives next [] image)

  -- the image gives what is safe or stored in the old core; or no item from this base, into which all that was accepted
  -- then goes (own)
  abbrev pub ShowsEither : Core rules.Base rules.Item → rules.Base → rules.Image → Type 0
  ShowsEither old base image =
      ShowsCore rules old image ⊎ (rules.gives base [] image × rules.rebases old.base old.accepted base)

module _ (rules : Rules) (device : Device rules.Image) where
  -- All that was accepted goes into a new base; it could be acknowledged before. Where the device is honest and its
  -- images were those of the old core, each moment has an image of that core, or of the new base without items; in the
  -- end it is the latter (own).
  pub record Rebases (disk disk' : device.State) (old new : Core rules.Base rules.Item) : Type 0 where
    pub keeps : KeepsDevice device disk disk'
    pub could : CanAcknowledge old
    pub goes_into : rules.rebases old.base old.accepted new.base
    pub is : new ≡ rebased new.base old
    pub moments :
        device.honest disk → device.each disk (ShowsCore rules old)
        → device.leaves disk disk' (ShowsEither rules old new.base)
    pub sure : device.honest disk → device.each disk (ShowsCore rules old) → device.each disk' (rules.gives new.base [])

  -- The device failed while all that was accepted was to go into this base. Each moment has an image of the old core,
  -- or of the new base without items; the next reading decides which. That all goes into this base is known only of an
  -- image of it (own).
  pub record FailsToRebase (disk disk' : device.State) (old : Core rules.Base rules.Item) (base : rules.Base)
      : Type 0 where
    pub keeps : KeepsDevice device disk disk'
    pub failed : device.failures disk < device.failures disk'
    pub could : CanAcknowledge old
    pub moments :
        device.honest disk → device.each disk (ShowsCore rules old)
        → device.leaves disk disk' (ShowsEither rules old base)

  -- What a change of base leaves, over an honest device whose images were those of the old core: at each moment the
  -- images of a core that the step leads to, and in the end those of the new one (own).
  pub record ShowsRebase (disk disk' : device.State) (old new : Core rules.Base rules.Item) : Type 0 where
    pub moments : device.leaves disk disk' (ShowsBetween rules old (Rebase ∷ []))
    pub now : device.each disk' (ShowsCore rules new)

  -- a change of base is one step
  pub rebasing_steps : (disk disk' : device.State) (old new : Core rules.Base rules.Item)
      → Rebases disk disk' old new → AllStepTo rules old (Rebase ∷ []) new
  rebasing_steps disk disk' old new r = (new, (r.could, (new.base, r.goes_into, r.is)), refl)

  -- its images are those of the cores that the step leads to
  pub rebasing_shows : IsDevice device → (disk disk' : device.State) (old new : Core rules.Base rules.Item)
      → Rebases disk disk' old new → device.honest disk → device.each disk (ShowsCore rules old)
      → ShowsRebase disk disk' old new
  rebasing_shows laws disk disk' old new r honest shows =
      record {
        moments =
            laws.weakened disk disk' (ShowsEither rules old new.base) (ShowsBetween rules old (Rebase ∷ []))
            (r.moments honest shows) between;
        now = laws.each_weakened disk' (rules.gives new.base []) (ShowsCore rules new) (r.sure honest shows) after;
      }
    where
      after : (image : rules.Image) → rules.gives new.base [] image → ShowsCore rules new image
      after image g =
          subst (λ (core : Core rules.Base rules.Item). ShowsCore rules core image) (sym r.is) (inl g)

      between : (image : rules.Image) → ShowsEither rules old new.base image
          → ShowsBetween rules old (Rebase ∷ []) image
      between image either =
          ⊎_elim (λ s. (0, old, refl, s))
          (λ g. (1, new, rebasing_steps disk disk' old new r, after image g.0)) either
