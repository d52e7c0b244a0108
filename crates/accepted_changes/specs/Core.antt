-- What was accepted, how much of it is stored and how much is safe; and the steps that change this.
use Rattle.std.specs.Prelude.{◌≡◌, ◌⊎◌, ℕ, zero, suc, ◌+◌, ◌≤◌, List, [], ◌∷◌, ◌++◌, length, take, drop, Bool, true, false, IsTrue, ◌||◌}

-- What is accepted, and what an image gives: changes of a cartridge, for example, or states of a reservation store
-- (own).
pub record Rules : Type 1 where
  -- the base, to which all items apply: an empty side with its heading, for example
  pub Base : Type 0
  pub Item : Type 0
  -- what a crash leaves of the device
  pub Image : Type 0
  -- the item applies after these, from that base
  pub applies : Base → List Item → Item → Bool
  -- the image gives exactly these items, in order, from that base
  pub gives : Base → List Item → Image → Type 0
  -- these items, from the first base, may go into the second, from which the next items apply
  pub rebases : Base → List Item → Base → Type 0

-- What was accepted, and how far it was stored (own).
pub record Core (S C : Type 0) : Type 0 where
  -- the base, to which all items apply
  pub base : S
  -- what was accepted, in order
  pub accepted : List C
  -- how many of these, from the first on, are stored: a crash may leave them
  pub stored : ℕ
  -- how many of these, from the first on, are safe: they survive each crash
  pub safe : ℕ
  -- the device failed, and that was reported: nothing more is stored or accepted
  pub fault : Bool
  -- the device failed, and that is not reported yet: nothing more is stored, but more may be accepted
  pub stuck : Bool
  -- there was a stop, and what it left is not made safe yet
  pub recovering : Bool

-- A step of an accepting type (own).
pub data CoreStep (C : Type 0) : Type 0 where
  -- one more item is accepted
  Accept : (item : C) → CoreStep C
  -- `count` more items are stored
  Store : (count : ℕ) → CoreStep C
  -- what is stored is made safe
  Safe : CoreStep C
  -- all that was accepted is acknowledged
  Ack : CoreStep C
  -- the device fails, and that is reported at once
  Fault : CoreStep C
  -- the device fails, and that is not reported yet
  Stick : CoreStep C
  -- a fault that was not reported is reported; where there is none, nothing changes
  Tell : CoreStep C
  -- a stop leaves the first `kept` items
  Stop : (kept : ℕ) → CoreStep C
  -- all that was accepted goes into a new base, from which the next items apply
  Rebase : CoreStep C

-- the second list begins with the first (own)
abbrev pub IsPrefix : {C : Type 0} → List C → List C → Type 0
IsPrefix xs ys = (rest : List _) × (ys ≡ xs ++ rest)

-- the items that the steps accept, in order (own)
abbrev pub accepted_in : {C : Type 0} → List (CoreStep C) → List C
accepted_in [] = []
accepted_in (Accept item ∷ steps) = item ∷ accepted_in steps
accepted_in (Store count ∷ steps) = accepted_in steps
accepted_in (Safe ∷ steps) = accepted_in steps
accepted_in (Ack ∷ steps) = accepted_in steps
accepted_in (Fault ∷ steps) = accepted_in steps
accepted_in (Stick ∷ steps) = accepted_in steps
accepted_in (Tell ∷ steps) = accepted_in steps
accepted_in (Stop kept ∷ steps) = accepted_in steps
accepted_in (Rebase ∷ steps) = accepted_in steps

-- none of these steps changes the base (own)
abbrev pub NoneRebases : {C : Type 0} → List (CoreStep C) → Type 0
NoneRebases [] = Unit {0}
NoneRebases (Accept item ∷ steps) = NoneRebases steps
NoneRebases (Store count ∷ steps) = NoneRebases steps
NoneRebases (Safe ∷ steps) = NoneRebases steps
NoneRebases (Ack ∷ steps) = NoneRebases steps
NoneRebases (Fault ∷ steps) = NoneRebases steps
NoneRebases (Stick ∷ steps) = NoneRebases steps
NoneRebases (Tell ∷ steps) = NoneRebases steps
NoneRebases (Stop kept ∷ steps) = NoneRebases steps
NoneRebases (Rebase ∷ steps) = ⊥

-- none of these steps is a stop (own)
abbrev pub NoneStop : {C : Type 0} → List (CoreStep C) → Type 0
NoneStop [] = Unit {0}
NoneStop (Stop kept ∷ steps) = ⊥
NoneStop (step ∷ steps) = NoneStop steps

-- none of these steps acknowledges (own)
abbrev pub NoneAck : {C : Type 0} → List (CoreStep C) → Type 0
NoneAck [] = Unit {0}
NoneAck (Ack ∷ steps) = ⊥
NoneAck (step ∷ steps) = NoneAck steps

-- none of these steps reports a fault (own)
abbrev pub NoneTell : {C : Type 0} → List (CoreStep C) → Type 0
NoneTell [] = Unit {0}
NoneTell (Tell ∷ steps) = ⊥
NoneTell (step ∷ steps) = NoneTell steps

module _ {S C : Type 0} where
  -- what is safe is stored, and what is stored was accepted (own)
  pub record IsCore (core : Core S C) : Type 0 where
    pub safe : core.safe ≤ core.stored
    pub stored : core.stored ≤ length core.accepted

  -- nothing was accepted yet (own)
  abbrev pub new_core : S → Core S C
  new_core base =
      record {
        base = base;
        accepted = [];
        stored = 0;
        safe = 0;
        fault = false;
        stuck = false;
        recovering = false;
      }

  -- what is stored and not safe: the frame in flight (own)
  abbrev pub in_flight : Core S C → List C
  in_flight core = drop core.safe (take core.stored core.accepted)

  -- the device works: no fault is known (own)
  abbrev pub IsWorking : Core S C → Type 0
  IsWorking core = (core.fault ≡ false) × (core.stuck ≡ false)

  -- all that was accepted may be acknowledged: it is safe, and the device works (own)
  abbrev pub CanAcknowledge : Core S C → Type 0
  CanAcknowledge core = IsWorking core × (core.safe ≡ length core.accepted)

  -- one more item was accepted (own)
  abbrev pub with_item : C → Core S C → Core S C
  with_item item core = record core { accepted = core.accepted ++ item ∷ [] }

  -- `count` more items were stored (own)
  abbrev pub with_stored : ℕ → Core S C → Core S C
  with_stored count core = record core { stored = core.stored + count }

  -- `count` more items were stored, and all stored items made safe (own)
  abbrev pub settled : ℕ → Core S C → Core S C
  settled count core =
      record core { stored = core.stored + count; safe = core.stored + count; recovering = false }

  -- the device failed while `count` more items were stored (own)
  abbrev pub broken_in : ℕ → Core S C → Core S C
  broken_in count core = record core { stored = core.stored + count; fault = true }

  -- the device failed while `count` more items were stored, and that is not reported yet (own)
  abbrev pub stuck_in : ℕ → Core S C → Core S C
  stuck_in count core = record core { stored = core.stored + count; stuck = true }

  -- a fault that was not reported is reported: nothing more is accepted. Else nothing changes (own).
  abbrev pub told : Core S C → Core S C
  told core = record core { fault = core.fault || core.stuck; stuck = false }

  -- the items that a stop left were found and made safe (own)
  abbrev pub recovered : ℕ → Core S C → Core S C
  recovered kept core =
      record core {
        accepted = take kept core.accepted;
        stored = kept;
        safe = kept;
        fault = false;
        stuck = false;
        recovering = false;
      }

  -- a stop left the first `kept` items (own)
  abbrev pub stopped : ℕ → Core S C → Core S C
  stopped kept core =
      record core {
        accepted = take kept core.accepted;
        stored = kept;
        fault = false;
        stuck = false;
        recovering = true;
      }

  -- all that was accepted went into this base, from which the next items apply (own)
  abbrev pub rebased : S → Core S C → Core S C
  rebased base core = record core { base = base; accepted = []; stored = 0; safe = 0 }

module _ (rules : Rules) where
  -- One step leads from old to new. After a fault, reported or not, nothing is stored or acknowledged, and nothing is
  -- made safe but what a stop left. Nothing is accepted after a fault that was reported, or after a stop until what was
  -- found is safe. Nothing is stored while something is in flight. A stop leaves what is safe or what is stored. The
  -- base changes only where all may be acknowledged (own).
  abbrev pub StepsTo : Core rules.Base rules.Item → CoreStep rules.Item → Core rules.Base rules.Item → Type 0
  StepsTo old (Accept item) new =
      (old.fault ≡ false) × (old.recovering ≡ false) × IsTrue (rules.applies old.base old.accepted item)
      × (new ≡ with_item item old)
  StepsTo old (Store count) new =
      IsWorking old × (old.safe ≡ old.stored) × (old.stored + count ≤ length old.accepted)
      × (new ≡ with_stored count old)
  StepsTo old Safe new =
      (IsWorking old ⊎ (old.recovering ≡ true))
      × (new ≡ record old { safe = old.stored; recovering = false })
  StepsTo old Ack new = CanAcknowledge old × (new ≡ old)
  StepsTo old Fault new = new ≡ record old { fault = true }
  StepsTo old Stick new = new ≡ record old { stuck = true }
  StepsTo old Tell new = new ≡ told old
  StepsTo old (Stop kept) new = ((kept ≡ old.safe) ⊎ (kept ≡ old.stored)) × (new ≡ stopped kept old)
  StepsTo old Rebase new =
      CanAcknowledge old
      × ((base : rules.Base) × rules.rebases old.base old.accepted base × (new ≡ rebased base old))

  -- steps, one after another, lead from old to new (own)
  abbrev pub AllStepTo : Core rules.Base rules.Item → List (CoreStep rules.Item) → Core rules.Base rules.Item → Type 0
  AllStepTo old [] new = new ≡ old
  AllStepTo old (step ∷ steps) new =
      (between : Core rules.Base rules.Item) × StepsTo old step between × AllStepTo between steps new

  -- These items survive n changes of base in the others. With n = 0 both lists have one base, and the others begin with
  -- these; else these survive one change fewer in a list that went into the last base (own).
  abbrev pub KeptThrough : ℕ → rules.Base → List rules.Item → rules.Base → List rules.Item → Type 0
  KeptThrough zero base items base' items' = (base' ≡ base) × IsPrefix items items'
  KeptThrough (suc n) base items base' items' =
      (mid : rules.Base) × (more : List rules.Item)
      × KeptThrough n base items mid more × rules.rebases mid more base'

  -- these items survive in the others, however often the base has changed since (own)
  abbrev pub IsKept : rules.Base → List rules.Item → rules.Base → List rules.Item → Type 0
  IsKept base items base' items' = (n : ℕ) × KeptThrough n base items base' items'

  -- the base never changes (own)
  abbrev pub NeverRebases : Type 0
  NeverRebases = (base base' : rules.Base) (items : List rules.Item) → rules.rebases base items base' → ⊥

  -- where the base never changes, a list begins with the items that survive in it
  pub kept_begins : NeverRebases → (base base' : rules.Base) (items items' : List rules.Item)
      → IsKept base items base' items' → (base' ≡ base) × IsPrefix items items'
  kept_begins never base base' items items' (zero, kept) = kept
  kept_begins never base base' items items' (suc n, kept) = absurd (never kept.0 base' kept.1 kept.3)

  -- The steps that may come in a call. The device fails only where it did in the call. A stop comes only after a fault
  -- that was reported, or while what an earlier stop left is not safe yet, or where all that was accepted is safe. The
  -- base never changes in a call (own).
  abbrev pub MayCome : Type 0 → Core rules.Base rules.Item → CoreStep rules.Item → Type 0
  MayCome failed core Fault = failed
  MayCome failed core Stick = failed
  MayCome failed core (Stop kept) =
      (core.fault ≡ true) ⊎ (core.recovering ≡ true) ⊎ (core.safe ≡ length core.accepted)
  MayCome failed core Rebase = ⊥
  MayCome failed core _ = Unit {0}

  -- each of these steps may come in a call (own)
  abbrev pub AllMayCome : Type 0 → (old : Core rules.Base rules.Item) (steps : List (CoreStep rules.Item))
      (new : Core rules.Base rules.Item) → AllStepTo old steps new → Type 0
  AllMayCome failed old [] new leads = Unit {0}
  AllMayCome failed old (step ∷ steps) new leads =
      MayCome failed old step × AllMayCome failed leads.0 steps new leads.2
