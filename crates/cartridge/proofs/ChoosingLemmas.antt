-- The side that counts was found, and then it was opened.
use Rattle.std.proofs.Common.{◌≡◌, inl, inr, ℕ, List, sym, ◌∙◌, subst, arith}
use Rattle.std.specs.Prelude.{Option, None, Some, Result, Ok, Err}
use Rattle.vtl_base.specs.declared.faults.DevFault.{DevFault}
use Rattle.tape_disk.specs.Disk.{DiskCall, DiskState, IsDisk, Keeps}
use Rattle.tape_disk.specs.Moments.{LeavesOnly, weakened}
use Rattle.tape_disk.specs.Moments as Moments
use Rattle.tape_disk.specs.TwoDisks.{AreHonest, Images, KeepsDisks, MayLeave, TwoDisks, TwoLeave, two_in_sequence, one_leg, seen_of_two}
use Rattle.tape_disk.specs.TwoDisks as Two
use Rattle.gate_journal.specs.Reads.{opens_then}
use Rattle.cartridge_sides.specs.declared.choosing.Counted.{Counted}
use Rattle.cartridge_sides.specs.Choosing.{FindsCounted, SyncedBefore, SyncsBoth}
use Rattle.cartridge_sides.specs.Pairs.{SideCounts}
use Rattle.cartridge.specs.declared.error.CartridgeError.{CartridgeError}
use Rattle.cartridge.specs.declared.error.CartridgeError.TheVariants.{NotOurs, Damaged, BadRecord, SideFull, Device, Failed, NoMemory}
use Rattle.cartridge.specs.Answers.{IsNotOpened, ReadsSure}
use Rattle.cartridge.specs.Contents.{Contents, GivesContents, IsBadFrameAt, IsDamagedPairAt, IsNoCartridge}
use Rattle.cartridge.specs.Disks.{EachStays, IsFaultOfTwo, NoneOfTwo, OnlyOfTwo, OpensEach, SyncsEach}
use Rattle.cartridge.specs.Inner.Opening.{HasSide}

module _ {D : Type 0} (state : D → DiskState) where
  -- two runs of calls in a row
  keeps_then : (a b c : D) → Keeps (state a) (state b) → Keeps (state b) (state c) → Keeps (state a) (state c)
  keeps_then a b c one two = record {
    stays_honest = λ h. two.stays_honest (one.stays_honest h);
    was_honest = λ h. one.was_honest (two.was_honest h);
    counted = omega (arith, one.counted, two.counted);
  }

  module _ (old mid new : TwoDisks D) where
    pub two_keep : KeepsDisks state old mid → KeepsDisks state mid new → KeepsDisks state old new
    two_keep one two = (
      keeps_then old.first mid.first new.first one.0 two.0,
      keeps_then old.second mid.second new.second one.1 two.1,
    )

    pub none_then : NoneOfTwo state old mid → NoneOfTwo state mid new → NoneOfTwo state old new
    none_then one two = (two.0 ∙ one.0, two.1 ∙ one.1)

    fault_then : (fault : DevFault) → NoneOfTwo state old mid → IsFaultOfTwo state fault mid new
        → IsFaultOfTwo state fault old new
    fault_then fault none (inl (is, rests)) =
        inl (record { cause = omega (arith, none.0, is.cause); reported = is.reported }, rests ∙ none.1)
    fault_then fault none (inr (rests, is)) =
        inr (rests ∙ none.0, record { cause = omega (arith, none.1, is.cause); reported = is.reported })

    -- where a read gives the same after the first run
    module _ (none : NoneOfTwo state old mid) (on : AreHonest state old → AreHonest state mid)
        (seen : AreHonest state old → seen_of_two state mid ≡ seen_of_two state old) where
      pub only_then : AreHonest state old → OnlyOfTwo state mid new → OnlyOfTwo state old new
      only_then h only images left = only images left ∙ seen h

      pub gives_then : (contents : Contents) → AreHonest state old
          → (AreHonest state mid → GivesContents contents (seen_of_two state mid) × OnlyOfTwo state mid new)
          → GivesContents contents (seen_of_two state old) × OnlyOfTwo state old new
      gives_then contents h gives = (
        subst (GivesContents contents) (seen h) (gives (on h)).0,
        only_then h (gives (on h)).1,
      )

      sure_then : (what : Images → Type 0) → ReadsSure state mid new (what (seen_of_two state mid))
          → ReadsSure state old new (what (seen_of_two state old))
      sure_then what reads = (
        none_then none reads.0,
        λ h. (subst what (seen h) (reads.1 (on h)).0, only_then h (reads.1 (on h)).1),
      )

      pub refused_then : (error : CartridgeError) → IsNotOpened state error mid new → IsNotOpened state error old new
      refused_then NotOurs why = sure_then IsNoCartridge why
      refused_then (Damaged at) why = sure_then (λ images. IsDamagedPairAt images at) why
      refused_then (BadRecord at) why = sure_then (λ images. IsBadFrameAt images at) why
      refused_then (Device fault) why = fault_then fault none why
      refused_then NoMemory why = sure_then (λ images. IsNoCartridge images → ⊥) why
      refused_then SideFull why = why
      refused_then Failed why = why

  -- the side that counts was looked for
  module _ (is_disk : (d : D) → (state d).honest → IsDisk (state d)) (old mid : TwoDisks D)
      (keeps : KeepsDisks state old mid) where
    pub honest_on : AreHonest state old → AreHonest state mid
    honest_on h = (keeps.0.stays_honest h.0, keeps.1.stays_honest h.1)

    pub was_honest : AreHonest state mid → AreHonest state old
    was_honest h = (keeps.0.was_honest h.0, keeps.1.was_honest h.1)

    pub are_disks : AreHonest state mid → IsDisk (state mid.first) × IsDisk (state mid.second)
    are_disks h = (is_disk mid.first h.0, is_disk mid.second h.1)

    module _ (first : (state old.first).honest
        → LeavesOnly (state old.first) (state mid.first) (state old.first).may_leave)
        (second : (state old.second).honest
        → LeavesOnly (state old.second) (state mid.second) (state old.second).may_leave) where
      -- what could be left at each moment of that could have been left before
      pub looked : AreHonest state old → TwoLeave state old mid (MayLeave state old)
      looked h =
          let between : TwoDisks D = record { first = mid.first; second = old.second } in
          let one = one_leg state old between (MayLeave state old) (λ images left. left)
          (inl (
            (λ i. old.second),
            weakened (state old.first) (state mid.first) (state old.first).may_leave
                (λ image. (other : List ℕ) → (state old.second).may_leave other → MayLeave state old (image, other))
                (first h.0) (λ image left other also. (left, also)),
          )) in
          let here = Two.two_hold_now state old between (MayLeave state old)
          (is_disk mid.first (keeps.0.stays_honest h.0), is_disk old.second h.1) one in
          two_in_sequence state old between mid (MayLeave state old) one
          (one_leg state between mid (MayLeave state old) here
          (inr (
            (λ i. mid.first),
            weakened (state old.second) (state mid.second) (state old.second).may_leave
                (λ image. (other : List ℕ) → (state mid.first).may_leave other → MayLeave state old (other, image))
                (second h.1) (λ image left other also. (
                  Moments.holds_now (state old.first) (state mid.first) (state old.first).may_leave
                      (is_disk mid.first (keeps.0.stays_honest h.0)) (first h.0) other also,
                  left,
                )),
          )))

      -- and so at each moment of what follows
      pub looked_then : (new : TwoDisks D) → AreHonest state old
          → (AreHonest state mid → TwoLeave state mid new (MayLeave state mid))
          → TwoLeave state old new (MayLeave state old)
      looked_then new h run =
          let before = looked h in
          let later = honest_on h in
          two_in_sequence state old mid new (MayLeave state old) before
          (Two.two_weakened state mid new (MayLeave state mid) (MayLeave state old) (run later)
          (Two.two_hold_now state old mid (MayLeave state old) (are_disks later) before))

    -- it was found whether one does
    module _ (found : Option Counted)
        (finds : FindsCounted (Ok found) (state old.first) (state mid.first) (state old.second) (state mid.second))
      where
        pub none_failed : NoneOfTwo state old mid
        none_failed = (finds.0, finds.1)

        pub only_found : AreHonest state old → OnlyOfTwo state old mid
        only_found h images left = λ i. (finds.2 h.0 images.0 left.0 i, finds.3 h.1 images.1 left.1 i)

        pub seen_found : AreHonest state old → seen_of_two state mid ≡ seen_of_two state old
        seen_found h =
            let disks = are_disks (honest_on h) in
            only_found h (seen_of_two state mid) (disks.0.reads, disks.1.reads)

        pub only_still : AreHonest state old → OnlyOfTwo state mid mid
        only_still h images left = only_found h images left ∙ sym (seen_found h)

    -- one does
    pub side_found : (counted : Counted)
        → FindsCounted (Ok (Some counted)) (state old.first) (state mid.first) (state old.second) (state mid.second)
        → AreHonest state mid → HasSide counted.which (seen_of_two state mid) × OnlyOfTwo state mid mid
    side_found counted finds later =
        let h = was_honest later in
        let chosen = finds.4 h.0 h.1 in (
          (
            chosen.0,
            chosen.1,
            subst (λ (i : Images). SideCounts counted.which chosen.0 chosen.1 i.0 i.1)
                (sym (seen_found (Some counted) finds h)) chosen.2,
          ),
          only_still (Some counted) finds h,
        )

    -- none does
    pub none_found :
        FindsCounted (Ok None) (state old.first) (state mid.first) (state old.second) (state mid.second)
        → IsNotOpened state NotOurs old mid
    none_found finds = (none_failed None finds, λ h. (finds.4 h.0 h.1, only_found None finds h))

  -- each of the two stays in one run, and in the next
  module _ (is_disk : (d : D) → (state d).honest → IsDisk (state d)) where
    still_stays : (a b c : D) → Keeps (state a) (state b)
        → ((state a).honest → LeavesOnly (state a) (state b) (state a).may_leave)
        → ((state b).honest → LeavesOnly (state b) (state c) (state b).may_leave)
        → (state a).honest → LeavesOnly (state a) (state c) (state a).may_leave
    still_stays a b c keeps one two h =
        let on = keeps.stays_honest h in
        Moments.in_sequence (state a) (state b) (state c) (state a).may_leave (one h)
        (weakened (state b) (state c) (state b).may_leave (state a).may_leave (two on)
        (Moments.holds_now (state a) (state b) (state a).may_leave (is_disk b on) (one h)))

    pub stays_then : (old mid new : TwoDisks D) → KeepsDisks state old mid → EachStays state old mid
        → EachStays state mid new → EachStays state old new
    stays_then old mid new keeps one two = record {
      first = still_stays old.first mid.first new.first keeps.0 one.first two.first;
      second = still_stays old.second mid.second new.second keeps.1 one.second two.second;
    }

-- two runs in a row in which each disk was only opened
pub opens_on : {D : Type 0} (effect : DiskCall → Result Unit DevFault → D → D → Type 0) (old mid new : TwoDisks D)
    → OpensEach effect old mid → OpensEach effect mid new → OpensEach effect old new
opens_on effect old mid new one two = record {
  first = opens_then effect old.first mid.first new.first one.first two.first;
  second = opens_then effect old.second mid.second new.second one.second two.second;
}

-- two disks that were synced first, and then were only opened
pub begun_on : {D : Type 0} (effect : DiskCall → Result Unit DevFault → D → D → Type 0) (old mid new : TwoDisks D)
    → SyncedBefore effect old.first mid.first × SyncedBefore effect old.second mid.second
    → OpensEach effect mid new → SyncsEach effect old new
begun_on effect old mid new (first, second) more = inl (
  (first.0, first.1, opens_then effect first.0 mid.first new.first first.2 more.first),
  (second.0, second.1, opens_then effect second.0 mid.second new.second second.2 more.second),
)

-- the disks of a choice that failed
pub begun_failed : {D : Type 0} (effect : DiskCall → Result Unit DevFault → D → D → Type 0) (fault : DevFault)
    (old new : TwoDisks D) → SyncsBoth effect (Err fault) old.first new.first old.second new.second
    → SyncsEach effect old new
begun_failed effect fault old new (inl failed) = inr (fault, failed)
begun_failed effect fault old new (inr both) = inl both
