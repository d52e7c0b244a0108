-- Two disks that are opened as a cartridge, and then the first as a store.
use Rattle.std.proofs.Common.{◌≡◌, inl, inr, ℕ, Bool, List, refl, sym, ap, ◌∙◌, subst, arith, Result, Ok, Err, IfOk, IfErr, OnOk}
use Rattle.vtl_base.specs.declared.faults.DevFault.{DevFault}
use Rattle.tape_disk.specs.Disk.{DiskCall, DiskState, IsDisk, Only}
use Rattle.tape_disk.specs.Moments as Moments
use Rattle.tape_disk.specs.Moments.{LeavesOnly}
use Rattle.tape_disk.specs.TwoDisks.{AreHonest, EachOfTwo, Images, KeepsDisks, MayLeave, TwoDisks, TwoLeave, two_in_sequence, seen_of_two}
use Rattle.gate_journal.specs.declared.header.SideKind.{SideKind}
use Rattle.gate_journal.specs.declared.header.SideKind.TheVariants.{Store}
use Rattle.gate_journal.specs.Answers.{NoneFailed}
use Rattle.gate_journal.specs.Side.{Heading, IsName}
use Rattle.cartridge.specs.declared.error.CartridgeError.{CartridgeError}
use Rattle.cartridge.specs.declared.error.CartridgeError.TheVariants.{NotOurs, Damaged, BadRecord, SideFull, Device, Failed, NoMemory}
use Rattle.cartridge.specs.Answers.{IsNotOpened}
use Rattle.cartridge.specs.Contents.{Contents, GivesContents, IsNoCartridge}
use Rattle.cartridge.specs.Disks.{NoneOfTwo, OnlyOfTwo}
use Rattle.aptpl_store.specs.declared.error.StoreError.{StoreError}
use Rattle.aptpl_store.specs.declared.error.StoreError.TheVariants as store
use Rattle.aptpl_store.specs.Answers.{IsStoreNotOpened}
use Rattle.aptpl_store.specs.Contents.{GivesStates, latest}
use Rattle.pr_core.specs.declared.states.PrState.{PrState}
use Rattle.pr_core.specs.States.{power_loss}
use Rattle.vtl_faults.specs.declared.faults.VtlFault.{VtlFault}
use Rattle.vtl_faults.specs.declared.faults.VtlFault.TheVariants as faults
use Rattle.check_lines.specs.Reading.{HaveRead, ReadsEach, wanted_lengths}
use Rattle.check_lines.specs.SideText.{IsNotShown, IsStoreNotShown, SideText, PrintsStates, bad_record_line, damaged_line, not_a_side_line}

-- the lines that a refusal of an opening as a cartridge has; where no side counts the first disk is opened as a store
abbrev pub PrintsRefusal : CartridgeError → Result (List ℕ) VtlFault → Type 0
PrintsRefusal NotOurs lines = ⊥
PrintsRefusal (Damaged at) lines = IfOk lines (λ text. text ≡ damaged_line at)
PrintsRefusal (BadRecord at) lines = IfOk lines (λ text. text ≡ bad_record_line at)
PrintsRefusal (Device fault) lines = lines ≡ Err faults.Device
PrintsRefusal NoMemory lines = lines ≡ Err faults.NoMemory
PrintsRefusal SideFull lines = Unit {0}
PrintsRefusal Failed lines = Unit {0}

module _ {D : Type 0} (state : D → DiskState) (old new : TwoDisks D) where
  -- they are those of the side that was refused
  pub refusal_shown : (error : CartridgeError) (lines : Result (List ℕ) VtlFault)
      → IsNotOpened state error old new → PrintsRefusal error lines
      → IfOk lines (λ text. AreHonest state old → SideText (seen_of_two state old) text × OnlyOfTwo state old new)
  refusal_shown NotOurs lines why is = absurd is
  refusal_shown (Damaged at) (Ok text) why is = λ honest.
      (inr (inr (inr (inl (at, inl (why.1 honest).0, is)))), (why.1 honest).1)
  refusal_shown (BadRecord at) (Ok text) why is = λ honest.
      (inr (inr (inr (inr (at, inl (why.1 honest).0, is)))), (why.1 honest).1)
  refusal_shown (Device fault) (Ok text) why is = cc
  refusal_shown NoMemory (Ok text) why is = cc
  refusal_shown SideFull (Ok text) why is = absurd why
  refusal_shown Failed (Ok text) why is = absurd why
  refusal_shown (Damaged at) (Err fault) why is = tt
  refusal_shown (BadRecord at) (Err fault) why is = tt
  refusal_shown (Device other) (Err fault) why is = tt
  refusal_shown NoMemory (Err fault) why is = tt
  refusal_shown SideFull (Err fault) why is = tt
  refusal_shown Failed (Err fault) why is = tt

-- what was read where lines came
module _ {D : Type 0} (state : D → DiskState) (effect : DiskCall → Result Unit DevFault → D → D → Type 0)
    (wanted : Bool) (old mid new : TwoDisks D) where
  -- of a cartridge that was opened
  pub cartridge_read : (contents : Contents) (lines : Result (List ℕ) VtlFault)
      → (AreHonest state old → GivesContents contents (seen_of_two state old) × OnlyOfTwo state old mid)
      → OnOk lines (ReadsEach effect contents.which (wanted_lengths wanted contents) mid new)
      → OnOk lines (AreHonest state old → HaveRead state effect wanted old new)
  cartridge_read contents (Ok text) gives reads = λ honest.
      inl (contents, (gives honest).0, (mid, (gives honest).1, reads))
  cartridge_read contents (Err fault) gives reads = tt

  -- of disks that give none
  pub none_read_of : (lines : Result (List ℕ) VtlFault) → IsNotOpened state NotOurs old mid
      → OnOk lines (AreHonest state old → HaveRead state effect wanted old new)
  none_read_of (Ok text) why = λ honest. inr (inl (why.1 honest).0)
  none_read_of (Err fault) why = tt

  -- of a side that was refused
  pub refusal_read : (error : CartridgeError) (lines : Result (List ℕ) VtlFault)
      → IsNotOpened state error old mid → PrintsRefusal error lines
      → OnOk lines (AreHonest state old → HaveRead state effect wanted old new)
  refusal_read NotOurs lines why is = absurd is
  refusal_read (Damaged at) (Ok text) why is = λ honest. inr (inr (at, inl (why.1 honest).0))
  refusal_read (BadRecord at) (Ok text) why is = λ honest. inr (inr (at, inr (why.1 honest).0))
  refusal_read (Device fault) (Ok text) why is = cc
  refusal_read NoMemory (Ok text) why is = cc
  refusal_read SideFull (Ok text) why is = absurd why
  refusal_read Failed (Ok text) why is = absurd why
  refusal_read (Damaged at) (Err fault) why is = tt
  refusal_read (BadRecord at) (Err fault) why is = tt
  refusal_read (Device other) (Err fault) why is = tt
  refusal_read NoMemory (Err fault) why is = tt
  refusal_read SideFull (Err fault) why is = tt
  refusal_read Failed (Err fault) why is = tt

-- the line that a refusal of an opening as a store has
abbrev pub PrintsStoreRefusal : StoreError → Result (List ℕ) VtlFault → Type 0
PrintsStoreRefusal store.NotOurs lines = IfOk lines (λ text. text ≡ not_a_side_line)
PrintsStoreRefusal (store.Damaged at) lines = IfOk lines (λ text. text ≡ damaged_line at)
PrintsStoreRefusal (store.BadRecord at) lines = IfOk lines (λ text. text ≡ bad_record_line at)
PrintsStoreRefusal (store.Device fault) lines = IfOk lines (λ text. ⊥)
PrintsStoreRefusal store.NoMemory lines = IfOk lines (λ text. ⊥)

-- it is that of the first image, where beside the second one no side counts
pub store_refusal_shown : (error : StoreError) (lines : Result (List ℕ) VtlFault) (old new : DiskState)
    → IsStoreNotOpened error old new → PrintsStoreRefusal error lines
    → IfOk lines (λ text. old.honest → (two : List ℕ) → IsNoCartridge (old.seen, two)
    → SideText (old.seen, two) text × Only old.seen new.may_leave)
store_refusal_shown store.NotOurs (Ok text) old new why is = λ honest two none.
    (inr (inr (inl (none, (why.1 honest).0, is))), (why.1 honest).1)
store_refusal_shown (store.Damaged at) (Ok text) old new why is = λ honest two none.
    (inr (inr (inr (inl (at, inr (why.1 honest).0, is)))), (why.1 honest).1)
store_refusal_shown (store.BadRecord at) (Ok text) old new why is = λ honest two none.
    (inr (inr (inr (inr (at, inr (why.1 honest).0, is)))), (why.1 honest).1)
store_refusal_shown (store.Device fault) (Ok text) old new why is = absurd is
store_refusal_shown store.NoMemory (Ok text) old new why is = absurd is
store_refusal_shown store.NotOurs (Err fault) old new why is = tt
store_refusal_shown (store.Damaged at) (Err fault) old new why is = tt
store_refusal_shown (store.BadRecord at) (Err fault) old new why is = tt
store_refusal_shown (store.Device other) (Err fault) old new why is = tt
store_refusal_shown store.NoMemory (Err fault) old new why is = tt

-- the line of a store that was opened is that of the first image
pub store_shown : {E : Type 0} (heading : Heading) (states : List PrState) (left : PrState)
    (lines : Result (List ℕ) VtlFault) (text : Result (List ℕ) E) (old new : DiskState)
    → IfOk lines (λ found. text ≡ Ok found)
    → IfOk text (λ found. IsName Store heading.name → left ≡ power_loss (latest states)
    → PrintsStates heading states found)
    → left ≡ power_loss (latest states)
    → (old.honest → GivesStates heading states old.seen × Only old.seen new.may_leave)
    → IfOk lines (λ found. old.honest → (two : List ℕ) → IsNoCartridge (old.seen, two)
    → SideText (old.seen, two) found × Only old.seen new.may_leave)
store_shown heading states left (Err fault) text old new is prints left_is gives = tt
store_shown {E} heading states left (Ok found) text old new is prints left_is gives = λ honest two none.
    let given = (gives honest).0 in
    let named : IsName Store heading.name =
    subst (λ (kind : SideKind). IsName kind heading.name) given.0 given.2.0.begins.head.heading.name in
    let printed : PrintsStates heading states found =
    subst (λ (r : Result (List ℕ) E). IfOk r (λ found. IsName Store heading.name → left ≡ power_loss (latest states)
    → PrintsStates heading states found)) is prints named left_is in
    (inr (inl (heading, states, given, printed)), (gives honest).1)

-- The first of two disks of which no side counts is looked at once more, while the second one rests.
module _ {D : Type 0} (state : D → DiskState) (old mid new : TwoDisks D)
    (why : IsNotOpened state NotOurs old mid) (keeps : KeepsDisks state old mid)
    (is_disk : (disk : D) → (state disk).honest → IsDisk (state disk)) (rests : new.second ≡ mid.second) where
  mid_honest : AreHonest state old → AreHonest state mid
  mid_honest honest = (keeps.0.stays_honest honest.0, keeps.1.stays_honest honest.1)

  same_bytes : AreHonest state old → seen_of_two state mid ≡ seen_of_two state old
  same_bytes honest =
      let held = mid_honest honest in
      (why.1 honest).1 (seen_of_two state mid) ((is_disk mid.first held.0).reads, (is_disk mid.second held.1).reads)

  only_one : AreHonest state old → Only (state mid.first).seen (state new.first).may_leave → OnlyOfTwo state old new
  only_one honest only images left =
      let held = mid_honest honest in
      let first : images.0 ≡ (state mid.first).seen = only images.0 left.0 in
      let second : (state mid.second).may_leave images.1 =
      subst (λ (disk : D). (state disk).may_leave images.1) rests left.1 in
      subst (λ (one : List ℕ). (one, images.1) ≡ seen_of_two state old) (sym first)
      ((why.1 honest).1 ((state mid.first).seen, images.1) ((is_disk mid.first held.0).reads, second))

  pub shown_again : (lines : Result (List ℕ) VtlFault)
      → IfOk lines (λ text. (state mid.first).honest → (two : List ℕ) → IsNoCartridge ((state mid.first).seen, two)
      → SideText ((state mid.first).seen, two) text × Only (state mid.first).seen (state new.first).may_leave)
      → IfOk lines (λ text. AreHonest state old → SideText (seen_of_two state old) text × OnlyOfTwo state old new)
  shown_again (Err fault) prints = tt
  shown_again (Ok text) prints = λ honest.
      let none : IsNoCartridge (seen_of_two state mid) =
      subst (λ (images : Images). IsNoCartridge images) (sym (same_bytes honest)) (why.1 honest).0 in
      let printed = prints (mid_honest honest).0 (state mid.second).seen none in (
        subst (λ (images : Images). SideText images text) (same_bytes honest) printed.0,
        only_one honest printed.1,
      )

  pub none_again : NoneFailed (state mid.first) (state new.first) → NoneOfTwo state old new
  none_again none = (
    none ∙ why.0.0,
    ap (λ (disk : D). (state disk).failures) rests ∙ why.0.1,
  )

  pub cause_again : (lines : Result (List ℕ) VtlFault)
      → IfErr lines (λ fault. IsStoreNotShown fault (state mid.first) (state new.first))
      → IfErr lines (λ fault. IsNotShown state fault old new)
  cause_again (Ok text) cause = tt
  cause_again (Err faults.Device) cause =
      let second : (state new.second).failures ≡ (state old.second).failures =
      ap (λ (disk : D). (state disk).failures) rests ∙ why.0.1 in
      omega (arith, cause, why.0.0, second)
  cause_again (Err faults.NoMemory) cause =
      (none_again cause.0, λ honest. only_one honest (cause.1 (mid_honest honest).0))
  cause_again (Err faults.Words) cause = absurd cause
  cause_again (Err faults.Config) cause = absurd cause
  cause_again (Err (faults.Script line)) cause = absurd cause
  cause_again (Err (faults.Frame number)) cause = absurd cause

  pub moments_again : AreHonest state old → TwoLeave state old mid (MayLeave state old)
      → LeavesOnly (state mid.first) (state new.first) (state mid.first).may_leave
      → TwoLeave state old new (MayLeave state old)
  moments_again honest first leaves =
      let held = mid_honest honest in
      let each : EachOfTwo state mid (MayLeave state old) = (λ images left.
      subst (λ (one : Images). MayLeave state old one) (sym ((why.1 honest).1 images left))
      ((is_disk old.first honest.0).reads, (is_disk old.second honest.1).reads)) in
      let moves = Moments.weakened (state mid.first) (state new.first) (state mid.first).may_leave
      (λ one. (two : List ℕ) → (state mid.second).may_leave two → MayLeave state old (one, two)) leaves
      (λ one may two other. each (one, two) (may, other)) in
      two_in_sequence state old mid new (MayLeave state old) first (1, (mid, (refl, each), inl (rests, moves)))
