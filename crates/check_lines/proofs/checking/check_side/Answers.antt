use Rattle.std.proofs.Common.{refl, sym, subst, is_some, IfOk, OnOk}
use Rattle.tape_disk.specs.TwoDisks.{AreHonest, KeepsDisks, MayLeave, TwoLeave, seen_of_two}
use Rattle.cartridge.specs.declared.error.CartridgeError.{CartridgeError}
use Rattle.cartridge.specs.declared.error.CartridgeError.TheVariants.{NotOurs}
use Rattle.cartridge.specs.Answers.{IsNotOpened}
use Rattle.cartridge.specs.Disks.{OnlyOfTwo}
use Rattle.check_lines.specs.Disks.{both, disks_checked}
use Rattle.check_lines.specs.Reading.{HaveRead}
use Rattle.check_lines.specs.SideText.{SideText}
use Rattle.check_lines.proofs.CheckLemmas.{PrintsRefusal, cartridge_read, moments_again, none_read_of, refusal_read, refusal_shown, shown_again}
use Rattle.check_lines.proofs.PairLemmas.{moved}
use Rattle.check_lines.proofs.ReadingLemmas.{moments_on}
use Rattle.check_lines.proofs.checking.check_side.Goals as goal
use Rattle.check_lines.proofs.checking.check_side.Goals.{in-Damaged, in-BadRecord, in-Device, in-NoMemory}

pub returns-in-Ok-clause-any_moment : goal.returns-in-Ok-clause-any_moment
returns-in-Ok-clause-any_moment g c =
    let state = g.D.Disk.state in
    let given = c.of.result.disks in
    let new = disks_checked c.check_cartridge.result in
    moved (λ a b. AreHonest state a → TwoLeave state a b (MayLeave state a)) (both c.args.first c.args.second) given
    new new (sym c.of.ensures.disks) refl
    (λ honest. moments_on state given c.in-Ok.cartridge.disks new g.met.D.Disk.is_disk c.in-Ok.ensures.disks honest
    (c.in-Ok.ensures.any_moment honest) c.check_cartridge.ensures.unwritten)

pub returns-in-Ok-clause-read : goal.returns-in-Ok-clause-read
returns-in-Ok-clause-read g c =
    let state = g.D.Disk.state in
    let effect = g.D.Disk.effect in
    let wanted = is_some c.args.reports in
    let given = c.of.result.disks in
    let new = disks_checked c.check_cartridge.result in
    let lines = c.check_cartridge.result.lines in
    moved (λ a b. OnOk lines (AreHonest state a → HaveRead state effect wanted a b))
    (both c.args.first c.args.second) given new new (sym c.of.ensures.disks) refl
    (cartridge_read state effect wanted given c.in-Ok.cartridge.disks new c.in-Ok.cartridge.contents lines
    c.in-Ok.ensures.gives c.check_cartridge.ensures.read)

pub returns-in-NotOurs-clause-text : goal.returns-in-NotOurs-clause-text
returns-in-NotOurs-clause-text g c =
    let state = g.D.Disk.state in
    let old = both c.args.first c.args.second in
    let mid = both c.into_disks-first.result.0 c.into_disks-first.result.1 in
    let given = c.of.result.disks in
    let left = c.in-Err.refused.shelved.disks in
    let from = sym c.of.ensures.disks in
    let keeps =
    moved (KeepsDisks state) old given mid left from c.into_disks-first.ensures c.in-Err.ensures.disks in
    let why =
    moved (IsNotOpened state NotOurs) old given mid left from c.into_disks-first.ensures
    (subst (λ (error : CartridgeError). IsNotOpened state error given left) c.in-NotOurs.is c.in-Err.ensures.refused) in
    shown_again state old mid (disks_checked c.check_store.result) why keeps g.met.D.Disk.is_disk
    c.check_store.ensures.rests c.check_store.result.lines c.check_store.ensures.text

pub returns-in-NotOurs-clause-read : goal.returns-in-NotOurs-clause-read
returns-in-NotOurs-clause-read g c =
    let state = g.D.Disk.state in
    let old = both c.args.first c.args.second in
    let mid = both c.into_disks-first.result.0 c.into_disks-first.result.1 in
    let given = c.of.result.disks in
    let left = c.in-Err.refused.shelved.disks in
    let why =
    moved (IsNotOpened state NotOurs) old given mid left (sym c.of.ensures.disks) c.into_disks-first.ensures
    (subst (λ (error : CartridgeError). IsNotOpened state error given left) c.in-NotOurs.is c.in-Err.ensures.refused) in
    none_read_of state g.D.Disk.effect (is_some c.args.reports) old mid (disks_checked c.check_store.result)
    c.check_store.result.lines why

pub returns-in-NotOurs-clause-any_moment : goal.returns-in-NotOurs-clause-any_moment
returns-in-NotOurs-clause-any_moment g c = λ honest.
    let state = g.D.Disk.state in
    let old = both c.args.first c.args.second in
    let mid = both c.into_disks-first.result.0 c.into_disks-first.result.1 in
    let given = c.of.result.disks in
    let left = c.in-Err.refused.shelved.disks in
    let from = sym c.of.ensures.disks in
    let keeps =
    moved (KeepsDisks state) old given mid left from c.into_disks-first.ensures c.in-Err.ensures.disks in
    let why =
    moved (IsNotOpened state NotOurs) old given mid left from c.into_disks-first.ensures
    (subst (λ (error : CartridgeError). IsNotOpened state error given left) c.in-NotOurs.is c.in-Err.ensures.refused) in
    let opened =
    moved (λ a b. AreHonest state a → TwoLeave state a b (MayLeave state a)) old given mid left from
    c.into_disks-first.ensures c.in-Err.ensures.any_moment in
    moments_again state old mid (disks_checked c.check_store.result) why keeps g.met.D.Disk.is_disk
    c.check_store.ensures.rests honest (opened honest)
    (c.check_store.ensures.any_moment (keeps.0.stays_honest honest.0))

pub returns-after-error-clause-text : goal.returns-after-error-clause-text
returns-after-error-clause-text g c =
    let state = g.D.Disk.state in
    let printed : PrintsRefusal c.in-Err.refused.error c.match-error.lines =
    elim c.match-error.branch [
      | in-Damaged w ↦ rw (w.in-Damaged.is, w.lines-is) w.damaged_text-lines.ensures.ok
      | in-BadRecord w ↦ rw (w.in-BadRecord.is, w.lines-is) w.bad_record_text-lines.ensures.ok
      | in-Device w ↦ rw w.in-Device.is w.lines-is
      | in-NoMemory w ↦ rw w.in-NoMemory.is w.lines-is
    ] in
    let given = c.of.result.disks in
    let left = c.in-Err.refused.shelved.disks in
    moved
    (λ a b. IfOk c.match-error.lines
    (λ text. AreHonest state a → SideText (seen_of_two state a) text × OnlyOfTwo state a b))
    (both c.args.first c.args.second) given
    (both c.into_disks-first.result.0 c.into_disks-first.result.1) left (sym c.of.ensures.disks)
    c.into_disks-first.ensures
    (refusal_shown state given left c.in-Err.refused.error c.match-error.lines c.in-Err.ensures.refused printed)

pub returns-after-error-clause-read : goal.returns-after-error-clause-read
returns-after-error-clause-read g c =
    let state = g.D.Disk.state in
    let effect = g.D.Disk.effect in
    let wanted = is_some c.args.reports in
    let printed : PrintsRefusal c.in-Err.refused.error c.match-error.lines =
    elim c.match-error.branch [
      | in-Damaged w ↦ rw (w.in-Damaged.is, w.lines-is) w.damaged_text-lines.ensures.ok
      | in-BadRecord w ↦ rw (w.in-BadRecord.is, w.lines-is) w.bad_record_text-lines.ensures.ok
      | in-Device w ↦ rw w.in-Device.is w.lines-is
      | in-NoMemory w ↦ rw w.in-NoMemory.is w.lines-is
    ] in
    let given = c.of.result.disks in
    let left = c.in-Err.refused.shelved.disks in
    moved
    (λ a b. OnOk c.match-error.lines (AreHonest state a → HaveRead state effect wanted a b))
    (both c.args.first c.args.second) given
    (both c.into_disks-first.result.0 c.into_disks-first.result.1) left (sym c.of.ensures.disks)
    c.into_disks-first.ensures
    (refusal_read state effect wanted given left left c.in-Err.refused.error c.match-error.lines
    c.in-Err.ensures.refused printed)
