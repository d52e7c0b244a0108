use Rattle.std.proofs.Common.{◌==◌, length, Ok, sym, ap, ◌∙◌, arith}
use Rattle.vtl_script.proofs.SplitLemmas.{found_in, missed_in}
use Rattle.vtl_script.proofs.ReadingLemmas.{searched_on, not_shown}
use Rattle.vtl_script.proofs.line_readers.LineReader.find.Goals as goal

pub returns-in-Some-clause-found : goal.returns-in-Some-clause-found
returns-in-Some-clause-found g c =
    let so = c.loop-place.invariant.0 in
    found_in (λ byte. byte == 10) c.loop-place.self.unread c.unread-unread.result.now c.loop-place.searched
    c.in-Some.place c.unread-unread.ensures.bytes so.within so.none
    (sym c.place_of.ensures.place ∙ c.in-Some.is)

pub returns-then-searched-gt-LINE_BYTES-clause-found : goal.returns-then-searched-gt-LINE_BYTES-clause-found
returns-then-searched-gt-LINE_BYTES-clause-found g c =
    let so = c.loop-place.invariant.0 in (
      missed_in (λ byte. byte == 10) c.loop-place.self.unread c.unread-unread.result.now c.loop-place.searched
          c.unread-unread.ensures.bytes so.within so.none
          (sym c.place_of.ensures.place ∙ c.in-None.is),
      omega (arith, ap length c.unread-unread.ensures.bytes),
    )

pub returns-then-not-branch-clause-found : goal.returns-then-not-branch-clause-found
returns-then-not-branch-clause-found g c =
    let so = c.loop-place.invariant.0 in
    let end = c.fill.ensures.end (c.in_ok-fill.was ∙ ap Ok c.if-not-branch.true) in (
      rw end.1 (missed_in (λ byte. byte == 10) c.loop-place.self.unread c.unread-unread.result.now
          c.loop-place.searched c.unread-unread.ensures.bytes so.within so.none
          (sym c.place_of.ensures.place ∙ c.in-None.is)),
      end.0,
    )

pub loop-place-preserved : goal.loop-place-preserved
loop-place-preserved g c =
    let so = c.loop-place.invariant.0 in
    let none = missed_in (λ byte. byte == 10) c.loop-place.self.unread c.unread-unread.result.now
    c.loop-place.searched c.unread-unread.ensures.bytes so.within so.none
    (sym c.place_of.ensures.place ∙ c.in-None.is) in (
      searched_on _ _ _ c.args.self.now c.loop-place.self c.fill.new.self (length c.unread-unread.result.now) so.comes
          none (ap length c.unread-unread.ensures.bytes) c.in_ok-fill.ensures.comes,
      λ shows. absurd (not_shown c.args.self.now c.loop-place.self none
          (omega (arith, ap length c.unread-unread.ensures.bytes)) (λ so. (c.loop-place.invariant.1 so).0) shows),
    )

pub returns-in_err-fill-clause-due : goal.returns-in_err-fill-clause-due
returns-in_err-fill-clause-due g c = λ shows.
    let so = c.loop-place.invariant.0 in
    let none = missed_in (λ byte. byte == 10) c.loop-place.self.unread c.unread-unread.result.now
    c.loop-place.searched c.unread-unread.ensures.bytes so.within so.none
    (sym c.place_of.ensures.place ∙ c.in-None.is) in
    absurd (not_shown c.args.self.now c.loop-place.self none
    (omega (arith, ap length c.unread-unread.ensures.bytes)) (λ so. (c.loop-place.invariant.1 so).0) shows)

pub returns-then-not-branch-clause-due : goal.returns-then-not-branch-clause-due
returns-then-not-branch-clause-due g c = λ shows.
    let so = c.loop-place.invariant.0 in
    let none = missed_in (λ byte. byte == 10) c.loop-place.self.unread c.unread-unread.result.now
    c.loop-place.searched c.unread-unread.ensures.bytes so.within so.none
    (sym c.place_of.ensures.place ∙ c.in-None.is) in
    absurd (not_shown c.args.self.now c.loop-place.self none
    (omega (arith, ap length c.unread-unread.ensures.bytes)) (λ so. (c.loop-place.invariant.1 so).0) shows)
