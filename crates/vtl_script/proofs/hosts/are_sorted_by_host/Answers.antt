use Rattle.std.proofs.Common.{◌≡◌, ◌-◌, get_or, sym, ap, ◌∙◌, refl, arith}
use Rattle.std.proofs.lemmas.Bool.Decides.{nat_tests}
use Rattle.std.proofs.lemmas.List.{get_or_default}
use Rattle.std.proofs.lemmas.List.Sorted.{IsNonDecreasingBy-from_all_adjacent}
use Rattle.vtl_script.specs.declared.lines.Line.{Line}
use Rattle.vtl_script.proofs.hosts.are_sorted_by_host.Goals as goal

pub returns-then-number : goal.returns-then-number
returns-then-number c =
    let i = c.loop-i.i in
    let lines = c.args.lines.now in
    let here = c.index-lines-i.result in
    let before = c.index-lines-i-in-loop-i.result in (
      λ is. absurd (cc),
      λ rising.
          let order = rising (i - 1) i here (omega arith) (omega (arith, c.loop-i-test.true)) in
          let same : get_or lines (i - 1) here ≡ before =
          get_or_default lines (i - 1) here before (omega (arith, c.loop-i-test.true))
          ∙ sym c.index-lines-i-in-loop-i.is in
          absurd (grind (
            arith,
            nat_tests,
            order,
            ap (λ (line : Line). line.host) same,
            ap (λ (line : Line). line.host) c.index-lines-i.is,
            c.if-number.true,
            c.number.ensures.value,
            c.number-in-loop-i.ensures.value,
          )),
    )

pub returns : goal.returns
returns c = (
  λ is. IsNonDecreasingBy-from_all_adjacent (λ line. line.host) c.args.lines.now
      (λ k d h. c.loop-i.invariant k d (omega (arith, h, c.loop-i-test.false))),
  λ rising. refl,
)
